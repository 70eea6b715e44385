use Rattle.mt_help.proofs.ReadLaws.{example_read}
use Rattle.mt_help.proofs.laws.examples_are_read.Goals as goal

pub returns : goal.returns
returns c = example_read
