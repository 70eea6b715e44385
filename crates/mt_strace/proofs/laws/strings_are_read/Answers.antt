use Rattle.mt_strace.proofs.StringLaws.{strings_read}
use Rattle.mt_strace.proofs.laws.strings_are_read.Goals as goal

pub returns : goal.returns
returns c = strings_read
