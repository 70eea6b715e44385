use Rattle.mt_examples.proofs.AnswerLaws.{answers_are_read}
use Rattle.mt_examples.proofs.laws.answers_are_read.Goals as goal

pub returns : goal.returns
returns c = answers_are_read
