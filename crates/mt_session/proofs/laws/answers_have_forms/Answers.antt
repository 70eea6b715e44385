use Rattle.mt_session.proofs.AnswerLaws.{answers_have_forms}
use Rattle.mt_session.proofs.laws.answers_have_forms.Goals as goal

pub returns : goal.returns
returns c = answers_have_forms
