use Rattle.mt_session.proofs.EndLaws.{whole_uncut, whole_by_answer, uncut_cause, uncut_run}
use Rattle.mt_session.proofs.answering.answer_with.Goals as goal

pub returns-in-Ok-clause-end : goal.returns-in-Ok-clause-end
returns-in-Ok-clause-end g c = whole_by_answer c.args.end c.requires

pub returns-in-Ok-clause-cut : goal.returns-in-Ok-clause-cut
returns-in-Ok-clause-cut g c t = uncut_cause c.args.end _ _ (whole_uncut c.args.end c.requires) (c.in-Ok.ensures.counted t)

pub returns-in-Ok-clause-cut_run : goal.returns-in-Ok-clause-cut_run
returns-in-Ok-clause-cut_run g c t none = uncut_run c.args.end _ (whole_uncut c.args.end c.requires) (c.in-Ok.ensures.served t none)
