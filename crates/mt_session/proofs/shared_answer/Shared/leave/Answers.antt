use Rattle.mt_session.proofs.SharedLaws.{end_left, end_sees}
use Rattle.mt_session.proofs.shared_answer.Shared.leave.Goals as goal

pub returns-clause-left : goal.returns-clause-left
returns-clause-left g c = end_left c.args.session.now c.end_watcher-posts.result _ c.end_watcher-posts.ensures.ended

pub returns-clause-sight : goal.returns-clause-sight
returns-clause-sight g c = end_sees c.args.session.now c.end_watcher-posts.result _ c.end_watcher-posts.ensures.ended
