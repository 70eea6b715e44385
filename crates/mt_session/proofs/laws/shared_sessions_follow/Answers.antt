use Rattle.mt_session.proofs.LeftLaws.{shared_sessions_follow}
use Rattle.mt_session.proofs.laws.shared_sessions_follow.Goals as goal

pub returns : goal.returns
returns c = shared_sessions_follow
