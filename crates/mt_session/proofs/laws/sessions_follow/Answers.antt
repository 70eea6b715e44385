use Rattle.mt_session.proofs.FollowLaws.{sessions_follow}
use Rattle.mt_session.proofs.AnswerLaws.{answers_tell}
use Rattle.mt_session.proofs.laws.sessions_follow.Goals as goal

pub returns-clause-schedule : goal.returns-clause-schedule
returns-clause-schedule c = sessions_follow

pub returns-clause-texts : goal.returns-clause-texts
returns-clause-texts c = answers_tell
