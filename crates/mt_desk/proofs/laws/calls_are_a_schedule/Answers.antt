use Rattle.mt_desk.proofs.FollowLaws.{calls_follow}
use Rattle.mt_desk.proofs.laws.calls_are_a_schedule.Goals as goal

pub returns : goal.returns
returns c = calls_follow
