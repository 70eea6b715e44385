use Rattle.mt_queue.proofs.JoinLaws.{joins}
use Rattle.mt_queue.proofs.meeting.finish_on.Goals as goal

pub absorb-requires-clause-rule : goal.absorb-requires-clause-rule
absorb-requires-clause-rule c = joins _ _ _ _ c.requires.sender.may_push c.requires.receiver.may_pop
