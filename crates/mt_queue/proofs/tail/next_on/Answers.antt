use Rattle.mt_queue.proofs.StepLaws.{pops_left, balances}
use Rattle.mt_queue.proofs.tail.next_on.Goals as goal

pub pop_as-requires-clause-rule : goal.pop_as-requires-clause-rule
pop_as-requires-clause-rule g c = (pops_left _ _ c.requires.may_push c.requires.may_pop, balances _ _ c.requires.may_push c.requires.may_pop)
