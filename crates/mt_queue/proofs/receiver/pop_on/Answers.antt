use Rattle.mt_queue.proofs.StepLaws.{pops, drains}
use Rattle.mt_queue.proofs.KeptLaws.{took_more, took_same}
use Rattle.mt_queue.proofs.receiver.pop_on.Goals as goal

pub pop_as-requires-clause-rule : goal.pop_as-requires-clause-rule
pop_as-requires-clause-rule g c = (pops _ _ c.requires.may_pop, drains _ _ c.requires.may_pop)

pub returns-in-Some-clause-pass : goal.returns-in-Some-clause-pass
returns-in-Some-clause-pass g c = (took_more _ _ _ _ c.in-Some.post c.requires c.pop_as.ensures.queue c.in-Some.ensures.rule, c.pop_as.ensures.queue)

pub returns-in-None-clause-pass : goal.returns-in-None-clause-pass
returns-in-None-clause-pass g c = (took_same _ _ _ _ c.requires c.pop_as.ensures.queue c.in-None.ensures.rule.0, c.pop_as.ensures.queue)
