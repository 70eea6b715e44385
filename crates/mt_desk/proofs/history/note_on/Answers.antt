use Rattle.std.proofs.Common.{◌∙◌}
use Rattle.mt_desk.proofs.RuleLaws.{hands_over_as, joins_as, learns_as, adds_as, same_caller, met}
use Rattle.mt_desk.proofs.history.note_on.Goals as goal

pub another-moved-requires-clause-rule : goal.another-moved-requires-clause-rule
another-moved-requires-clause-rule g c = hands_over_as _ _ c.requires.caller

pub absorb-requires-clause-rule : goal.absorb-requires-clause-rule
absorb-requires-clause-rule g c = joins_as _ _ _ _ c.requires.keeper.knows (same_caller _ _ c.another-moved.ensures.rule.1 c.requires.caller)

pub learn_as-requires-clause-rule : goal.learn_as-requires-clause-rule
learn_as-requires-clause-rule g c = learns_as _ _ (met _ _ _ _ _ c.absorb.ensures.rule)

pub another-requires-clause-rule : goal.another-requires-clause-rule
another-requires-clause-rule g c = adds_as _ _ _ (met _ _ _ _ _ (c.learn_as.ensures.queue.1 ∙ c.absorb.ensures.rule))
