use Rattle.std.proofs.Common.{◌∙◌}
use Rattle.mt_desk.proofs.RuleLaws.{hands_over_as, joins_pair_as, learns_apart_as, parts_as, same_caller, paired}
use Rattle.mt_desk.proofs.history.tell_apart_on.Goals as goal

pub another-moved-requires-clause-rule : goal.another-moved-requires-clause-rule
another-moved-requires-clause-rule c = hands_over_as _ _ c.requires.beside

pub absorb-requires-clause-rule : goal.absorb-requires-clause-rule
absorb-requires-clause-rule c = joins_pair_as _ _ _ _ c.requires.caller (same_caller _ _ c.another-moved.ensures.rule.1 c.requires.beside)

pub learn_as-requires-clause-rule : goal.learn_as-requires-clause-rule
learn_as-requires-clause-rule c = learns_apart_as _ _ (paired _ _ _ _ _ c.absorb.ensures.rule)

pub another-requires-clause-rule : goal.another-requires-clause-rule
another-requires-clause-rule c = parts_as _ _ (paired _ _ _ _ _ (c.learn_as.ensures.queue.1 ∙ c.absorb.ensures.rule))
