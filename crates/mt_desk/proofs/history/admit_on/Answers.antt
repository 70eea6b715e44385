use Rattle.mt_desk.proofs.RuleLaws.{admits_as, learns_fresh_as, same_keeper}
use Rattle.mt_desk.proofs.history.admit_on.Goals as goal

pub learn_as-requires-clause-rule : goal.learn_as-requires-clause-rule
learn_as-requires-clause-rule c = learns_fresh_as _ _ c.requires.knows

pub another-requires-clause-rule : goal.another-requires-clause-rule
another-requires-clause-rule c = admits_as _ _ (same_keeper _ _ c.learn_as.ensures.queue.1 c.requires.knows)
