use Rattle.std.proofs.Common.{List, ap, sym, ◌∙◌, subst}
use Rattle.crossbeam_queue.specs.Fifo.{Learns}
use Rattle.mt_queue.specs.declared.rule.PassView.{PassView}
use Rattle.mt_queue.specs.PassViews.{Item}
use Rattle.mt_queue.specs.Rule.{KeepsRule}
use Rattle.mt_queue.proofs.SplitLaws.{hands_over}
use Rattle.mt_queue.proofs.JoinLaws.{clashes, never}
use Rattle.mt_queue.proofs.line.clash.Goals as goal

pub another-moved-requires-clause-rule : goal.another-moved-requires-clause-rule
another-moved-requires-clause-rule c = hands_over _ _ c.requires.receiver.may_pop c.requires.receiver.no_push

pub absorb-requires-clause-rule : goal.absorb-requires-clause-rule
absorb-requires-clause-rule c = clashes _ _ _ _ c.requires.line.1 (ap (λ (v : PassView). v.pops) c.another-moved.ensures.rule.1 ∙ c.requires.receiver.may_pop)

pub learn_as-requires-clause-rule : goal.learn_as-requires-clause-rule
learn_as-requires-clause-rule c = subst (λ (v : PassView). Learns KeepsRule c.absorb.new.pass.id v (λ (items : List Item). ⊥)) (sym c.absorb.ensures.rule) (never c.absorb.new.pass.id)
