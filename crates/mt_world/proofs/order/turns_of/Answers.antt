use Rattle.std.proofs.Common.{◌∙◌, map, ap, refl}
use Rattle.mt_world.specs.declared.order.Turn.{Turn}
use Rattle.mt_world.proofs.OrderLaws.{turn_more}
use Rattle.mt_world.proofs.order.turns_of.Goals as goal

pub turns-preserved : goal.turns-preserved
turns-preserved c = ap (map (λ (t : Turn). t.number)) c.in_ok-push.ensures.items ∙ turn_more c.turns.turns.items c.turns.number _ c.turns.invariant refl
