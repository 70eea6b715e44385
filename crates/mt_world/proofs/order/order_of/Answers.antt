use Rattle.std.proofs.Common.{◌∙◌, map, ap}
use Rattle.mt_world.specs.declared.order.Turn.{Turn}
use Rattle.mt_world.proofs.OrderLaws.{ordered}
use Rattle.mt_world.proofs.order.order_of.Goals as goal

pub returns-clause-all : goal.returns-clause-all
returns-clause-all c k l =
    ordered _ k c.in_ok-turns.turns.items c.sort_unstable_by_key.new.self.items c.in_ok-order.order.items l c.in_ok-turns.ensures.turns c.sort_unstable_by_key.ensures.permutation
    (c.in_ok-order.ensures.numbers ∙ ap (map (λ (t : Turn). t.number)) c.as_slice-2.ensures.value)
