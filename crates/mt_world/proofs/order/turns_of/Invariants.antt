use Rattle.std.proofs.Common.{◌≡◌, map}
use Rattle.std.specs.List.{range_with_len}
use Rattle.mt_world.specs.declared.order.Turn.{Turn}
use Rattle.mt_world.proofs.order.turns_of.Given as goal

abbrev pub invariant-turns : goal.invariant-turns
invariant-turns l = map (λ (t : Turn). t.number) l.turns.items ≡ range_with_len 0 l.number
