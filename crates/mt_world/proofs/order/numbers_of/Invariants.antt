use Rattle.std.proofs.Common.{◌≡◌, ◌++◌, map, drop}
use Rattle.mt_world.specs.declared.order.Turn.{Turn}
use Rattle.mt_world.proofs.order.numbers_of.Given as goal

abbrev pub invariant-turns : goal.invariant-turns
invariant-turns l = l.numbers.items ++ map (λ (t : Turn). t.number) (drop l.turn-index l.turns) ≡ map (λ (t : Turn). t.number) l.turns
