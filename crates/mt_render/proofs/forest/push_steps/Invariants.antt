use Rattle.std.proofs.Common.{◌≡◌, ◌-◌, ◌++◌, reverse, map, length, drop}
use Rattle.mt_render.specs.Steps.{steps_at}
use Rattle.mt_render.proofs.forest.push_steps.Given as goal

-- the children from the last one down
abbrev pub invariant-children : goal.invariant-children
invariant-children l = l.stack.items ≡ l.initial.stack.items ++ reverse (steps_at l.depth (map (λ row. row.now) (drop (length l.children - l.step) l.children)))
