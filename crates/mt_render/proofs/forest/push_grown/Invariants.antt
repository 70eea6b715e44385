use Rattle.std.proofs.Common.{◌≡◌, ◌++◌, reverse, length}
use Rattle.std.specs.List.{flat_map}
use Rattle.mt_render.specs.Steps.{top_step, steps_from}
use Rattle.mt_render.proofs.ForestLaws.{grown_at}
use Rattle.mt_render.proofs.forest.push_grown.Given as goal

-- what is drawn, and what the stack gives
abbrev pub invariant-steps : goal.invariant-steps
invariant-steps l =
    l.drawn.items ++ flat_map (grown_at l.children) (reverse l.stack.items) ≡ l.initial.drawn.items ++ steps_from l.children (length l.children) (top_step l.top)

abbrev pub decreases-steps : goal.decreases-steps
decreases-steps l = length (flat_map (grown_at l.children) (reverse l.stack.items))
