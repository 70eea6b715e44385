use Rattle.mt_propagate.specs.World.{world_view}
use Rattle.mt_propagate.specs.WellFormed.{IsWellFormed}
use Rattle.mt_examples.proofs.receivers.counted_in_full_world.Given as goal

-- the world is in order after each doubling
abbrev pub invariant-doublings : goal.invariant-doublings
invariant-doublings l = IsWellFormed (world_view l.world)
