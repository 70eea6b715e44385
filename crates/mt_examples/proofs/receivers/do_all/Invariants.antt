use Rattle.mt_propagate.specs.World.{world_view}
use Rattle.mt_propagate.specs.WellFormed.{IsWellFormed}
use Rattle.mt_examples.proofs.receivers.do_all.Given as goal

-- the world is in order after each command
abbrev pub invariant-commands : goal.invariant-commands
invariant-commands l = IsWellFormed (world_view l.world)
