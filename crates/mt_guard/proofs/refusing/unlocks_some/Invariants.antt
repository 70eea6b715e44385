use Rattle.std.proofs.Common.{◌≡◌, drop}
use Rattle.std.specs.List.{list_any}
use Rattle.mt_propagate.specs.World.{world_view}
use Rattle.mt_guard.specs.Refusals.{unlocks}
use Rattle.mt_guard.proofs.refusing.unlocks_some.Given as goal

-- the change takes away nothing that is locked of the mounts passed
abbrev pub invariant-loop-row : goal.invariant-loop-row
invariant-loop-row l = list_any (unlocks (world_view l.world) l.change l.top) (drop l.row-index l.world.locks.mounts) ≡ list_any (unlocks (world_view l.world) l.change l.top) l.world.locks.mounts
