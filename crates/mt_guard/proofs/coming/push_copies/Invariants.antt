use Rattle.std.proofs.Common.{◌≡◌, ◌++◌, map, drop}
use Rattle.mt_propagate.specs.World.{world_view}
use Rattle.mt_guard.specs.Coming.{locks_of_copy}
use Rattle.mt_guard.proofs.coming.push_copies.Given as goal

-- the mounts passed have their copies
abbrev pub invariant-loop-mount : goal.invariant-loop-mount
invariant-loop-mount l =
    l.rows.items ++ map (locks_of_copy (world_view l.world) l.foreign l.top) (drop l.mount-index l.mounts)
    ≡ l.initial.rows.items ++ map (locks_of_copy (world_view l.world) l.foreign l.top) l.mounts
