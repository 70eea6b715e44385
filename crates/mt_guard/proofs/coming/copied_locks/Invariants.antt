use Rattle.std.proofs.Common.{◌≡◌, ◌++◌, map, drop}
use Rattle.mt_propagate.specs.World.{world_view}
use Rattle.mt_guard.specs.Coming.{original_locks}
use Rattle.mt_guard.proofs.coming.copied_locks.Given as goal

-- the mounts passed have their copies
abbrev pub invariant-loop-mount : goal.invariant-loop-mount
invariant-loop-mount l = l.rows.items ++ map (original_locks (world_view l.world) l.all) (drop l.mount-index l.mounts) ≡ map (original_locks (world_view l.world) l.all) l.mounts
