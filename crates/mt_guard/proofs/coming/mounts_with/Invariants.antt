use Rattle.std.proofs.Common.{◌≡◌, ◌++◌, map, drop}
use Rattle.mt_propagate.specs.World.{world_view}
use Rattle.mt_propagate.specs.Named.{mount_or_unknown}
use Rattle.mt_guard.proofs.coming.mounts_with.Given as goal

-- the IDs passed have their mounts
abbrev pub invariant-loop-id : goal.invariant-loop-id
invariant-loop-id l = l.mounts.items ++ map (mount_or_unknown (world_view l.world)) (drop l.id-index l.ids) ≡ map (mount_or_unknown (world_view l.world)) l.ids
