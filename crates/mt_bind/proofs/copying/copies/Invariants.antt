use Rattle.std.proofs.Common.{◌≡◌, ◌++◌, map, drop}
use Rattle.mt_mounts.specs.Forest.{id_of}
use Rattle.mt_propagate.specs.World.{world_view}
use Rattle.mt_bind.specs.Copying.{copy_of}
use Rattle.mt_bind.proofs.copying.copies.Given as goal

-- the mounts passed have their copies
abbrev pub invariant-loop-mount : goal.invariant-loop-mount
invariant-loop-mount l = l.copies.items ++ map (copy_of (world_view l.world) (map id_of l.originals)) (drop l.mount-index l.originals) ≡ map (copy_of (world_view l.world) (map id_of l.originals)) l.originals
