use Rattle.std.proofs.Common.{◌≡◌, ◌++◌, drop}
use Rattle.mt_propagate.specs.World.{world_view}
use Rattle.mt_unmount.specs.Detaching.{standing_at}
use Rattle.mt_unmount.proofs.detaching.push_standing.Given as goal

-- the mounts passed have what stands on them
abbrev pub invariant-loop-target : goal.invariant-loop-target
invariant-loop-target l = l.ids.items ++ standing_at (world_view l.world) (drop l.target-index l.targets) l.dir ≡ l.initial.ids.items ++ standing_at (world_view l.world) l.targets l.dir
