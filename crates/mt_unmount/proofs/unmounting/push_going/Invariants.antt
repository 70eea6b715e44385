use Rattle.std.proofs.Common.{◌≡◌, ◌++◌, drop}
use Rattle.mt_propagate.specs.World.{world_view}
use Rattle.mt_unmount.specs.Unmounting.{going_at}
use Rattle.mt_unmount.proofs.unmounting.push_going.Given as goal

-- the targets passed have what goes there
abbrev pub invariant-loop-target : goal.invariant-loop-target
invariant-loop-target l = l.ids.items ++ going_at (world_view l.world) (drop l.target-index l.targets) l.dir ≡ l.initial.ids.items ++ going_at (world_view l.world) l.targets l.dir
