use Rattle.std.proofs.Common.{◌≡◌, ◌++◌, drop}
use Rattle.std.specs.List.{filter_map}
use Rattle.mt_propagate.specs.World.{world_view}
use Rattle.mt_unmount.specs.Holding.{around}
use Rattle.mt_unmount.proofs.holding.held.Given as goal

-- the mounts passed have those around them
abbrev pub invariant-loop-id : goal.invariant-loop-id
invariant-loop-id l = l.ids.items ++ filter_map (around (world_view l.world)) (drop l.id-index l.id-items) ≡ filter_map (around (world_view l.world)) l.id-items
