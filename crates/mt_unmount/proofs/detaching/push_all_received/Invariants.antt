use Rattle.std.proofs.Common.{◌≡◌, ◌++◌, drop}
use Rattle.std.specs.List.{flat_map}
use Rattle.mt_propagate.specs.World.{world_view}
use Rattle.mt_unmount.specs.Detaching.{received}
use Rattle.mt_unmount.proofs.detaching.push_all_received.Given as goal

-- the mounts passed have what they receive
abbrev pub invariant-loop-id : goal.invariant-loop-id
invariant-loop-id l = l.ids.items ++ flat_map (received (world_view l.world)) (drop l.id-index l.tree) ≡ l.initial.ids.items ++ flat_map (received (world_view l.world)) l.tree
