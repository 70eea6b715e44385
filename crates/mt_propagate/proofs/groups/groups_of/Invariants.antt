use Rattle.std.proofs.Common.{◌≡◌, ◌++◌, drop}
use Rattle.std.specs.List.{filter_map}
use Rattle.mt_propagate.specs.World.{world_view, group_of}
use Rattle.mt_propagate.proofs.groups.groups_of.Given as goal

-- the mounts passed have their groups listed
abbrev pub invariant-loop-id : goal.invariant-loop-id
invariant-loop-id l = l.groups.items ++ filter_map (group_of (world_view l.world)) (drop l.id-index l.ids) ≡ filter_map (group_of (world_view l.world)) l.ids
