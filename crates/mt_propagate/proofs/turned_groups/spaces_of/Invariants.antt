use Rattle.std.proofs.Common.{◌≡◌, ◌++◌, map, drop}
use Rattle.mt_propagate.specs.World.{world_view, space_of}
use Rattle.mt_propagate.proofs.turned_groups.spaces_of.Given as goal

-- the namespaces of the mounts passed are listed
abbrev pub invariant-loop-id : goal.invariant-loop-id
invariant-loop-id l = l.spaces.items ++ map (space_of (world_view l.world)) (drop l.id-index l.ids) ≡ map (space_of (world_view l.world)) l.ids
