use Rattle.std.proofs.Common.{◌≡◌, ◌++◌, drop}
use Rattle.std.specs.List.{filter_map}
use Rattle.mt_skel.specs.Keyed.{among}
use Rattle.mt_propagate.specs.World.{world_view}
use Rattle.mt_unmount.specs.Taking.{relocation_past}
use Rattle.mt_unmount.proofs.taking.relocations.Given as goal

-- the mounts passed have what comes from their roots
abbrev pub invariant-loop-id : goal.invariant-loop-id
invariant-loop-id l = l.relocations.items ++ filter_map (relocation_past (world_view l.world) (among l.gone)) (drop l.id-index l.ids) ≡ filter_map (relocation_past (world_view l.world) (among l.gone)) l.ids
