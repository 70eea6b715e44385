use Rattle.std.proofs.Common.{◌≡◌, ◌++◌, drop}
use Rattle.std.specs.List.{flat_map}
use Rattle.mt_skel.specs.Keyed.{among}
use Rattle.mt_propagate.specs.World.{world_view}
use Rattle.mt_unmount.specs.Holding.{staying_on}
use Rattle.mt_unmount.proofs.holding.staying.Given as goal

-- the candidates passed have those that stand on them
abbrev pub invariant-loop-id : goal.invariant-loop-id
invariant-loop-id l = l.ids.items ++ flat_map (staying_on (world_view l.world) (among l.candidates)) (drop l.id-index l.id-items) ≡ flat_map (staying_on (world_view l.world) (among l.candidates)) l.id-items
