use Rattle.std.proofs.Common.{◌-◌, length}
use Rattle.mt_skel.specs.Keyed.{among}
use Rattle.mt_propagate.specs.World.{world_view}
use Rattle.mt_unmount.proofs.HoldingLaws.{IsMet}
use Rattle.mt_unmount.proofs.holding.holding.Given as goal

-- what stands under the mounts visited was met
abbrev pub invariant-holding : goal.invariant-holding
invariant-holding l = IsMet (world_view l.world) (among l.candidates) l.visited l.set.keys

abbrev pub decreases-holding : goal.decreases-holding
decreases-holding l = length l.world.forest.mounts - l.visited
