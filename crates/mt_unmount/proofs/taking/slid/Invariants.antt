use Rattle.std.proofs.Common.{◌≡◌, ◌-◌, ◌≤◌, length}
use Rattle.mt_skel.specs.Keyed.{among}
use Rattle.mt_skel.specs.Chain.{follow}
use Rattle.mt_propagate.specs.World.{world_view}
use Rattle.mt_unmount.specs.Sliding.{slide, slid}
use Rattle.mt_unmount.proofs.taking.slid.Given as goal

-- the steps that are left lead from here to the end
abbrev pub invariant-sliding : goal.invariant-sliding
invariant-sliding l = record {
  within : l._step ≤ length l.world.forest.mounts;
  leads : follow (slide (world_view l.world) (among l.gone)) (length l.world.forest.mounts - l._step) l.here ≡ slid (world_view l.world) (among l.gone) l.fn.place;
}
