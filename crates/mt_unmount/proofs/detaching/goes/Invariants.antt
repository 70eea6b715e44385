use Rattle.std.proofs.Common.{◌≡◌, ◌-◌, ◌≤◌, length, not}
use Rattle.mt_skel.specs.Keyed.{among}
use Rattle.mt_skel.specs.Chain.{chain}
use Rattle.mt_mounts.specs.Forest.{parent, parents_up}
use Rattle.mt_unmount.specs.Detaching.{goes_up}
use Rattle.mt_unmount.proofs.detaching.goes.Given as goal

-- the mounts that are left on the way tell what all of them do
abbrev pub invariant-up : goal.invariant-up
invariant-up l = record {
  within : l._step ≤ length l.world.forest.mounts;
  tells : goes_up (among l.loose) (λ j. not (among l.bound j)) (chain (parent l.world.forest.mounts) (length l.world.forest.mounts - l._step) l.here)
      ≡ goes_up (among l.loose) (λ j. not (among l.bound j)) (parents_up l.world.forest.mounts l.fn.id);
}
