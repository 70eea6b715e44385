use Rattle.std.proofs.Common.{◌≡◌, ◌-◌, ◌≤◌, length}
use Rattle.mt_mounts.specs.Forest.{is_below}
use Rattle.mt_mounts.proofs.Walks.{below_within}
use Rattle.mt_bind.proofs.pivoting.is_below.Given as goal

-- the steps that are left meet the mount where all steps from the start do
abbrev pub invariant-up : goal.invariant-up
invariant-up l = record {
  within : l._step ≤ length l.forest.mounts;
  leads : below_within l.forest.mounts l.top (length l.forest.mounts - l._step) l.here ≡ is_below l.forest.mounts l.top l.fn.id;
}
