-- What is locked in the world of tables.
use Rattle.std.proofs.Common.{◌≡◌, subst, sym}
use Rattle.mt_locks.specs.Locks.{LocksView}
use Rattle.mt_propagate.specs.World.{WorldView}
use Rattle.mt_propagate.specs.WellFormed.{IsWellFormed}
use Rattle.mt_guard.specs.Changing.{with_locks}

-- a world is well-formed whatever is locked
pub formed_locked : (w v : WorldView) (l : LocksView) → v ≡ with_locks l w → IsWellFormed w → IsWellFormed v
formed_locked w v l e h = subst IsWellFormed (sym e) q
  where
    q : IsWellFormed (with_locks l w)
    q = record {
      forest = h.forest;
      peering = h.peering;
      same_mounts = h.same_mounts;
      from_one = h.from_one;
      below = h.below;
      group_fs = h.group_fs;
      master_fs = h.master_fs;
      trees = h.trees;
    }
