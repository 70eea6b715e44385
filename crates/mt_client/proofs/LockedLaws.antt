-- Lines that tell what is locked, by rising mount.
use Rattle.std.proofs.Common.{◌≡◌, ℕ, false, List, [], ◌∷◌, Option}
use Rattle.mt_skel.specs.Rising.{is_above}
use Rattle.mt_locks.specs.declared.mount_locks.MountLocks.{MountLocks}
use Rattle.mt_locks.specs.MountLocks.{locked_mount}
use Rattle.mt_info.specs.LockLine.{lock_line, IsLockRow}
use Rattle.mt_info.proofs.LockLineLaws.{lock_line-injective}
use Rattle.mt_client.specs.Locked.{IsLockAbove}
use Rattle.mt_client.proofs.RisingLaws.{none_above}

-- where the mount of a line is not above the last one, the line tells of none that is
pub no_lock_above : (last : Option ℕ) (text : List ℕ) (a : MountLocks) → IsLockRow a → text ≡ lock_line a → is_above last a.mount ≡ false → IsLockAbove last (text ∷ []) → ⊥
no_lock_above last text a p e off there =
    let lines = there.3 in
    let same : text ≡ lock_line there.0 = cc in
    none_above locked_mount lock_line IsLockRow lock_line-injective last text a there.0 p there.1 e off there.2 same
