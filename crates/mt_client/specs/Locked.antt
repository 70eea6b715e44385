-- The lines that tell what is locked of mounts.
-- A word with no source is this project's rule.
use Rattle.std.specs.Prelude.{ℕ, List, Option}
use Rattle.mt_locks.specs.MountLocks.{locked_mount}
use Rattle.mt_info.specs.LockLine.{lock_line, IsLockRow}
use Rattle.mt_client.specs.RisingLines.{IsLineAbove, IsLineOf, AreRisingLines}

-- the line of a mount of this ID, which is above the last one, if there was one
abbrev pub IsLockOf : Option ℕ → ℕ → List (List ℕ) → Type 0
IsLockOf last id lines = IsLineOf locked_mount lock_line IsLockRow last id lines

-- the line of some mount with an ID above the last one
abbrev pub IsLockAbove : Option ℕ → List (List ℕ) → Type 0
IsLockAbove last lines = IsLineAbove locked_mount lock_line IsLockRow last lines

-- the lines of so many mounts, by rising ID
abbrev pub AreLockLines : ℕ → List (List ℕ) → Type 0
AreLockLines count lines = AreRisingLines locked_mount lock_line IsLockRow count lines
