-- The line that tells what is locked of a mount.
-- A word with no source is this project's rule.
use Rattle.std.specs.Prelude.{◌≡◌, ℕ, ◌<◌, ◌^◌, true, List, [], ◌∷◌, ◌++◌, codes, decimal, IsTrue}
use Rattle.std.specs.List.{join_with_byte}
use Rattle.mt_locks.specs.declared.mount_locks.MountLocks.{MountLocks}
use Rattle.mt_locks.specs.MountLocks.{locks_some}
use Rattle.mt_info.specs.RowLine.{word_if}

-- a word for its place, and one for each attribute that is locked
abbrev pub lock_words : MountLocks → List (List ℕ)
lock_words k =
    word_if k.place (codes "place") ++ word_if k.ro (codes "ro") ++ word_if k.nosuid (codes "nosuid") ++ word_if k.nodev (codes "nodev") ++ word_if k.noexec (codes "noexec")
    ++ word_if k.atime (codes "atime")

-- the line without its line end: the mount, and these words, joined by commas
abbrev pub lock_line : MountLocks → List ℕ
lock_line k = decimal k.mount ++ 32 ∷ join_with_byte 44 (lock_words k)

-- the line with its line end
abbrev pub whole_lock_line : MountLocks → List ℕ
whole_lock_line k = lock_line k ++ 10 ∷ []

-- something is locked of a mount that has a number
pub record IsLockRow (k : MountLocks) : Type 0 where
  pub small : k.mount < 2 ^ 64
  pub some : IsTrue (locks_some k)
