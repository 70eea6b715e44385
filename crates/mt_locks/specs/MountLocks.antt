-- What is locked of one mount (mount_namespaces(7), restrictions on mount namespaces).
-- A word with no source is this project's rule.
use Rattle.std.specs.Prelude.{ℕ, Bool, true, false, ◌||◌}
use Rattle.mt_mounts.specs.declared.mount.Attrs.{Attrs}
use Rattle.mt_locks.specs.declared.mount_locks.MountLocks.{MountLocks}

-- the mount of which something is locked
abbrev pub locked_mount : MountLocks → ℕ
locked_mount k = k.mount

-- nothing is locked of a mount
abbrev pub unlocked : ℕ → MountLocks
unlocked i = record { mount = i; place = false; ro = false; nosuid = false; nodev = false; noexec = false; atime = false }

-- all attributes are locked too: ro, nosuid, nodev and noexec where they are set, and the access times (mount_namespaces(7))
abbrev pub with_all_attrs : Attrs → MountLocks → MountLocks
with_all_attrs a k = record {
  mount = k.mount;
  place = k.place;
  ro = k.ro || a.ro;
  nosuid = k.nosuid || a.nosuid;
  nodev = k.nodev || a.nodev;
  noexec = k.noexec || a.noexec;
  atime = true;
}

-- the place is not locked any more
abbrev pub without_place : MountLocks → MountLocks
without_place k = record k { place = false }

-- something is locked
abbrev pub locks_some : MountLocks → Bool
locks_some k = k.place || k.ro || k.nosuid || k.nodev || k.noexec || k.atime
