-- What is locked of all mounts, and the owners of namespaces (mount_namespaces(7), restrictions on mount namespaces).
-- A word with no source is this project's rule.
use Rattle.std.specs.Prelude.{ℕ, Bool, cond, ◌&&◌, ◌==◌, List, [], ◌++◌, map, Option, is_some}
use Rattle.std.specs.List.{filter, find, list_any}
use Rattle.std.specs.Option.{option_map_or, option_to_list, unwrap_or}
use Rattle.mt_skel.specs.Keyed.{among}
use Rattle.mt_mounts.specs.declared.mount.Mount.{Mount}
use Rattle.mt_mounts.specs.Forest.{mount_at, root_mount}
use Rattle.mt_locks.specs.declared.mount_locks.MountLocks.{MountLocks}
use Rattle.mt_locks.specs.MountLocks.{locked_mount, unlocked, without_place, locks_some}

-- the namespaces that have another owner than 0, each with its owner, which stands for a user namespace; and what is locked of each
-- mount of which something is locked (mount_namespaces(7); that owners are numbers is this project's rule)
pub record LocksView : Type 0 where
  pub owners : List (ℕ × ℕ)
  pub mounts : List MountLocks

-- nothing is locked, and every namespace has the owner 0
abbrev pub no_locks : LocksView
no_locks = record { owners = []; mounts = [] }

-- the owner of a namespace
abbrev pub owner_of : LocksView → ℕ → ℕ
owner_of l n = option_map_or (λ (o : ℕ × ℕ). o.1) (find (λ (o : ℕ × ℕ). o.0 == n) l.owners) 0

-- what is locked of a mount
abbrev pub locks_of : LocksView → ℕ → MountLocks
locks_of l i = unwrap_or (find (λ (k : MountLocks). k.mount == i) l.mounts) (unlocked i)

-- a mount is locked on its place
abbrev pub is_locked : LocksView → ℕ → Bool
is_locked l i = list_any (λ (k : MountLocks). k.place && (k.mount == i)) l.mounts

-- the mounts that are
abbrev pub locked_ids : LocksView → List ℕ
locked_ids l = map locked_mount (filter (λ (k : MountLocks). k.place) l.mounts)

-- what is locked of a mount, once some mounts are not locked on their places any more
abbrev pub unlocked_by : List ℕ → MountLocks → MountLocks
unlocked_by met k = cond (among met k.mount) (without_place k) k

-- what will be locked where these mounts are unlocked, others come with these locks, and maybe a namespace with this owner
abbrev pub changed_locks : List ℕ → List MountLocks → Option (ℕ × ℕ) → LocksView → LocksView
changed_locks met came owner l = record { owners = l.owners ++ option_to_list owner; mounts = map (unlocked_by met) l.mounts ++ came }

-- what is locked of mounts that are there, and the owners of namespaces that are there
abbrev pub kept_locks : List Mount → LocksView → LocksView
kept_locks ms l = record {
  owners = filter (λ (o : ℕ × ℕ). is_some (root_mount ms o.0)) l.owners;
  mounts = filter (λ (k : MountLocks). is_some (mount_at ms k.mount) && locks_some k) l.mounts;
}
