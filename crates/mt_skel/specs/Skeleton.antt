-- Directories: a skeleton is its filesystems and its directories, each in the order in which they were made. A filesystem's
-- number, the minor of its device, counts from 1 and a directory's from 0.
-- A word with no source is this project's rule.
use Rattle.std.specs.Prelude.{◌≡◌, ℕ, ◌+◌, ◌-◌, ◌*◌, ◌<◌, ◌≤◌, min, Bool, ◌&&◌, ◌==◌, nat_le, nat_lt, List, [], ◌∷◌, ◌++◌, length, take, drop, Option, Some, is_some, is_none, slice_index_or, slice_get, unwrap_or, Result}
use Rattle.std.specs.List.{position_from, starts_with}
use Rattle.mt_skel.specs.declared.fault.Fault.{Fault}
use Rattle.mt_skel.specs.declared.fault.Fault.TheVariants.{FilesystemExists, TooMany, NoFilesystem, NoEntry, EntryExists}
use Rattle.mt_skel.specs.Outcome.{refuse_if, outcome}
use Rattle.std.specs.Str.{bytes_eq}
use Rattle.std.specs.Cmp.Lexicographic.{pointwise}

pub record Filesystem : Type 0 where
  pub name : List ℕ
  pub kind : List ℕ
  pub source : List ℕ

-- a filesystem's number, and the names from its root down
pub record Directory : Type 0 where
  pub fs : ℕ
  pub path : List (List ℕ)

-- the room is by what limits are multiplied
pub record Skeleton : Type 0 where
  pub filesystems : List Filesystem
  pub directories : List Directory
  pub room : ℕ

abbrev pub empty_skeleton : Skeleton
empty_skeleton = record { filesystems = []; directories = []; room = 1 }

-- the limits of the server where the room is 1: filesystems, directories including the roots; and names from a root down,
-- whatever the room is
abbrev pub filesystem_limit : ℕ
filesystem_limit = 256

abbrev pub directory_limit : ℕ
directory_limit = 16384

abbrev pub depth_limit : ℕ
depth_limit = 32

-- the greatest room
abbrev pub room_limit : ℕ
room_limit = 256

-- the room of a skeleton, which is never above the greatest one
abbrev pub skel_room : Skeleton → ℕ
skel_room s = min s.room room_limit

-- the most filesystems and directories of a skeleton
abbrev pub filesystems_at_most : Skeleton → ℕ
filesystems_at_most s = filesystem_limit * skel_room s

abbrev pub directories_at_most : Skeleton → ℕ
directories_at_most s = directory_limit * skel_room s

abbrev pub path_eq : List (List ℕ) → List (List ℕ) → Bool
path_eq = pointwise bytes_eq

abbrev pub directory_eq : Directory → Directory → Bool
directory_eq d e = (d.fs == e.fs) && path_eq d.path e.path

-- whether there are a filesystem and a directory of these numbers
abbrev pub is_filesystem : Skeleton → ℕ → Bool
is_filesystem s f = nat_le 1 f && nat_le f (length s.filesystems)

abbrev pub is_directory : Skeleton → ℕ → Bool
is_directory s d = nat_lt d (length s.directories)

-- the filesystem numbered f, and the directory numbered d
abbrev pub filesystem : Skeleton → ℕ → Filesystem
filesystem s f = slice_index_or s.filesystems (f - 1) (record { name = []; kind = []; source = [] })

abbrev pub directory : Skeleton → ℕ → Directory
directory s d = slice_index_or s.directories d (record { fs = 0; path = [] })

-- the numbers of the filesystem with this name, and of this directory
abbrev pub fs_named : Skeleton → List ℕ → Option ℕ
fs_named s name = position_from (λ f. bytes_eq f.name name) 1 s.filesystems

abbrev pub directory_number : Skeleton → Directory → Option ℕ
directory_number s d = position_from (directory_eq d) 0 s.directories

-- the root directory of a filesystem
abbrev pub root_of : Skeleton → ℕ → ℕ
root_of s f = unwrap_or (directory_number s (record { fs = f; path = [] })) 0

-- the directory of this name in a directory
abbrev pub child : Skeleton → ℕ → List ℕ → Option ℕ
child s d name = directory_number s (record { fs = (directory s d).fs; path = (directory s d).path ++ name ∷ [] })

-- one directory is the other, or above it: they are of one filesystem, and the names of the one begin those of the other
abbrev pub holds : Skeleton → ℕ → ℕ → Bool
holds s outer inner =
    is_directory s inner && ((directory s outer).fs == (directory s inner).fs) && starts_with bytes_eq (directory s inner).path (directory s outer).path

-- the names from the first directory down to the second
abbrev pub path_below : Skeleton → ℕ → ℕ → List (List ℕ)
path_below s outer inner = drop (length (directory s outer).path) (directory s inner).path

-- one filesystem more, with its root directory
abbrev pub with_fs : Skeleton → Filesystem → Skeleton
with_fs s f = record s {
  filesystems = s.filesystems ++ f ∷ [];
  directories = s.directories ++ record { fs = length s.filesystems + 1; path = [] } ∷ [];
}

-- one directory more
abbrev pub with_dir : Skeleton → Directory → Skeleton
with_dir s d = record s { directories = s.directories ++ d ∷ [] }

-- a new filesystem, with its refusals in order
abbrev pub added_fs : Skeleton → Filesystem → Result Skeleton Fault
added_fs s f =
    outcome (refuse_if (is_some (fs_named s f.name)) FilesystemExists
    ∷ refuse_if (nat_le (filesystems_at_most s) (length s.filesystems)) TooMany
    ∷ refuse_if (nat_le (directories_at_most s) (length s.directories)) TooMany ∷ [])
    (with_fs s f)

-- a new directory, with its refusals in order; its parent must be there, and a root is there already
abbrev pub added_dir : Skeleton → List ℕ → List (List ℕ) → Result Skeleton Fault
added_dir s fs path =
    let f = unwrap_or (fs_named s fs) 0 in
    outcome (refuse_if (is_none (fs_named s fs)) NoFilesystem
    ∷ refuse_if (is_none (directory_number s (record { fs = f; path = take (length path - 1) path }))) NoEntry
    ∷ refuse_if (is_some (directory_number s (record { fs = f; path = path }))) EntryExists
    ∷ refuse_if (nat_lt depth_limit (length path)) TooMany
    ∷ refuse_if (nat_le (directories_at_most s) (length s.directories)) TooMany ∷ [])
    (with_dir s (record { fs = f; path = path }))

-- another room, with its refusals in order
abbrev pub given_room : Skeleton → ℕ → Result Skeleton Fault
given_room s k =
    outcome (refuse_if (nat_lt k 1) TooMany
    ∷ refuse_if (nat_lt room_limit k) TooMany
    ∷ refuse_if (nat_lt 0 (length s.filesystems)) TooMany ∷ [])
    (record s { room = k })

-- what is always true of a skeleton
pub record IsSkeleton (s : Skeleton) : Type 0 where
  -- no two filesystems have one name, and no directory stands twice
  pub names_once : (i j : ℕ) (f g : Filesystem) → slice_get s.filesystems i ≡ Some f → slice_get s.filesystems j ≡ Some g → f.name ≡ g.name → i ≡ j
  pub once : (i j : ℕ) (d : Directory) → slice_get s.directories i ≡ Some d → slice_get s.directories j ≡ Some d → i ≡ j
  -- each directory is of a filesystem that is there, and its parent is there
  pub of_filesystem : (i : ℕ) (d : Directory) → slice_get s.directories i ≡ Some d → (1 ≤ d.fs) × (d.fs ≤ length s.filesystems)
  pub parents : (i : ℕ) (fs : ℕ) (path : List (List ℕ)) (name : List ℕ) → slice_get s.directories i ≡ Some (record { fs = fs; path = path ++ name ∷ [] }) → (j : ℕ) × (j < i) × (slice_get s.directories j ≡ Some (record { fs = fs; path = path }))
  -- each filesystem has its root directory
  pub rooted : (f : ℕ) → 1 ≤ f → f ≤ length s.filesystems → (i : ℕ) × (slice_get s.directories i ≡ Some (record { fs = f; path = [] }))
