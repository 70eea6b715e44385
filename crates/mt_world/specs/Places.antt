-- Which mount a row tells.
-- A word with no source is this project's rule.
use Rattle.std.specs.Prelude.{◌≡◌, ◌⊎◌, ℕ, false, ◌<◌, ◌≤◌, IsTrue, if◌then◌else◌, List, ◌++◌, length, take, drop, slice_get, Option, Some, None}
use Rattle.std.specs.Option.{option_map}
use Rattle.mt_skel.specs.Skeleton.{Skeleton, path_eq, fs_named, directories_at_most, depth_limit}
use Rattle.mt_mounts.specs.declared.mount.Mount.{Mount}
use Rattle.mt_mounts.specs.declared.mount.Place.{Place}
use Rattle.mt_propagate.specs.World.{WorldView}
use Rattle.mt_world.specs.declared.misfit.Misfit.{Misfit}
use Rattle.mt_world.specs.declared.misfit.Misfit.TheVariants.{NoNumber, Elsewhere, TooDeep, NoRoom}
use Rattle.mt_world.specs.declared.row.TableRow.{TableRow}
use Rattle.mt_world.specs.Fitting.{why_unfit}
use Rattle.mt_world.specs.Leaves.{with_leaf}
use Rattle.mt_world.specs.Rows.{is_numbered}

-- the names from one path down to another, which is the same or below it
abbrev pub names_below : List (List ℕ) → List (List ℕ) → Option (List (List ℕ))
names_below front path = if path_eq (take (length front) path) front then Some (drop (length front) path) else None

-- the path of the directory on which the mount of a row stands, in the filesystem of its parent, the other row's mount: the one that is seen at its mount point
-- (proc_pid_mountinfo(5), fields 4 and 5)
abbrev pub place_path : TableRow → TableRow → Option (List (List ℕ))
place_path row above = option_map (λ names. above.root ++ names) (names_below above.point row.point)

-- a directory is that of a path on a device
pub record IsOn (s : Skeleton) (device : List ℕ) (path : List (List ℕ)) (dir : ℕ) : Type 0 where
  pub fs : ℕ
  pub named : fs_named s device ≡ Some fs
  pub there : slice_get s.directories dir ≡ Some (record { fs = fs; path = path })

-- no directory of this path can be made: it is too deep, or there are as many as there can be, or as many filesystems
abbrev pub IsFull : Skeleton → List (List ℕ) → Type 0
IsFull s path = (depth_limit < length path) ⊎ (directories_at_most s ≤ length s.directories)

abbrev pub IsWhyNone : Skeleton → List ℕ → List (List ℕ) → Misfit → Type 0
IsWhyNone s device path why =
    ((why ≡ NoRoom) × ((fs_named s device ≡ None) ⊎ (directories_at_most s ≤ length s.directories))) ⊎ ((why ≡ TooDeep) × (depth_limit < length path))

-- a place is on the mount of a row, at the directory where that of another one stands; and why there is none
pub record IsPlaceOn (s : Skeleton) (row above : TableRow) (place : Place) : Type 0 where
  pub on : place.mount ≡ above.id
  pub path : List (List ℕ)
  pub below : place_path row above ≡ Some path
  pub at : IsOn s above.device path place.dir

abbrev pub IsWhyUnplaced : Skeleton → TableRow → TableRow → Misfit → Type 0
IsWhyUnplaced s row above why =
    ((why ≡ Elsewhere) × (place_path row above ≡ None)) ⊎ ((path : List (List ℕ)) × (place_path row above ≡ Some path) × IsWhyNone s above.device path why)

-- a mount stands on that of another row, or nowhere without one
abbrev pub StandsOn : Skeleton → TableRow → Option TableRow → Option Place → Type 0
StandsOn s row None place = place ≡ None
StandsOn s row (Some above) place = (p : Place) × (place ≡ Some p) × IsPlaceOn s row above p

-- a mount is that of a row, on that of another one or as the root mount of its namespace; and why there is none
pub record IsMountOf (s : Skeleton) (row : TableRow) (above : Option TableRow) (m : Mount) : Type 0 where
  pub numbered : IsTrue (is_numbered row)
  pub id : m.id ≡ row.id
  pub space : m.space ≡ row.space
  pub place : StandsOn s row above m.place
  pub root : IsOn s row.device row.root m.root
  pub attrs : m.attrs ≡ row.attrs

abbrev pub IsWhyUnmade : Skeleton → TableRow → Option TableRow → Misfit → Type 0
IsWhyUnmade s row above why =
    ((why ≡ NoNumber) × (is_numbered row ≡ false)) ⊎ ((on : TableRow) × (above ≡ Some on) × IsWhyUnplaced s row on why) ⊎ IsWhyNone s row.device row.root why

-- why a row is not put on another one: no mount of it can be made, or that does not fit
abbrev pub IsWhyNotPut : WorldView → TableRow → Option TableRow → Misfit → Type 0
IsWhyNotPut w row above why = IsWhyUnmade w.skel row above why ⊎ ((m : Mount) × IsMountOf w.skel row above m × (why_unfit w m ≡ Some why))

-- the mount of a row was added to a world in which directories were made
pub record IsPut (w v : WorldView) (row : TableRow) (above : Option TableRow) : Type 0 where
  pub mount : Mount
  pub of : IsMountOf v.skel row above mount
  pub fits : why_unfit (record w { skel = v.skel }) mount ≡ None
  pub world : v ≡ with_leaf (record w { skel = v.skel }) mount

-- no mount and no state changed
pub record HasSameMounts (w v : WorldView) : Type 0 where
  pub forest : v.forest ≡ w.forest
  pub peering : v.peering ≡ w.peering
