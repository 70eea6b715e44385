-- Which rows have their mounts in a world, and why the others have none.
-- A word with no source is this project's rule.
use Rattle.std.specs.Prelude.{◌≡◌, ◌≢◌, ◌⊎◌, ℕ, ◌<◌, ◌≤◌, ◌^◌, true, false, IsTrue, List, length, slice_get, Option, Some, None}
use Rattle.mt_skel.specs.Skeleton.{Skeleton, fs_named, filesystems_at_most, directories_at_most}
use Rattle.mt_mounts.specs.declared.mount.Mount.{Mount}
use Rattle.mt_mounts.specs.Forest.{mount_at}
use Rattle.mt_propagate.specs.World.{WorldView, private, state_of}
use Rattle.mt_world.specs.declared.misfit.Misfit.{Misfit}
use Rattle.mt_world.specs.declared.misfit.Misfit.TheVariants.{NoParent}
use Rattle.mt_world.specs.declared.row.TableRow.{TableRow}
use Rattle.mt_world.specs.Leaves.{IsSound, IsGrown}
use Rattle.mt_world.specs.Places.{IsWhyNotPut}
use Rattle.mt_world.specs.Rows.{is_numbered, is_root_of_table}
use Rattle.mt_world.specs.Told.{IsMounted}

-- the numbers that come next are above those of the rows
abbrev pub HaveNumbers : WorldView → List TableRow → Type 0
HaveNumbers w rows = (k : ℕ) (r : TableRow) → slice_get rows k ≡ Some r → IsTrue (is_numbered r) → (r.id < w.next_mount) × (r.space < w.next_space)

-- a device has its filesystem, or there is no room for it
abbrev pub IsNamed : Skeleton → List ℕ → Type 0
IsNamed s device = ((f : ℕ) × (fs_named s device ≡ Some f)) ⊎ ((filesystems_at_most s ≤ length s.filesystems) ⊎ (directories_at_most s ≤ length s.directories))

abbrev pub HaveFilesystems : Skeleton → List TableRow → Type 0
HaveFilesystems s rows = (k : ℕ) (r : TableRow) → slice_get rows k ≡ Some r → IsNamed s r.device

-- the row of a number is kept: no reason is told
abbrev pub keeps_row : List (Option Misfit) → ℕ → Type 0
keeps_row left k = slice_get left k ≡ Some None

-- the row of a number has an ID, and is kept
pub record IsKeptRow (rows : List TableRow) (left : List (Option Misfit)) (id k : ℕ) : Type 0 where
  pub row : TableRow
  pub there : slice_get rows k ≡ Some row
  pub named : row.id ≡ id
  pub kept : keeps_row left k

-- a row stands where it says: on another one that a world has, which is its parent in its table, or it is that of a root mount
abbrev pub StandsRightly : WorldView → List TableRow → TableRow → Option TableRow → Type 0
StandsRightly w rows r None = is_root_of_table rows r ≡ true
StandsRightly w rows r (Some above) = IsMounted w rows above × ((k : ℕ) × (slice_get rows k ≡ Some above)) × (above.id ≡ r.parent) × (above.space ≡ r.space) × (is_root_of_table rows r ≡ false)

-- in the table of a row none of the rows that are kept is its parent, and it is not that of a root mount
pub record IsParentless (rows : List TableRow) (left : List (Option Misfit)) (r : TableRow) : Type 0 where
  pub low : is_root_of_table rows r ≡ false
  pub none : (k : ℕ) (above : TableRow) → slice_get rows k ≡ Some above → keeps_row left k → above.id ≡ r.parent → above.space ≡ r.space → ⊥

-- a reason was so when it was told: there was a world, from which this one has grown, to which the mount of the row could not be added
pub record WasWhy (w : WorldView) (rows : List TableRow) (r : TableRow) (why : Misfit) : Type 0 where
  pub before : WorldView
  pub sound : IsSound before
  pub grown : IsGrown before w
  pub above : Option TableRow
  pub stands : StandsRightly before rows r above
  pub refused : IsWhyNotPut before r above why

-- the rows that are kept are those of the mounts of a world, one each, and `put` finds them by the IDs of these; all are private; each other row waits for its parent, or was left
-- out for a reason
pub record AreKept (w : WorldView) (rows : List TableRow) (left : List (Option Misfit)) (put : ℕ → Option ℕ) : Type 0 where
  pub sound : IsSound w
  pub numbers : HaveNumbers w rows
  pub filesystems : HaveFilesystems w.skel rows
  pub sized : length left ≡ length rows
  pub told : (k : ℕ) (r : TableRow) → slice_get rows k ≡ Some r → keeps_row left k → IsMounted w rows r
  pub found : (i k : ℕ) → put i ≡ Some k → IsKeptRow rows left i k
  pub known : (k : ℕ) (r : TableRow) → slice_get rows k ≡ Some r → keeps_row left k → put r.id ≡ Some k
  pub only : (i : ℕ) (m : Mount) → mount_at w.forest i ≡ Some m → (k : ℕ) × (put i ≡ Some k)
  pub private : (i : ℕ) → state_of w i ≡ private
  pub few : (w.next_mount ≤ 2 ^ 62) × (w.next_space ≤ 2 ^ 62)
  pub whys : (k : ℕ) (r : TableRow) (why : Misfit) → slice_get rows k ≡ Some r → slice_get left k ≡ Some (Some why) → (why ≡ NoParent) ⊎ WasWhy w rows r why

-- a list has another element at a place
pub record IsSetAt {X : Type 0} (xs ys : List X) (n : ℕ) (x : X) : Type 0 where
  pub sized : length ys ≡ length xs
  pub here : slice_get ys n ≡ Some x
  pub others : (k : ℕ) → n ≢ k → slice_get ys k ≡ slice_get xs k

-- a row waits where it is left out since its parent is not there
abbrev pub waits_for_parent : List (Option Misfit) → ℕ → Type 0
waits_for_parent left k = slice_get left k ≡ Some (Some NoParent)

-- all that is known of a world with the mounts of rows: those that are kept have theirs, no other mount is there, and each row that is left out has a reason
pub record AreGrown (w : WorldView) (rows : List TableRow) (left : List (Option Misfit)) : Type 0 where
  pub put : ℕ → Option ℕ
  pub kept : AreKept w rows left put
  pub parentless : (k : ℕ) (r : TableRow) → waits_for_parent left k → slice_get rows k ≡ Some r → IsParentless rows left r
