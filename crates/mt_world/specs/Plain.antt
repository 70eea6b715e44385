-- Tables of which every row is kept.
-- A word with no source is this project's rule.
use Rattle.std.specs.Prelude.{◌≡◌, ℕ, ◌<◌, ◌≤◌, true, false, IsTrue, List, length, slice_get, Some}
use Rattle.mt_skel.specs.Skeleton.{filesystems_at_most, directories_at_most, depth_limit}
use Rattle.mt_mounts.specs.Forest.{roots}
use Rattle.mt_propagate.specs.World.{WorldView, private}
use Rattle.mt_propagate.specs.Limits.{mounts_at_most, spaces_at_most}
use Rattle.mt_world.specs.declared.row.TableRow.{TableRow}
use Rattle.mt_world.specs.Places.{place_path}
use Rattle.mt_world.specs.Rows.{is_numbered, is_root_of_table}

-- a row stands on another one of its table, which is nearer to the root mount, at a directory that is not too deep
pub record HasParent (rows : List TableRow) (depth : ℕ → ℕ) (r : TableRow) : Type 0 where
  pub number : ℕ
  pub above : TableRow
  pub there : slice_get rows number ≡ Some above
  pub named : above.id ≡ r.parent
  pub same : above.space ≡ r.space
  pub nearer : depth above.id < depth r.id
  pub path : List (List ℕ)
  pub below : place_path r above ≡ Some path
  pub shallow : length path ≤ depth_limit

-- tables that need nothing special
pub record IsPlain (rows : List TableRow) : Type 0 where
  -- their numbers can be those of mounts and namespaces, and no two mounts have one
  pub numbered : (k : ℕ) (r : TableRow) → slice_get rows k ≡ Some r → IsTrue (is_numbered r)
  pub distinct : (j k : ℕ) (r s : TableRow) → slice_get rows j ≡ Some r → slice_get rows k ≡ Some s → r.id ≡ s.id → j ≡ k
  -- a table has one root mount, and each other mount stands on one of its table, no two at one mount point of one mount
  pub one_root : (j k : ℕ) (r s : TableRow) → slice_get rows j ≡ Some r → slice_get rows k ≡ Some s → is_root_of_table rows r ≡ true → is_root_of_table rows s ≡ true → r.space ≡ s.space → j ≡ k
  pub depth : ℕ → ℕ
  pub founded : (k : ℕ) (r : TableRow) → slice_get rows k ≡ Some r → is_root_of_table rows r ≡ false → HasParent rows depth r
  pub apart : (j k : ℕ) (r s : TableRow) → slice_get rows j ≡ Some r → slice_get rows k ≡ Some s → is_root_of_table rows r ≡ false → is_root_of_table rows s ≡ false → r.parent ≡ s.parent → r.point ≡ s.point → j ≡ k
  -- no directory is too deep
  pub shallow : (k : ℕ) (r : TableRow) → slice_get rows k ≡ Some r → length r.root ≤ depth_limit
  -- and all are private
  pub private : (k : ℕ) (r : TableRow) → slice_get rows k ≡ Some r → r.state ≡ private

-- a world has room for one more filesystem, directory, mount and namespace
pub record HasRoom (w : WorldView) : Type 0 where
  pub filesystems : length w.skel.filesystems < filesystems_at_most w.skel
  pub directories : length w.skel.directories < directories_at_most w.skel
  pub mounts : length w.forest < mounts_at_most w
  pub spaces : length (roots w.forest) < spaces_at_most w
