-- What a script tells of the rows for which it makes no mount, or another one than they tell. A
-- word with no source is this project's rule.
use Rattle.std.specs.Prelude.{ℕ, Bool, true, false, not, ◌&&◌, nat_lt, List, [], ◌∷◌, ◌++◌, Option, Some, is_some, slice_get, codes}
use Rattle.std.specs.Option.{option_map_or}
use Rattle.mt_import.specs.declared.mount.Mount.{Mount}
use Rattle.mt_import.specs.declared.reason.Reason.{Reason}
use Rattle.mt_import.specs.declared.reason.Reason.TheVariants.{Ring, NoRoom}
use Rattle.mt_import.specs.declared.space.Space.{Space}
use Rattle.mt_import.specs.declared.space.Way.{Way}
use Rattle.mt_import.specs.Reading.{ToldMount}
use Rattle.mt_import.specs.Script.{left_row_text, mount_comment, table_comment}
use Rattle.mt_import.specs.Tree.{IsMakingOrder}

-- the rows of a table that have no mount are told
abbrev pub rows_text : ℕ → List ToldMount → List (Option Reason) → List ℕ
rows_text table [] left = []
rows_text table (row ∷ rows) [] = left_row_text table row (Some Ring) ++ rows_text table rows []
rows_text table (row ∷ rows) (why ∷ left) = left_row_text table row why ++ rows_text table rows left

abbrev pub tree_rows : Space → List ℕ
tree_rows space = rows_text space.tree.table space.tree.told.rows space.tree.left

-- the mounts of a table that are left out are told, and those with options that no mount has here
abbrev pub mounts_text : ℕ → List Mount → List Way → List ℕ
mounts_text table [] ways = []
mounts_text table (mount ∷ mounts) [] = mount_comment table mount.row.now (Some NoRoom) ++ mounts_text table mounts []
mounts_text table (mount ∷ mounts) (way ∷ ways) = mount_comment table mount.row.now way.left ++ mounts_text table mounts ways

-- a table of which no namespace is made is told
abbrev pub rootless_text : Bool → ℕ → List ℕ
rootless_text true table = []
rootless_text false table = table_comment table (codes " has no root mount") []

-- whether the mount of a number is made, and a namespace: its root mount is
abbrev pub is_made : List Way → ℕ → Bool
is_made ways number = option_map_or (λ (way : Way). not (is_some way.left)) (slice_get ways number) false

abbrev pub is_shown : Space → Bool
is_shown space = is_made space.ways.items 0

-- whether it is made with locks: as a copy of the namespace in which its mounts are made, which has a number before its own
abbrev pub has_locks : Space → Bool
has_locks space = nat_lt space.original space.number

-- a foreign namespace is told that is made without, since its table does not tell which mounts came with a copy of another one
-- (mount_namespaces(7), restrictions on mount namespaces)
abbrev pub has_unknown_locks : Space → Bool
has_unknown_locks space = space.tree.told.is_foreign && is_shown space && not (has_locks space)

abbrev pub lockless_text : Bool → ℕ → List ℕ
lockless_text true table = table_comment table (codes " is of another user namespace, and its locks are not known") []
lockless_text false table = []

abbrev pub space_comments : Space → List ℕ
space_comments space =
    (mounts_text space.tree.table space.tree.mounts space.ways.items ++ rootless_text (is_shown space) space.tree.table)
    ++ lockless_text (has_unknown_locks space) space.tree.table

-- a table has a tree, each mount after the one that it stands on
abbrev pub HasMakingOrder : Space → Type 0
HasMakingOrder space = IsMakingOrder space.tree.told.rows space.tree.mounts space.tree.left
