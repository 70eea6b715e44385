-- Walks of paths over the rows of a namespace. Every directory is taken to be there: rows do not tell which are.
-- A word with no source is this project's rule.
use Rattle.std.specs.Prelude.{ℕ, Bool, ◌&&◌, ◌==◌, List, [], ◌∷◌, ◌++◌, length, drop, Option, is_none}
use Rattle.std.specs.List.{find}
use Rattle.std.specs.Option.{option_map}
use Rattle.mt_skel.specs.Chain.{follow}
use Rattle.mt_skel.specs.Skeleton.{path_eq}
use Rattle.mt_reach.specs.declared.row.SeenDirectory.{SeenDirectory}
use Rattle.mt_reach.specs.declared.row.SeenRow.{SeenRow}
use Rattle.mt_reach.specs.Tree.{stands_on_row, seen_parent_row}

-- a mount stands on another one at this mount point
abbrev pub stands_at : SeenRow → List (List ℕ) → SeenRow → Bool
stands_at q point r = stands_on_row q r && path_eq r.point point

-- the mount that stands there
abbrev pub stacked_at : List SeenRow → List (List ℕ) → SeenRow → Option SeenRow
stacked_at rows point q = find (stands_at q point) rows

-- the topmost mount of those that are stacked there (the kernel's sharedsubtree document)
abbrev pub stack_top : List SeenRow → List (List ℕ) → SeenRow → SeenRow
stack_top rows point q = follow (stacked_at rows point) (length rows) q

-- the mount on which a walk ends that has come to a mount by some names, and has others before it: with each name it crosses to the
-- topmost mount there (path_resolution(7))
abbrev pub walked_from : List SeenRow → SeenRow → List (List ℕ) → List (List ℕ) → SeenRow
walked_from rows q done [] = q
walked_from rows q done (c ∷ cs) = walked_from rows (stack_top rows (done ++ c ∷ []) q) (done ++ c ∷ []) cs

-- the root mount of a namespace stands at its root, and on nothing that its table has (mount_namespaces(7))
abbrev pub is_root_row : List SeenRow → ℕ → SeenRow → Bool
is_root_row rows n r = (r.space == n) && path_eq r.point [] && is_none (seen_parent_row rows r)

abbrev pub root_row : List SeenRow → ℕ → Option SeenRow
root_row rows n = find (is_root_row rows n) rows

-- the mount on which a path ends in a namespace; none where its table has no root mount (path_resolution(7))
abbrev pub end_of : List SeenRow → ℕ → List (List ℕ) → Option SeenRow
end_of rows n path = option_map (λ root. walked_from rows root [] path) (root_row rows n)

-- the topmost mount of those that are stacked where a path ends, also on the root of a namespace (umount2(2))
abbrev pub stack_end_of : List SeenRow → ℕ → List (List ℕ) → Option SeenRow
stack_end_of rows n path = option_map (stack_top rows path) (end_of rows n path)

-- the mount to which a path leads that is the mount point of a mount: the mount itself, or what is in front of it; none where the table
-- has no root mount (path_resolution(7))
abbrev pub mount_in_front : List SeenRow → SeenRow → Option SeenRow
mount_in_front rows r = end_of rows r.space r.point

-- the directory of a mount that is at this point of its namespace
abbrev pub directory_at : SeenRow → List (List ℕ) → SeenDirectory
directory_at r point = record r.root { path = r.root.path ++ drop (length r.point) point }
