-- What is true of every tree.
-- A word with no source is this project's rule.
use Rattle.std.specs.Prelude.{◌≡◌, ℕ, suc, ◌+◌, Bool, false, true, ◌==◌, ◌&&◌, List, ◌∷◌, ◌++◌, length, Some, IsTrue}
use Rattle.std.specs.List.{list_any, AllByRecursion}
use Rattle.mt_skel.specs.Keyed.{row_at, rises}
use Rattle.mt_skel.specs.Counted.{count}
use Rattle.mt_skel.specs.Chain.{ends}
use Rattle.mt_info.specs.declared.row.Row.{Row}
use Rattle.mt_info.specs.Table.{row_id}
use Rattle.mt_render.specs.Forest.{BranchView, parent_row, is_top, tree, is_drawn, strays}

-- a row is one of a table
abbrev pub IsIn : List Row → Row → Type 0
IsIn rows r = row_at row_id r.id rows ≡ Some r

-- a row of a drawing is of this mount
abbrev pub is_of : ℕ → BranchView → Bool
is_of i b = b.row.id == i

-- each row of a table stands once in its tree or below it
abbrev pub EachRowIsDrawnOnce : Type 0
EachRowIsDrawnOnce = (rows : List Row) → IsTrue (rises row_id rows) → (r : Row) → IsIn rows r → count (is_of r.id) (tree rows) + count (is_of r.id) (strays rows) ≡ 1

-- nothing stands there but rows of the table
abbrev pub OnlyRowsAreDrawn : Type 0
OnlyRowsAreDrawn = (rows : List Row) → IsTrue (rises row_id rows) → AllByRecursion (λ b. IsIn rows b.row) (tree rows ++ strays rows)

-- a row stands in the tree exactly if its parents lead to a top row
abbrev pub TreesHaveTops : Type 0
TreesHaveTops = (rows : List Row) → IsTrue (rises row_id rows) → (r : Row) → IsIn rows r → is_drawn (tree rows) r.id ≡ ends (parent_row rows) (length rows) r

-- the first row of a drawing is that of the second's parent, and as many lines lead to it but one
abbrev pub is_parent_branch : BranchView → BranchView → Bool
is_parent_branch p b = (p.row.id == b.row.parent) && (length b.lasts == suc (length p.lasts))

-- a row of the tree that is no top row stands below that of its parent, and one piece to the right of it
abbrev pub ChildrenStandBelow : Type 0
ChildrenStandBelow =
    (rows : List Row) (front : List BranchView) (b : BranchView) (back : List BranchView) → tree rows ≡ front ++ b ∷ back → is_top rows b.row ≡ false → list_any (λ p. is_parent_branch p b) front ≡ true
