-- The rows of a table in the order in which a tree of them is drawn (the form: findmnt(8)).
-- A word with no source is this project's rule.
use Rattle.std.specs.Prelude.{ℕ, zero, suc, Bool, not, ◌&&◌, ◌==◌, cond, List, [], ◌∷◌, ◌++◌, map, length, Option, None, is_none}
use Rattle.std.specs.List.{filter, flat_map, list_any}
use Rattle.mt_skel.specs.Keyed.{row_at}
use Rattle.mt_info.specs.declared.row.Row.{Row}
use Rattle.mt_info.specs.Table.{row_id}

-- a row in a tree, and the lines that lead to it: of each row above it but the top one, and at last of the row itself,
-- whether it is the last child of its parent
pub record BranchView : Type 0 where
  pub lasts : List Bool
  pub row : Row

-- a row to which no line leads
abbrev pub without_lines : Row → BranchView
without_lines r = record { lasts = []; row = r }

-- the row below which a row is drawn: that of its parent, if this is another mount of the table
abbrev pub parent_row : List Row → Row → Option Row
parent_row rows r = cond (r.parent == r.id) None (row_at row_id r.parent rows)

-- a row that is drawn below no other
abbrev pub is_top : List Row → Row → Bool
is_top rows r = is_none (parent_row rows r)

-- the rows that are drawn below a row, by rising ID
abbrev pub is_child : ℕ → Row → Bool
is_child parent r = (r.parent == parent) && not (r.id == parent)

abbrev pub child_rows : List Row → Row → List Row
child_rows rows r = filter (is_child r.id) rows

-- the children of a row to which these lines lead
abbrev pub branches : List Bool → List Row → List BranchView
branches lasts [] = []
branches lasts (r ∷ rs) = record { lasts = lasts ++ (length rs == 0) ∷ []; row = r } ∷ branches lasts rs

-- a row and all below it, so many generations at most: each row is followed by its children, each with all below it
abbrev pub drawn_from : List Row → ℕ → BranchView → List BranchView
drawn_from rows zero b = b ∷ []
drawn_from rows (suc n) b = b ∷ flat_map (λ c. drawn_from rows n c) (branches b.lasts (child_rows rows b.row))

-- the rows of all trees: each top row, by rising ID, and all below it
abbrev pub tree : List Row → List BranchView
tree rows = flat_map (λ r. drawn_from rows (length rows) (without_lines r)) (filter (is_top rows) rows)

-- a mount has a row among these
abbrev pub is_drawn : List BranchView → ℕ → Bool
is_drawn bs i = list_any (λ b. b.row.id == i) bs

-- the rows that are in no tree, by rising ID: their parents go round in a ring
abbrev pub strays : List Row → List BranchView
strays rows = map without_lines (filter (λ r. not (is_drawn (tree rows) r.id)) rows)
