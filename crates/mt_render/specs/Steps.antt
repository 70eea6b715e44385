-- The way through a tree, a row after the other: for each how far below its top row it stands. No public clause cites this module.
-- A word with no source is this project's rule.
use Rattle.std.specs.Prelude.{◌≡◌, ℕ, zero, suc, ◌+◌, ◌-◌, Bool, false, ◌==◌, nat_lt, cond, List, [], ◌∷◌, ◌++◌, take, length, Option, None, Some, IsTrue, refl}
use Rattle.std.specs.Coded.{Coded, code_by, coded×, coded_ℕ, coded_bool}
use Rattle.std.specs.List.{flat_map, list_any}
use Rattle.mt_skel.specs.Keyed.{rises}
use Rattle.mt_lists.specs.Lists.{ListRow}
use Rattle.mt_lists.specs.Numbered.{rows_by}
use Rattle.mt_info.specs.declared.row.Row.{Row}
use Rattle.mt_info.specs.Table.{row_id}
use Rattle.mt_render.specs.Forest.{BranchView, child_rows}
use Rattle.mt_render.specs.Objects.{most_generations}

-- the mount below which a row is drawn where that is in the table: its parent, if this is another mount
abbrev pub other_parent : Row → Option ℕ
other_parent r = cond (r.parent == r.id) None (Some r.parent)

-- the rows of a table, by rising ID, and lists of them by their parents
pub record IsFamily (rows : List Row) (parents : List ListRow) : Type 0 where
  pub rising : IsTrue (rises row_id rows)
  pub listed : parents ≡ rows_by row_id other_parent rows

-- a row, how many rows stand above it, and whether it is the last child of its parent
pub record StepView : Type 0 where
  pub depth : ℕ
  pub is_last : Bool
  pub row : Row

-- a step is stored as the tuple of its fields
abbrev pub step_code : Coded Row → Coded StepView
step_code code = code_by (ℕ × (Bool × Row)) (coded× coded_ℕ (coded× coded_bool code)) (λ s. (s.depth, (s.is_last, s.row))) (λ t. record { depth = t.0; is_last = t.1.0; row = t.1.1 }) (λ _. refl)

-- the last of these; false where there is none
abbrev pub last_flag : List Bool → Bool
last_flag [] = false
last_flag (x ∷ []) = x
last_flag (x ∷ y ∷ ys) = last_flag (y ∷ ys)

-- a row in a tree as a step
abbrev pub step_of : BranchView → StepView
step_of b = record { depth = length b.lasts; is_last = last_flag b.lasts; row = b.row }

-- a top row as a step
abbrev pub top_step : Row → StepView
top_step r = record { depth = 0; is_last = false; row = r }

-- children of the same row at this depth, as steps
abbrev pub steps_at : ℕ → List Row → List StepView
steps_at depth [] = []
steps_at depth (r ∷ rs) = record { depth = depth; is_last = length rs == 0; row = r } ∷ steps_at depth rs

-- the children of a row, as steps
abbrev pub steps_below : List Row → StepView → List StepView
steps_below rows s = steps_at (s.depth + 1) (child_rows rows s.row)

-- the same, unless as many rows stand above it as there are
abbrev pub next_steps : List Row → StepView → List StepView
next_steps rows s = cond (nat_lt s.depth (length rows)) (steps_below rows s) []

-- a row and all below it, so many generations at most
abbrev pub steps_from : List Row → ℕ → StepView → List StepView
steps_from rows zero s = s ∷ []
steps_from rows (suc n) s = s ∷ flat_map (λ c. steps_from rows n c) (steps_below rows s)

-- the lines that lead to a step, after one to which these led
abbrev pub led_at : ℕ → Bool → List Bool → List Bool
led_at zero last lasts = []
led_at (suc n) last lasts = take n lasts ++ last ∷ []

abbrev pub led : List Bool → StepView → List Bool
led lasts s = led_at s.depth s.is_last lasts

-- rows in a tree from their steps, one after the other
abbrev pub unrolled : List Bool → List StepView → List BranchView
unrolled lasts [] = []
unrolled lasts (s ∷ ss) = record { lasts = led lasts s; row = s.row } ∷ unrolled (led lasts s) ss

-- a mount has a row among these
abbrev pub has_step : List StepView → ℕ → Bool
has_step ss i = list_any (λ s. s.row.id == i) ss

-- a step that stands below more rows than stand within each other in JSON
abbrev pub stands_deep : StepView → Bool
stands_deep s = nat_lt most_generations s.depth
