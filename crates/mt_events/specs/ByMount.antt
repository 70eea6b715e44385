-- The rows of a difference of two tables, mount by mount. No public clause cites this module.
-- A word with no source is this project's rule.
use Rattle.std.specs.Prelude.{ℕ, Bool, ◌&&◌, ◌||◌, not, cond, List, Option, Some, None, is_some}
use Rattle.std.specs.List.{flat_map}
use Rattle.std.specs.Option.{option_and_then, option_to_list}
use Rattle.mt_skel.specs.Keyed.{row_at, has}
use Rattle.mt_info.specs.declared.row.Row.{Row}
use Rattle.mt_info.specs.Table.{row_id}
use Rattle.mt_events.specs.Difference.{is_row_of}

-- what there is for each number, in the order of the numbers
abbrev pub collected : {X : Type 0} → (ℕ → Option X) → List ℕ → List X
collected f ids = flat_map (λ i. option_to_list (f i)) ids

-- the row of a mount in the second table, if the first does not have it as it is
abbrev pub new_row : List Row → List Row → ℕ → Option Row
new_row a b i = option_and_then (λ r. cond (is_row_of a r) None (Some r)) (row_at row_id i b)

-- a mount left the first table, or its row in the second is new or not as it was
abbrev pub is_news : List Row → List Row → ℕ → Bool
is_news a b i = (has row_id i a && not (has row_id i b)) || is_some (new_row a b i)
