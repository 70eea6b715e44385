-- How ties lie in slots. No public clause cites this module.
-- A word with no source is this project's rule.
use Rattle.std.specs.Prelude.{ℕ, List, [], ◌∷◌, map, Option, None, Some, slice_index_or}
use Rattle.mt_skel.specs.Keyed.{put}
use Rattle.mt_lists.specs.declared.ties.Tie.{Tie}
use Rattle.mt_lists.specs.Lists.{ListRow, listed_id}
use Rattle.mt_lists.specs.Ties.{id_of_tie, tied_row}

-- what a slot has
abbrev pub tie_in : List (Option Tie) → ℕ → Option Tie
tie_in slots k = slice_index_or slots k None

-- the ID in each slot
abbrev pub ids_in : List (Option Tie) → List (Option ℕ)
ids_in slots = map id_of_tie slots

-- the rows in the slots, by rising ID
unfoldable pub rows_in : List (Option Tie) → List ListRow
rows_in [] = []
rows_in (None ∷ slots) = rows_in slots
rows_in (Some t ∷ slots) = put listed_id (tied_row t) (rows_in slots)
