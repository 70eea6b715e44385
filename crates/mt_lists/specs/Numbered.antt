-- The rows of a table whose items have a key each and may have a number: what `Lists` beside that table keep of it.
-- A word with no source is this project's rule.
use Rattle.std.specs.Prelude.{ℕ, Bool, List, [], ◌∷◌, Option}
use Rattle.std.specs.Option.{option_map_or}
use Rattle.mt_lists.specs.Lists.{ListRow, names}

module _ {X : Type 0} (key : X → ℕ) (number : X → Option ℕ) where
  -- each item that has a number, by its key
  abbrev pub rows_by : List X → List ListRow
  rows_by [] = []
  rows_by (x ∷ xs) = option_map_or (λ n. record { id = key x; number = n } ∷ rows_by xs) (number x) (rows_by xs)

  -- the item has this number
  abbrev pub has_number : ℕ → X → Bool
  has_number n x = names (number x) n
