-- What a table says of a word.
-- A word with no source is this project's rule.
use Rattle.std.specs.Prelude.{Bool, cond, List, [], ◌∷◌, Option, None, Some}

-- what the first row that fits says, if one fits
abbrev pub looked_up : {A B : Type 0} → (A → Bool) → (A → B) → List A → Option B
looked_up fits says [] = None
looked_up {B = B} fits says (row ∷ rows) = cond {A = Option B} (fits row) (Some (says row)) (looked_up fits says rows)
