-- What a list begins with.
-- A word with no source is this project's rule.
use Rattle.std.specs.Prelude.{◌≡◌, List, ◌++◌}

-- the whole list is at the front of another one, whatever comes after it
abbrev pub IsFront : {A : Type 0} → List A → List A → Type 0
IsFront {A} front all = (rest : List A) × (all ≡ front ++ rest)
