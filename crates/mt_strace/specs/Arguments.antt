-- The arguments of a call, and the fields of a structure (strace(1)).
-- A word with no source is this project's rule.
use Rattle.std.specs.Prelude.{ℕ, ◌==◌, if◌then◌else◌, List, [], ◌∷◌, length, map, Option, None, Some}
use Rattle.std.specs.Option.{option_map}
use Rattle.mt_strace.specs.Cuts.{without_spaces, stripped}
use Rattle.mt_strace.specs.Outside.{pieces_outside, cut_outside}

-- the arguments of what is left of a text: what stands between commas outside, without the spaces in front
abbrev pub arguments_left : Option (List ℕ) → List (List ℕ)
arguments_left None = []
arguments_left (Some text) = map without_spaces (pieces_outside 44 text)

-- nothing but spaces has no argument
abbrev pub arguments_of : List ℕ → List (List ℕ)
arguments_of text = if length (without_spaces text) == 0 then [] else arguments_left (Some text)

-- what stands between a bracket that a text begins with and the one that closes it
abbrev pub between_brackets : ℕ → ℕ → List ℕ → Option (List ℕ)
between_brackets opening closing [] = None
between_brackets opening closing (b ∷ text) = if b == opening then option_map (λ p. p.0) (cut_outside closing text) else None

-- the fields of a structure `{..}`, whatever stands behind it
abbrev pub fields_of : List ℕ → Option (List (List ℕ))
fields_of argument = option_map arguments_of (between_brackets 123 125 argument)

-- the value of the first field, or argument, that begins with this name and its `=`
abbrev pub value_or : Option (List ℕ) → Option (List ℕ) → Option (List ℕ)
value_or None rest = rest
value_or (Some value) rest = Some value

abbrev pub value_named : List ℕ → List (List ℕ) → Option (List ℕ)
value_named name [] = None
value_named name (field ∷ fields) = value_or (stripped name field) (value_named name fields)
