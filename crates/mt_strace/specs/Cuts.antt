-- Texts that are cut at a byte, and what stands in front of them.
-- A word with no source is this project's rule.
use Rattle.std.specs.Prelude.{ℕ, nat_eq, nat_lt, ◌+◌, ◌==◌, if◌then◌else◌, List, [], ◌∷◌, length, drop, Option, None, Some, slice_index_or}
use Rattle.std.specs.List.{starts_with}
use Rattle.std.specs.Option.{option_and_then, option_map}
use Rattle.mt_lines.specs.Words.{pieces, number_in_text}

-- what stands before the first of a byte, or the whole text
abbrev pub until_byte : ℕ → List ℕ → List ℕ
until_byte c text = slice_index_or (pieces c text) 0 []

-- a text cut at the first of a byte: what stands before it and behind it; none if the text has no such byte
abbrev pub cut_at : ℕ → List ℕ → Option (List ℕ × List ℕ)
cut_at c text =
    if nat_lt (length (until_byte c text)) (length text) then Some (until_byte c text, drop (length (until_byte c text) + 1) text) else None

-- a number before the first of a byte, and what stands behind that
abbrev pub number_cut : ℕ → List ℕ → Option (ℕ × List ℕ)
number_cut c text = option_and_then (λ (word, behind). option_map (λ n. (n, behind)) (number_in_text word)) (cut_at c text)

-- a text without the spaces in front
abbrev pub without_spaces : List ℕ → List ℕ
without_spaces [] = []
without_spaces (b ∷ text) = if b == 32 then without_spaces text else b ∷ text

-- what stands behind these bytes in front of a text, if they are there
abbrev pub stripped : List ℕ → List ℕ → Option (List ℕ)
stripped front text = if starts_with nat_eq text front then Some (drop (length front) text) else None
