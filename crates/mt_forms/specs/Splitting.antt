-- Words of a text, as a shell makes them (sh(1), quoting), without any expansion.
-- A word with no source is this project's rule.
use Rattle.std.specs.Prelude.{ℕ, Bool, true, false, not, ◌==◌, ◌&&◌, ◌||◌, if◌then◌else◌, List, [], ◌∷◌, ◌++◌, fold, Option, None, Some}
use Rattle.std.specs.List.{flat_map}
use Rattle.mt_forms.specs.declared.split.Before.{Before}
use Rattle.mt_forms.specs.declared.split.Quotes.{Quotes}
use Rattle.mt_forms.specs.declared.split.Quotes.TheVariants as quotes

-- nothing stands before a text
abbrev pub start : Before
start = record { quotes = quotes.None; is_escaped = false; is_inside = false; has_word = false }

-- space, tab and newline stand between words
abbrev pub is_blank : ℕ → Bool
is_blank b = b == 32 || b == 9 || b == 10

-- before a double quote, a backslash, a dollar and a backquote, a backslash in double quotes stands for nothing
abbrev pub is_kept : ℕ → Bool
is_kept b = b == 34 || b == 92 || b == 36 || b == 96

-- a word has begun
abbrev pub inside_word : Before → Before
inside_word s = record s { is_inside = true; has_word = true }

-- what a byte says of the next: outside of quotes, in single ones (39) and in double ones (34); a backslash is 92
abbrev pub next_bare : Before → ℕ → Before
next_bare s b =
    if is_blank b then record s { is_inside = false }
    else (if b == 39 then record (inside_word s) { quotes = quotes.Single }
    else (if b == 34 then record (inside_word s) { quotes = quotes.Double }
    else record (inside_word s) { is_escaped = b == 92 }))

abbrev pub next_in : Quotes → Before → ℕ → Before
next_in quotes.None s b = next_bare s b
next_in quotes.Single s b = if b == 39 then record s { quotes = quotes.None } else s
next_in quotes.Double s b = if b == 34 then record s { quotes = quotes.None } else record s { is_escaped = b == 92 }

abbrev pub next_byte : Before → ℕ → Before
next_byte s b = if s.is_escaped then record s { is_escaped = false } else next_in s.quotes s b

-- no quote is open, and no backslash is the last byte
abbrev pub is_unquoted : Quotes → Bool
is_unquoted quotes.None = true
is_unquoted quotes.Single = false
is_unquoted quotes.Double = false

abbrev pub is_double : Quotes → Bool
is_double quotes.None = false
is_double quotes.Single = false
is_double quotes.Double = true

abbrev pub is_closed : Before → Bool
is_closed s = is_unquoted s.quotes && not s.is_escaped

-- what a byte gives: itself, unless it is left out
abbrev pub unless_left_out : ℕ → Bool → List ℕ
unless_left_out b is_left_out = if is_left_out then [] else b ∷ []

-- outside of quotes a zero byte stands before each word but the first
abbrev pub emitted_bare : Before → ℕ → List ℕ
emitted_bare s b = if is_blank b then [] else unless_left_out 0 (s.is_inside || not s.has_word) ++ unless_left_out b (b == 39 || b == 34 || b == 92)

abbrev pub emitted_escaped : Before → ℕ → List ℕ
emitted_escaped s b = unless_left_out 92 (not (is_double s.quotes) || is_kept b) ++ b ∷ []

abbrev pub emitted_in : Quotes → Before → ℕ → List ℕ
emitted_in quotes.None s b = emitted_bare s b
emitted_in quotes.Single s b = unless_left_out b (b == 39)
emitted_in quotes.Double s b = unless_left_out b (b == 34 || b == 92)

abbrev pub emitted : Before → ℕ → List ℕ
emitted s b = if s.is_escaped then emitted_escaped s b else emitted_in s.quotes s b

-- what a text gives, byte by byte
abbrev pub emitted_from : Before → List ℕ → List ℕ
emitted_from s [] = []
emitted_from s (b ∷ bytes) = emitted s b ++ emitted_from (next_byte s b) bytes

-- the words of a text, with a zero byte between two; none where a quote stays open
abbrev pub split_text : List ℕ → Option (List ℕ)
split_text text = if is_closed (fold next_byte start text) then Some (emitted_from start text) else None

-- words with a zero byte between two
abbrev pub joined_text : List (List ℕ) → List ℕ
joined_text [] = []
joined_text (first ∷ words) = first ++ flat_map (λ word. 0 ∷ word) words
