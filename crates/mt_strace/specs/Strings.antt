-- The strings of strace, which has them as C has them (strace(1), -s and -x).
-- A word with no source is this project's rule.
use Rattle.std.specs.Prelude.{ℕ, nat_eq, nat_le, nat_lt, ◌+◌, ◌-◌, ◌*◌, Bool, true, false, ◌==◌, ◌&&◌, if◌then◌else◌, List, [], ◌∷◌, ◌++◌, length, take, Option, None, Some, codes}
use Rattle.std.specs.List.{ends_with}
use Rattle.std.specs.Option.{option_and_then, option_map}
use Rattle.mt_strace.specs.declared.string.Escape.{Escape}
use Rattle.mt_strace.specs.declared.string.Escape.TheVariants as escape
use Rattle.mt_strace.specs.declared.string.EscapeStep.{EscapeStep}
use Rattle.mt_strace.specs.Cuts.{stripped}

-- the byte that a letter after a backslash stands for: `n` and its kin, a quote or a backslash
abbrev pub byte_of_letter : ℕ → Option ℕ
byte_of_letter b =
    if b == 110 then Some 10
    else (if b == 116 then Some 9
    else (if b == 114 then Some 13
    else (if b == 118 then Some 11
    else (if b == 102 then Some 12
    else (if b == 34 then Some 34
    else (if b == 92 then Some 92 else None))))))

-- the number of a hexadecimal digit
abbrev pub hex_value : ℕ → Option ℕ
hex_value b =
    if nat_le 48 b && nat_le b 57 then Some (b - 48) else (if nat_le 97 b && nat_le b 102 then Some (b - 87) else None)

abbrev pub is_octal : ℕ → Bool
is_octal b = nat_le 48 b && nat_le b 55

-- a byte with one more octal digit, as far as it is one
abbrev pub with_octal : ℕ → ℕ → Option ℕ
with_octal n b = if nat_lt (8 * n + (b - 48)) 256 then Some (8 * n + (b - 48)) else None

-- what a byte gives, one byte or two or none, and what it says of the next one; no step where no string goes on so
abbrev pub silent_step : Escape → Option EscapeStep
silent_step next = Some (record { first = None; second = None; next = next })

abbrev pub giving_step : ℕ → Option EscapeStep
giving_step b = Some (record { first = Some b; second = None; next = escape.Plain })

-- a byte that no backslash stands before; a quote would end the string
abbrev pub plain_step : ℕ → Option EscapeStep
plain_step b = if b == 34 then None else (if b == 92 then silent_step escape.Begun else giving_step b)

-- a byte after a backslash: an octal digit, `x` (120) or a letter
abbrev pub begun_step : ℕ → Option EscapeStep
begun_step b =
    if is_octal b then silent_step (escape.OneDigit (b - 48))
    else (if b == 120 then silent_step escape.Hex else option_and_then giving_step (byte_of_letter b))

-- a byte before what the next one gives
abbrev pub onto_step : ℕ → Option EscapeStep → Option EscapeStep
onto_step n step = option_map (λ s. record { first = Some n; second = s.first; next = s.next }) step

-- a byte after octal digits: the third digit is the last
abbrev pub one_step : ℕ → ℕ → Option EscapeStep
one_step n b = if is_octal b then option_and_then (λ k. silent_step (escape.TwoDigits k)) (with_octal n b) else onto_step n (plain_step b)

abbrev pub two_step : ℕ → ℕ → Option EscapeStep
two_step n b = if is_octal b then option_and_then giving_step (with_octal n b) else onto_step n (plain_step b)

-- a byte after `\x`, and one after the first digit there
abbrev pub with_hex : ℕ → ℕ → Option ℕ
with_hex n k = if nat_lt (16 * n + k) 256 then Some (16 * n + k) else None

abbrev pub hex_step : ℕ → Option EscapeStep
hex_step b = option_and_then (λ n. silent_step (escape.HexDigit n)) (hex_value b)

abbrev pub last_hex_step : ℕ → ℕ → Option EscapeStep
last_hex_step n b = option_and_then (λ k. option_and_then giving_step (with_hex n k)) (hex_value b)

abbrev pub escape_step : Escape → ℕ → Option EscapeStep
escape_step escape.Plain b = plain_step b
escape_step escape.Begun b = begun_step b
escape_step (escape.OneDigit n) b = one_step n b
escape_step (escape.TwoDigits n) b = two_step n b
escape_step escape.Hex b = hex_step b
escape_step (escape.HexDigit n) b = last_hex_step n b

-- what the end of the text gives: octal digits may be the last, and nothing else that is not whole
abbrev pub escape_end : Escape → Option (List ℕ)
escape_end escape.Plain = Some []
escape_end escape.Begun = None
escape_end (escape.OneDigit n) = Some (n ∷ [])
escape_end (escape.TwoDigits n) = Some (n ∷ [])
escape_end escape.Hex = None
escape_end (escape.HexDigit n) = None

-- the bytes that a text with escapes stands for, in front of which an escape may have begun
abbrev pub onto_bytes : List ℕ → Option (List ℕ) → Option (List ℕ)
onto_bytes front bytes = option_map (λ rest. front ++ rest) bytes

abbrev pub given_bytes : Option ℕ → Option ℕ → List ℕ
given_bytes None second = []
given_bytes (Some n) None = n ∷ []
given_bytes (Some n) (Some m) = n ∷ m ∷ []

abbrev pub bytes_from : Escape → List ℕ → Option (List ℕ)
bytes_from e [] = escape_end e
bytes_from e (b ∷ text) = option_and_then (λ (s : EscapeStep). onto_bytes (given_bytes s.first s.second) (bytes_from s.next text)) (escape_step e b)

abbrev pub unescaped_bytes : List ℕ → Option (List ℕ)
unescaped_bytes text = bytes_from escape.Plain text

-- a text without these bytes at its end, if they are there
abbrev pub stripped_end : List ℕ → List ℕ → Option (List ℕ)
stripped_end end text = if ends_with nat_eq text end then Some (take (length text - length end) text) else None

-- what stands between the quotes of a string, and whether it is whole: what `-s` cut off has three dots behind it
abbrev pub whole_or_cut : Option (List ℕ) → Option (List ℕ) → Option (List ℕ × Bool)
whole_or_cut (Some text) whole = Some (text, false)
whole_or_cut None whole = option_map (λ text. (text, true)) whole

abbrev pub between_quotes : List ℕ → Option (List ℕ × Bool)
between_quotes argument =
    option_and_then (λ behind. whole_or_cut (stripped_end (codes "\"...") behind) (stripped_end (codes "\"") behind)) (stripped (codes "\"") argument)

-- a string: its bytes, and whether they are all of them
pub record ToldString : Type 0 where
  pub bytes : List ℕ
  pub is_whole : Bool

-- the string that an argument is
abbrev pub string_of : List ℕ → Option ToldString
string_of argument =
    option_and_then (λ (text, is_whole). option_map (λ (bytes : List ℕ). record { bytes = bytes; is_whole = is_whole }) (unescaped_bytes text)) (between_quotes argument)
