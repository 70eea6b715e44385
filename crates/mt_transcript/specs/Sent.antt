-- What an input line of a transcript sends.
-- A word with no source is this project's rule.
use Rattle.std.specs.Prelude.{ℕ, zero, suc, nat_lt, nat_le, Bool, ◌||◌, ◌&&◌, ◌==◌, if◌then◌else◌, List, [], ◌∷◌, ◌++◌, take, drop, length, Option, Some, None, codes}
use Rattle.std.specs.List.{list_any}
use Rattle.std.specs.Option.{option_map, is_some}
use Rattle.std.specs.Str.{bytes_eq}
use Rattle.mt_lines.specs.Words.{pieces, words, number_in_text}
use Rattle.mt_transcript.specs.Lines.{with_line_end}

-- a text that is not empty
abbrev pub unless_empty : List ℕ → Option (List ℕ)
unless_empty [] = None
unless_empty (b ∷ bs) = Some (b ∷ bs)

-- whether the first bytes of a line are a mark
abbrev pub has_mark : List ℕ → List ℕ → Bool
has_mark mark line = bytes_eq (take (length mark) line) mark

-- the text behind a mark with which a line begins
abbrev pub behind_mark : List ℕ → List ℕ → Option (List ℕ)
behind_mark mark line = if has_mark mark line then unless_empty (drop (length mark) line) else None

-- how often a word is repeated at most
abbrev pub most_times : ℕ
most_times = 65536

-- how often a word is repeated
abbrev pub count_within : ℕ → Option ℕ
count_within n = if nat_lt 0 n && nat_le n most_times then Some n else None

abbrev pub count_by : Option ℕ → Option ℕ
count_by None = None
count_by (Some n) = count_within n

abbrev pub times_said : List ℕ → Option ℕ
times_said digits = count_by (number_in_text digits)

abbrev pub times : ℕ → List ℕ → List ℕ
times zero word = []
times (suc n) word = times n word ++ word

-- a count and a word between braces
abbrev pub repeated_word : Option ℕ → Option (List ℕ) → Option (List ℕ)
repeated_word (Some n) (Some word) = Some (times n word)
repeated_word n word = None

abbrev pub repeated_words : List (List ℕ) → Option (List ℕ)
repeated_words (digits ∷ word ∷ []) = repeated_word (times_said digits) (unless_empty word)
repeated_words ws = None

-- what stands between braces, and behind them up to the next ones
abbrev pub repeated_parts : List (List ℕ) → Option (List ℕ)
repeated_parts (inner ∷ rest ∷ []) = option_map (λ text. text ++ rest) (repeated_words (words inner))
repeated_parts parts = None

abbrev pub repeated_piece : List ℕ → Option (List ℕ)
repeated_piece piece = repeated_parts (pieces 125 piece)

abbrev pub both_texts : Option (List ℕ) → Option (List ℕ) → Option (List ℕ)
both_texts None other = None
both_texts (Some text) other = option_map (λ more. text ++ more) other

abbrev pub repeated_pieces : List (List ℕ) → Option (List ℕ)
repeated_pieces [] = Some []
repeated_pieces (p ∷ ps) = both_texts (repeated_piece p) (repeated_pieces ps)

-- a text in which something is repeated
abbrev pub repeated_by : List (List ℕ) → Option (List ℕ)
repeated_by [] = None
repeated_by (front ∷ []) = None
repeated_by (front ∷ p ∷ ps) = if list_any (λ b. b == 125) front then None else both_texts (Some front) (repeated_pieces (p ∷ ps))

abbrev pub repeated : List ℕ → Option (List ℕ)
repeated text = repeated_by (pieces 123 text)

-- what an input line sends: of each form
abbrev pub sent_repeated_unended : Option (List ℕ) → Option (List ℕ)
sent_repeated_unended (Some text) = repeated text
sent_repeated_unended None = None

abbrev pub sent_repeated : List ℕ → Option (List ℕ) → Option (List ℕ)
sent_repeated line (Some text) = option_map with_line_end (repeated text)
sent_repeated line None = sent_repeated_unended (behind_mark (codes ">*. ") line)

abbrev pub sent_unended : List ℕ → Option (List ℕ) → Option (List ℕ)
sent_unended line (Some text) = Some text
sent_unended line None = sent_repeated line (behind_mark (codes ">* ") line)

abbrev pub sent_plain : List ℕ → Option (List ℕ) → Option (List ℕ)
sent_plain line (Some text) = Some (with_line_end text)
sent_plain line None = sent_unended line (behind_mark (codes ">. ") line)

unfoldable pub bytes_sent : List ℕ → Option (List ℕ)
bytes_sent line = if bytes_eq line (codes ">") then Some (with_line_end []) else sent_plain line (behind_mark (codes "> ") line)

-- no line end is sent, so that the input ends
abbrev pub ends_input : List ℕ → Bool
ends_input line = is_some (behind_mark (codes ">. ") line) || is_some (behind_mark (codes ">*. ") line)
