-- The lines of requests, and which lines answer them.
-- A word with no source is this project's rule.
use Rattle.std.specs.Prelude.{ℕ, Bool, true, false, ◌&&◌, nat_eq, if◌then◌else◌, List, [], ◌∷◌, ◌++◌, map, is_some, Option, Some, None, codes, decimal}
use Rattle.std.specs.List.{join_with_byte, starts_with}
use Rattle.std.specs.Option.{option_and_then}
use Rattle.std.specs.Str.{bytes_eq}
use Rattle.mt_skel.specs.Escapes.{escaped}
use Rattle.mt_lines.specs.Words.{words, number_in_text}
use Rattle.mt_client.specs.Limits.{most_rows, most_opening_lines, most_post_lines, most_waiting_lines, most_listed, at_most}
use Rattle.mt_protocol.specs.Refusals.{refusal_named}
use Rattle.mt_protocol.specs.Verbs.{first_of}
use Rattle.mt_protocol.specs.declared.form.Form.{Form}
use Rattle.mt_protocol.specs.declared.form.Form.TheVariants.{Done, Number, Place, Table, Locks, Opening, Posts, Commands, Followed, Never}

-- the line of a request: its words with their escapes, between single spaces
abbrev pub request_text : List (List ℕ) → List ℕ
request_text words = join_with_byte 32 (map escaped words)

-- the line of a request that is a word and a number
abbrev pub numbered_text : List ℕ → ℕ → List ℕ
numbered_text command number = command ++ 32 ∷ decimal number

-- a line begins with this word
abbrev pub has_first : List ℕ → List ℕ → Bool
has_first line word = bytes_eq (first_of (words line)) word

-- what a line of an answer tells, if its first word is `ok` or `no`
abbrev pub verdict : List ℕ → Option Bool
verdict line = if has_first line (codes "ok") then Some true else (if has_first line (codes "no") then Some false else None)

-- the words of a line that refuses: `no` and the name of a refusal
abbrev pub refuses : List (List ℕ) → Bool
refuses (first ∷ name ∷ []) = bytes_eq first (codes "no") && is_some (refusal_named name)
refuses words = false

abbrev pub is_refusal : List ℕ → Bool
is_refusal line = refuses (words line)

-- the number that is all the words
abbrev pub lone_number : List (List ℕ) → Option ℕ
lone_number (word ∷ []) = number_in_text word
lone_number words = None

-- the number of a mount that is, with a path, all the words
abbrev pub placed_number : List (List ℕ) → Option ℕ
placed_number (mount ∷ path ∷ []) = if starts_with nat_eq path (codes "/") then number_in_text mount else None
placed_number words = None

-- the count of rows that is, with a number, all the words
abbrev pub table_count : List (List ℕ) → Option ℕ
table_count (count ∷ last ∷ []) = option_and_then (λ number. at_most most_rows (number_in_text count)) (number_in_text last)
table_count words = None

-- no lines behind a line that tells a number
abbrev pub none_behind : Option ℕ → Option ℕ
none_behind None = None
none_behind (Some number) = Some 0

-- no lines behind a line without more words
abbrev pub none_left : List (List ℕ) → Option ℕ
none_left [] = Some 0
none_left (word ∷ words) = None

-- how many lines stand behind a first line with these words behind `ok`, if an answer of this form has such a line
abbrev pub lines_said : Form → List (List ℕ) → Option ℕ
lines_said Done words = none_left words
lines_said Number words = none_behind (lone_number words)
lines_said Place words = none_behind (placed_number words)
lines_said Table words = table_count words
lines_said Locks words = at_most most_rows (lone_number words)
lines_said Opening words = at_most most_opening_lines (lone_number words)
lines_said Posts words = at_most most_waiting_lines (lone_number words)
lines_said Commands words = at_most most_listed (lone_number words)
lines_said Followed words = None
lines_said Never words = None

abbrev pub behind_first : List (List ℕ) → List (List ℕ)
behind_first [] = []
behind_first (word ∷ words) = words

-- how many lines come behind the first line of an answer that tells this, if an answer of this form has such a line
abbrev pub lines_behind : Form → Bool → List ℕ → Option ℕ
lines_behind form told line = if told then lines_said form (behind_first (words line)) else (if is_refusal line then Some 0 else None)

-- how many lines the posts are that wait, if a line is `ok` and their count
abbrev pub waiting_count : List ℕ → Option ℕ
waiting_count line = if has_first line (codes "ok") then lines_behind Posts true line else None

-- how many lines stand behind the first line of a post, no more than there may be: the fourth of its words, of which the first is `event`
abbrev pub event_count : List (List ℕ) → Option ℕ
event_count (first ∷ second ∷ third ∷ fourth ∷ words) = if bytes_eq first (codes "event") then at_most most_post_lines (number_in_text fourth) else None
event_count words = None
