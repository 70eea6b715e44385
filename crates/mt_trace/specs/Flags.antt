-- The flags of a call, as strace has them: words between strokes (strace(1)).
-- A word with no source is this project's rule.
use Rattle.std.specs.Prelude.{ℕ, Bool, List, codes}
use Rattle.std.specs.List.{list_all, list_any}
use Rattle.std.specs.Str.{bytes_eq}
use Rattle.mt_lines.specs.Words.{pieces}

-- the words of flags
abbrev pub flags_of : List ℕ → List (List ℕ)
flags_of text = pieces 124 text

-- flags of a call that has none
abbrev pub no_flags : List (List ℕ)
no_flags = flags_of (codes "0")

-- a flag is given
abbrev pub has_flag : List ℕ → List (List ℕ) → Bool
has_flag flag flags = list_any (λ word. bytes_eq word flag) flags

-- a word is one of those that are known, and each of some flags is: what strace has no name for is a number, with a comment behind it
abbrev pub is_flag_of : List (List ℕ) → List ℕ → Bool
is_flag_of known word = list_any (λ flag. bytes_eq flag word) known

abbrev pub are_flags_of : List (List ℕ) → List (List ℕ) → Bool
are_flags_of known flags = list_all (is_flag_of known) flags
