-- What is told of a line that is tried.
-- A word with no source is this project's rule.
use Rattle.std.specs.Prelude.{ℕ, Bool, true, not, ◌&&◌, if◌then◌else◌, List, [], ◌∷◌, ◌++◌, length, nat_eq, codes, decimal}
use Rattle.std.specs.List.{flat_map}
use Rattle.mt_lines.specs.Words.{pieces}
use Rattle.mt_skel.specs.Fault.{name_of}
use Rattle.mt_skel.specs.declared.fault.Fault.{Fault}
use Rattle.mt_render.specs.Stamps.{refusal_line}
use Rattle.mt_render.specs.Wording.{shown_line}
use Rattle.mt_render.specs.declared.telling.Telling.{Telling}
use Rattle.mt_render.specs.declared.telling.Telling.TheVariants.{Words, Json}
use Rattle.mt_what_if.specs.Json.{asked_object, taken_object, reason_object}
use Rattle.mt_what_if.specs.declared.trying.Outcome.{Outcome}
use Rattle.mt_what_if.specs.declared.trying.Outcome.TheVariants.{Done, Refused}

-- a line as it was asked: its words with spaces between them
abbrev pub with_spaces : List (List ℕ) → List ℕ
with_spaces [] = []
with_spaces (first ∷ words) = first ++ flat_map (λ word. 32 ∷ word) words

abbrev pub asked_words : List ℕ → List ℕ
asked_words words = with_spaces (pieces 0 words)

-- the line after its number, and each thing that is taken to be there for it
abbrev pub there_line : List ℕ → List ℕ
there_line taken = codes "    taken to be there: " ++ shown_line taken

abbrev pub taken_line : List ℕ → List ℕ
taken_line [] = []
taken_line (b ∷ taken) = there_line (b ∷ taken)

abbrev pub taken_piece : List ℕ → List ℕ
taken_piece [] = []
taken_piece (b ∷ taken) = taken_object (b ∷ taken)

unfoldable pub line_front : Telling → ℕ → List ℕ → List ℕ → List ℕ
line_front Words number words taken = shown_line (decimal number ++ codes " " ++ asked_words words) ++ flat_map taken_line (pieces 10 taken)
line_front Json number words taken = asked_object number (asked_words words) ++ flat_map taken_piece (pieces 10 taken)

-- why a line is refused: the lines that say so, of which the first begins with the name of the refusal, or where there are none that name
unfoldable pub first_reason_line : List ℕ → List ℕ
first_reason_line line = shown_line (codes "  no " ++ line)

unfoldable pub later_reason_line : List ℕ → List ℕ
later_reason_line line = shown_line (codes "  " ++ line)

abbrev pub later_reason : List ℕ → List ℕ
later_reason [] = []
later_reason (b ∷ line) = later_reason_line (b ∷ line)

abbrev pub reason_lines : List (List ℕ) → List ℕ
reason_lines [] = []
reason_lines (first ∷ lines) = first_reason_line first ++ flat_map later_reason lines

abbrev pub refused_in_words : Fault → List ℕ → List ℕ
refused_in_words fault [] = codes "  no " ++ name_of fault ++ codes "\n"
refused_in_words fault (b ∷ reason) = reason_lines (pieces 10 (b ∷ reason))

abbrev pub refused_as_object : Fault → List ℕ → List ℕ
refused_as_object fault [] = refusal_line (name_of fault)
refused_as_object fault (b ∷ reason) = reason_object (name_of fault) (b ∷ reason)

abbrev pub refusal_told : Telling → Fault → List ℕ → List ℕ
refusal_told Words fault reason = refused_in_words fault reason
refusal_told Json fault reason = refused_as_object fault reason

abbrev pub outcome_text : Telling → Outcome → List ℕ → List ℕ
outcome_text telling Done reason = []
outcome_text telling (Refused fault) reason = refusal_told telling fault reason

-- in words nothing is told of a line of which there is nothing to tell
abbrev pub is_told_in_words : List ℕ → List ℕ → Outcome → Bool
is_told_in_words taken changes Done = not (nat_eq (length taken) 0 && nat_eq (length changes) 0)
is_told_in_words taken changes (Refused fault) = true

abbrev pub is_told : Telling → List ℕ → List ℕ → Outcome → Bool
is_told Words taken changes outcome = is_told_in_words taken changes outcome
is_told Json taken changes outcome = true

-- a line, what is taken to be there for it, its changes, and why it is refused
unfoldable pub tried_text : Telling → ℕ → List ℕ → List ℕ → Outcome → List ℕ → List ℕ → List ℕ
tried_text telling number words taken outcome changes reason =
    if is_told telling taken changes outcome then line_front telling number words taken ++ changes ++ outcome_text telling outcome reason else []
