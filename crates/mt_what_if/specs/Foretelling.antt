-- The answer to a question.
-- A word with no source is this project's rule.
use Rattle.std.specs.Prelude.{◌≡◌, ◌⊎◌, ℕ, ◌+◌, Bool, not, if◌then◌else◌, List, [], ◌∷◌, ◌++◌, length, nat_eq, count_by, codes}
use Rattle.std.specs.List.{filter}
use Rattle.mt_skel.specs.declared.fault.Fault.{Fault}
use Rattle.mt_propagate.specs.World.{WorldView}
use Rattle.mt_render.specs.declared.telling.Telling.{Telling}
use Rattle.mt_render.specs.declared.telling.Telling.TheVariants.{Words, Json}
use Rattle.mt_what_if.specs.Difference.{difference_text, changes_elsewhere}
use Rattle.mt_what_if.specs.Elsewhere.{elsewhere_told}
use Rattle.mt_what_if.specs.Json.{elsewhere_object}
use Rattle.mt_what_if.specs.LinesTold.{tried_text}
use Rattle.mt_what_if.specs.Naming.{numbers_of, spaces_told}
use Rattle.mt_what_if.specs.KnownSpaces.{TitledSpace, is_unnamed}
use Rattle.mt_what_if.specs.Reasons.{reason_told}
use Rattle.mt_what_if.specs.Taken.{taken_told}
use Rattle.mt_what_if.specs.Told.{events_text}
use Rattle.mt_what_if.specs.Trials.{TrialView, world_after, for_next}
use Rattle.mt_what_if.specs.Tried.{IsLineTried}
use Rattle.mt_what_if.specs.declared.foretelling.Question.{Question}
use Rattle.mt_what_if.specs.declared.asked.AskedLine.{AskedLine}
use Rattle.mt_what_if.specs.declared.numbers.Numbers.{Numbers}
use Rattle.mt_what_if.specs.declared.trying.Outcome.{Outcome}
use Rattle.mt_what_if.specs.declared.trying.Outcome.TheVariants.{Done, Refused}

-- what changes from one world to another one in the namespaces of a question
abbrev pub changes_in_spaces : Telling → List TitledSpace → Numbers → WorldView → WorldView → List ℕ
changes_in_spaces Words spaces nb w v = difference_text nb w v spaces
changes_in_spaces Json spaces nb w v = events_text w v spaces

-- those of its tables, and those that its lines have made since the start
unfoldable pub question_changes : Question → WorldView → WorldView → WorldView → List ℕ
question_changes q start w v = changes_in_spaces q.manner.telling (spaces_told q.names.now q.lines.now start v) (numbers_of start) w v

-- what all lines change together
abbrev pub total_heading : Telling → List ℕ
total_heading Words = codes "all lines together:\n"
total_heading Json = []

abbrev pub total_text : Question → WorldView → WorldView → List ℕ
total_text q w v = total_heading q.manner.telling ++ question_changes q w w v

-- which namespaces change that no line names
abbrev pub changed_spaces : List TitledSpace → WorldView → WorldView → List TitledSpace
changed_spaces spaces w v = filter (changes_elsewhere w v) spaces

abbrev pub last_told : Telling → ℕ → List TitledSpace → List ℕ
last_told Words others changed = elsewhere_told others changed
last_told Json others changed = elsewhere_object others changed

abbrev pub last_in_spaces : Telling → List TitledSpace → WorldView → WorldView → List ℕ
last_in_spaces telling spaces w v = last_told telling (count_by is_unnamed spaces) (changed_spaces spaces w v)

unfoldable pub leak_text : Question → WorldView → WorldView → List ℕ
leak_text q w v = last_in_spaces q.manner.telling (spaces_told q.names.now q.lines.now w v) w v

unfoldable pub leaks : Question → WorldView → WorldView → Bool
leaks q w v = not (nat_eq (length (changed_spaces (spaces_told q.names.now q.lines.now w v) w v)) 0)

-- the end of an answer: what all lines change together, unless it is told of each, and which other namespaces change
abbrev pub ending_text : Question → WorldView → WorldView → List ℕ
ending_text q w v = (if q.manner.each then [] else total_text q w v) ++ leak_text q w v

-- what a line changes, where that is told of each line
abbrev pub changes_if_each : Question → WorldView → WorldView → WorldView → List ℕ
changes_if_each q start w v = if q.manner.each then question_changes q start w v else []

-- what comes of a line, and what is told of it: what it was given is taken to be there, and why it is refused
pub record IsForetold (q : Question) (number : ℕ) (line : AskedLine) (t u : TrialView) (outcome : Outcome) (text : List ℕ) : Type 0 where
  pub tried : IsLineTried q.tables.now line (for_next t) (record { trial = u; outcome = outcome })
  pub told : text ≡ tried_text q.manner.telling number line.words.now (taken_told u.given) outcome (changes_if_each q t.start (world_after t) (world_after u))
      (reason_told q.names.now u outcome)

-- lines are tried in turn, up to one that is refused, and this is told of them
abbrev pub AreForetold : Question → ℕ → List AskedLine → TrialView → TrialView → Outcome → List ℕ → Type 0
AreForetold q number [] t u outcome text = (u ≡ t) × (outcome ≡ Done) × (text ≡ [])
AreForetold q number (line ∷ lines) t u outcome text =
    ((fault : Fault) × (outcome ≡ Refused fault) × IsForetold q number line t u outcome text)
    ⊎ ((mid : TrialView) × (first : List ℕ) × (rest : List ℕ) × (text ≡ first ++ rest) × IsForetold q number line t mid Done first
    × AreForetold q (number + 1) lines mid u outcome rest)
