-- Lines that are tried, as the steps of a page.
-- A word with no source is this project's rule.
use Rattle.std.specs.Prelude.{◌≡◌, ◌⊎◌, ℕ, List, [], ◌∷◌, ◌++◌, codes}
use Rattle.std.specs.List.{flat_map}
use Rattle.mt_lines.specs.Words.{pieces}
use Rattle.mt_skel.specs.Fault.{name_of}
use Rattle.mt_skel.specs.declared.fault.Fault.{Fault}
use Rattle.mt_propagate.specs.World.{WorldView}
use Rattle.mt_events.specs.Mirrors.{MirrorView}
use Rattle.mt_book.specs.declared.command.Command.{Command}
use Rattle.mt_render.specs.PageData.{StepTexts}
use Rattle.mt_what_if.specs.Difference.{rows_if_there}
use Rattle.mt_what_if.specs.KnownSpaces.{TitledSpace}
use Rattle.mt_what_if.specs.LinesTold.{asked_words}
use Rattle.mt_what_if.specs.Naming.{spaces_told}
use Rattle.mt_what_if.specs.Taken.{taken_told}
use Rattle.mt_what_if.specs.Told.{events_text}
use Rattle.mt_what_if.specs.Trials.{TrialView, world_after, for_next}
use Rattle.mt_what_if.specs.Tried.{IsLineTried}
use Rattle.mt_what_if.specs.declared.asked.AskedLine.{AskedLine}
use Rattle.mt_what_if.specs.declared.foretelling.Question.{Question}
use Rattle.mt_what_if.specs.declared.trying.Outcome.{Outcome}
use Rattle.mt_what_if.specs.declared.trying.Outcome.TheVariants.{Done, Refused}

-- the table of a namespace before all lines
abbrev pub table_opened : WorldView → TitledSpace → MirrorView
table_opened w s = record { space = s.number; number = 0; rows = rows_if_there w s.number }

-- what a line is answered
abbrev pub answer_text : Outcome → List ℕ
answer_text Done = codes "ok"
answer_text (Refused fault) = codes "no " ++ name_of fault

-- each thing that is taken to be there for a line, a line of its note
abbrev pub note_line : List ℕ → List ℕ
note_line [] = []
note_line (b ∷ taken) = codes "taken to be there: " ++ ((b ∷ taken) ++ codes "\n")

abbrev pub note_of_taken : List ℕ → List ℕ
note_of_taken taken = flat_map note_line (pieces 10 taken)

-- what a line changes in the namespaces of the tables, and in those that lines have made from the first world on
unfoldable pub step_changes : Question → WorldView → WorldView → WorldView → List ℕ
step_changes q start w v = events_text w v (spaces_told q.names.now q.lines.now start v)

-- a line as a step: its words, its answer, what it was given, and what it changes from one world to another one
unfoldable pub step_told : Question → List ℕ → Outcome → List Command → WorldView → WorldView → WorldView → StepTexts
step_told q words outcome given start w v =
    record { line = asked_words words; answer = answer_text outcome; reason = []; note = note_of_taken (taken_told given); changes = step_changes q start w v }

-- what comes of a line, and its step
pub record IsPageStep (q : Question) (line : AskedLine) (t u : TrialView) (outcome : Outcome) (step : StepTexts) : Type 0 where
  pub tried : IsLineTried q.tables.now line (for_next t) (record { trial = u; outcome = outcome })
  pub told : step ≡ step_told q line.words.now outcome u.given t.start (world_after t) (world_after u)

-- lines are tried in turn, up to one that is refused, and these are their steps
abbrev pub AreSteps : Question → List AskedLine → TrialView → TrialView → Outcome → List StepTexts → Type 0
AreSteps q [] t u outcome steps = (u ≡ t) × (outcome ≡ Done) × (steps ≡ [])
AreSteps q (line ∷ lines) t u outcome steps =
    ((fault : Fault) × (step : StepTexts) × (outcome ≡ Refused fault) × (steps ≡ step ∷ []) × IsPageStep q line t u outcome step)
    ⊎ ((mid : TrialView) × (step : StepTexts) × (rest : List StepTexts) × (steps ≡ step ∷ rest) × IsPageStep q line t mid Done step
    × AreSteps q lines mid u outcome rest)
