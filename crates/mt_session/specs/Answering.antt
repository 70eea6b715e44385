-- Lines that are served one after another, whoever answers them.
-- A word with no source is this project's rule.
use Rattle.std.specs.Prelude.{◌≡◌, ◌≢◌, ◌⊎◌, ℕ, zero, suc, ◌<◌, Bool, true, false, List, [], length, take, Result, Ok, Err, Option, None, Some}
use Rattle.std.specs.Io.KnownBytes.{Appends, Keeps}
use Rattle.mt_skel.specs.declared.fault.Fault.TheVariants.{BadLine, TooLong as LineTooLong}
use Rattle.mt_lines.specs.declared.stream.Cut.{Cut}
use Rattle.mt_lines.specs.declared.line.Line.{Line}
use Rattle.mt_lines.specs.declared.line.Line.TheVariants.{Text, TooLong, Unended, End as NoLine}
use Rattle.mt_lines.specs.declared.line.ReadFault.{ReadFault}
use Rattle.mt_lines.specs.declared.line.ReadFault.TheVariants.{NoMemory as NoRoom}
use Rattle.mt_lines.specs.Reading.{IsNextKnown, LosesNoLine}
use Rattle.mt_session.specs.declared.serving.End.{End}
use Rattle.mt_session.specs.declared.serving.End.TheVariants.{Quit, Stop, Input, Read, Cut as CutOff, Spent}
use Rattle.mt_session.specs.Answers.{refusal}
use Rattle.mt_session.specs.Session.{line_limit, most_lines}

-- an end that a line brings once its answer is out whole
abbrev pub ends_whole : End → Bool
ends_whole Quit = true
ends_whole Stop = true
ends_whole Input = true
ends_whole _ = false

-- an end that is not the reader's
abbrev pub is_by_answer : Option End → Bool
is_by_answer (Some (Read f)) = false
is_by_answer end = true

-- the text went out whole, and the session ends as it would, or it was cut
abbrev pub IsSent : Option (List ℕ) → Option (List ℕ) → List ℕ → Option End → Option End → Type 0
IsSent sent written text wanted result =
    ((result ≡ wanted) × Appends sent written text)
    ⊎ ((cut : Cut) × (result ≡ Some (CutOff cut)) × Appends sent written (take cut.sent text) × (cut.sent < length text))

-- how a whole line is answered: by what was before it, the line, what was sent before and after it, the end that it brings, and what is then
abbrev pub Answering : Type 0 → Type 1
Answering S = S → List ℕ → Option (List ℕ) → Option (List ℕ) → Option End → S → Type 0

-- what a reader said of a line was answered, and so the session ends with it, if it does
abbrev pub AnswersLine : {S : Type 0} → Answering S → Line → List ℕ → S → Option (List ℕ) → Option (List ℕ) → Option End → S → Type 0
AnswersLine answers Text bytes s sent written end s' = answers s bytes sent written end s'
AnswersLine answers TooLong bytes s sent written end s' = (s' ≡ s) × IsSent sent written (refusal LineTooLong) None end
AnswersLine answers Unended bytes s sent written end s' = (s' ≡ s) × IsSent sent written (refusal BadLine) (Some Input) end
AnswersLine answers NoLine bytes s sent written end s' = (s' ≡ s) × Keeps sent written × (end ≡ Some Input)

-- the reader failed, and has lost no whole line; with the limit of sessions it never wants memory
abbrev pub FailsWith : {S : Type 0} → ReadFault → Option (List ℕ) → S → Option (List ℕ) → Option (List ℕ) → S → Option (List ℕ) → Type 0
FailsWith fault before s sent later s' written =
    (fault ≢ NoRoom) × ((part : List ℕ) × IsNextKnown line_limit before (Err fault) part later) × LosesNoLine (Err fault) before later × (s' ≡ s) × Keeps sent written

-- one line left the reader, and its whole answer was sent; or the reader failed in its place
abbrev pub ServesNext : {S : Type 0} → Answering S → Option (List ℕ) → S → Option (List ℕ) → Option End → Option (List ℕ) → S → Option (List ℕ) → Type 0
ServesNext answers before s sent end later s' written =
    ((line : Line) × (bytes : List ℕ) × IsNextKnown line_limit before (Ok line) bytes later × AnswersLine answers line bytes s sent written end s')
    ⊎ ((fault : ReadFault) × (end ≡ Some (Read fault)) × FailsWith fault before s sent later s' written)

-- so many lines were served, and the session goes on
unfoldable pub ServesLines : {S : Type 0} → Answering S → ℕ → Option (List ℕ) → S → Option (List ℕ) → Option (List ℕ) → S → Option (List ℕ) → Type 0
ServesLines answers zero before s sent later s' written = (later ≡ before) × (s' ≡ s) × (written ≡ sent)
ServesLines {S} answers (suc n) before s sent later s' written =
    (mid : Option (List ℕ)) × (now : S) × (so_far : Option (List ℕ)) × ServesLines answers n before s sent mid now so_far × ServesNext answers mid now so_far None later s' written

-- lines were served until the session ended: by the next one, or what came in its place, or once they were as many as a session serves
unfoldable pub ServesAll : {S : Type 0} → Answering S → Option (List ℕ) → S → Option (List ℕ) → End → Option (List ℕ) → S → Option (List ℕ) → Type 0
ServesAll {S} answers before s sent end later s' written =
    ((n : ℕ) × (mid : Option (List ℕ)) × (now : S) × (so_far : Option (List ℕ)) × (n < most_lines) × ServesLines answers n before s sent mid now so_far
    × ServesNext answers mid now so_far (Some end) later s' written)
    ⊎ ((n : ℕ) × (n ≡ most_lines) × (end ≡ Spent) × ServesLines answers n before s sent later s' written)
