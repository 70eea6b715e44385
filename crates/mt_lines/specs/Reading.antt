-- What one call of a line reader means, and what its clauses see of a reader.
-- A word with no source is this project's rule.
use Rattle.std.specs.Prelude.{◌≡◌, ℕ, ◌+◌, ◌<◌, ◌≤◌, List, [], ◌∷◌, ◌++◌, Result, Ok, Err, Option, None, Some, ⊤, is_some, if◌then◌else◌, vec_capacity}
use Rattle.std.specs.Io.KnownBytes.{prepend_known, Consumes}
use Rattle.mt_lines.specs.Lines.{Item, lines_of, Unbroken, Text, TooLong, Unended, Endless}
use Rattle.mt_lines.specs.declared.line.Line.{Line}
use Rattle.mt_lines.specs.declared.line.Line.TheVariants as line
use Rattle.mt_lines.specs.declared.line.LineReader.{LineReader}
use Rattle.mt_lines.specs.declared.line.ReadFault.{ReadFault}
use Rattle.mt_lines.specs.declared.line.ReadFault.TheVariants as fault
use Rattle.mt_lines.specs.declared.stream.Input.{Ghosts}
use Rattle.mt_lines.specs.declared.stream.StreamFault.{StreamFault}
use Rattle.mt_lines.specs.Stream.{HasFailed, IsInterrupted, most_interruptions}

-- the bytes that the reader still has to serve, if what its input has left is known: those that it has read ahead, and
-- those that its input has left
abbrev pub known_left : {R : Type 0} {g : Ghosts R} → LineReader R g → Option (List ℕ)
known_left {R} {g} r = prepend_known r.chunk (g.remaining r.reader)

-- how many calls of the reader's input have failed
abbrev pub failed_calls : {R : Type 0} {g : Ghosts R} → LineReader R g → ℕ
failed_calls {R} {g} r = g.failed r.reader

-- the faults of the last calls of the reader's input, back to the last that succeeded
abbrev pub last_faults : {R : Type 0} {g : Ghosts R} → LineReader R g → List StreamFault
last_faults {R} {g} r = g.faults r.reader

-- the most bytes of a line that the reader serves, its line end not counted
abbrev pub limit_of : {R : Type 0} {g : Ghosts R} → LineReader R g → ℕ
limit_of r = r.limit

-- the fault that ended the reading, if one did
abbrev pub fault_of : {R : Type 0} {g : Ghosts R} → LineReader R g → Option ReadFault
fault_of r = r.fault

-- the bytes of the last line, if it was a text, and otherwise none
abbrev pub last_line : {R : Type 0} {g : Ghosts R} → LineReader R g → List ℕ
last_line r = if is_some r.fault then [] else r.line.items

-- how many bytes of a line the reader has memory for
abbrev pub line_room : {R : Type 0} {g : Ghosts R} → LineReader R g → ℕ
line_room r = vec_capacity r.line

-- how many bytes a reader reserves for a line at most, by this project's rule
abbrev pub most_reserved : ℕ
most_reserved = 8192

-- one call took a reader from the bytes before to the bytes after: it answered their first line,
-- its text if it was one, or that there is none; of a fault other than Endless it says nothing
abbrev pub IsNext : ℕ → List ℕ → Result Line ReadFault → List ℕ → List ℕ → Type 0
IsNext limit before (Ok line.Text) text after = lines_of limit before ≡ Text text ∷ lines_of limit after
IsNext limit before (Ok line.TooLong) text after = lines_of limit before ≡ TooLong ∷ lines_of limit after
IsNext limit before (Ok line.Unended) text after = (lines_of limit before ≡ Unended ∷ []) × (after ≡ [])
IsNext limit before (Ok line.End) text after = (lines_of limit before ≡ []) × (after ≡ [])
IsNext limit before (Err fault.Endless) text after = (more : List Item) × (lines_of limit before ≡ Endless ∷ more)
IsNext limit before (Err fault.Device) text after = Unit {0}
IsNext limit before (Err fault.Interrupted) text after = Unit {0}
IsNext limit before (Err fault.NoMemory) text after = Unit {0}

-- the same of a reader of which the bytes are known: they stay known
abbrev pub IsNextKnown : ℕ → Option (List ℕ) → Result Line ReadFault → List ℕ → Option (List ℕ) → Type 0
IsNextKnown limit None r text after = ⊤
IsNextKnown limit (Some before) r text None = ⊥
IsNextKnown limit (Some before) r text (Some after) = IsNext limit before r text after

-- known bytes begin with these lines, and what is left after them; known bytes stay known
abbrev pub PassLines : ℕ → Option (List ℕ) → List Item → Option (List ℕ) → Type 0
PassLines limit None items after = ⊤
PassLines limit (Some before) items None = ⊥
PassLines limit (Some before) items (Some after) = lines_of limit before ≡ items ++ lines_of limit after

-- a call that answered a fault of its input took no whole line of it: what it took has no line end
abbrev pub LosesNoLine : Result Line ReadFault → Option (List ℕ) → Option (List ℕ) → Type 0
LosesNoLine (Ok l) before after = ⊤
LosesNoLine (Err fault.Endless) before after = ⊤
LosesNoLine (Err e) before after = (part : List ℕ) × Unbroken part × Consumes before after part

-- how far the count of failed calls rose in a call that answered this fault: by at least one for
-- Device, and by the most interruptions for Interrupted
abbrev pub IsFaultCause : ReadFault → ℕ → ℕ → Type 0
IsFaultCause fault.Device old new = old < new
IsFaultCause fault.Interrupted old new = old + most_interruptions ≤ new
IsFaultCause fault.Endless old new = old ≤ new
IsFaultCause fault.NoMemory old new = old ≤ new

-- the same of a call that may have answered a line, in which the count does not fall
abbrev pub IsReadCause : Result Line ReadFault → ℕ → ℕ → Type 0
IsReadCause (Ok l) old new = old ≤ new
IsReadCause (Err e) old new = IsFaultCause e old new

-- what the last calls of the input were when a call answered this fault, and had begun after a call
-- that succeeded: one failure for Device, and as many interruptions as end a read for Interrupted
abbrev pub IsFaultRun : ReadFault → List StreamFault → Type 0
IsFaultRun fault.Device faults = HasFailed faults
IsFaultRun fault.Interrupted faults = IsInterrupted faults
IsFaultRun fault.Endless faults = faults ≡ []
IsFaultRun fault.NoMemory faults = faults ≡ []

-- the same of a call that may have answered a line: its last call of the input succeeded
abbrev pub IsReadRun : Result Line ReadFault → List StreamFault → Type 0
IsReadRun (Ok l) faults = faults ≡ []
IsReadRun (Err e) faults = IsFaultRun e faults
