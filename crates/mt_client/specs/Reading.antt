-- What a client has read of a connection, and what it has printed of it.
-- A word with no source is this project's rule.
use Rattle.std.specs.Prelude.{◌≡◌, ◌≢◌, ℕ, ◌<◌, ◌≤◌, List, [], ◌∷◌, ◌++◌, map, take, length, Option, Some, ◌⊎◌}
use Rattle.std.specs.List.{flat_map}
use Rattle.std.specs.Option.{option_map}
use Rattle.std.specs.Io.KnownBytes.{Appends}
use Rattle.mt_lines.specs.Lines.{Item, Text, lines_of}
use Rattle.mt_lines.specs.Stream.{HasFailed, IsInterrupted}
use Rattle.mt_lines.specs.Reading.{known_left, failed_calls, last_faults, limit_of}
use Rattle.mt_lines.specs.declared.line.LineReader.{LineReader}
use Rattle.mt_lines.specs.declared.line.ReadFault.{ReadFault}
use Rattle.mt_lines.specs.declared.line.ReadFault.TheVariants.{Device, Interrupted, Endless, NoMemory as NoRoom}
use Rattle.mt_lines.specs.declared.stream.Input.{Ghosts}
use Rattle.mt_lines.specs.declared.stream.StreamFault.{StreamFault}
use Rattle.mt_client.specs.declared.fault.ClientFault.{ClientFault}
use Rattle.mt_client.specs.declared.fault.ClientFault.TheVariants.{Connection, Output, NoMemory}
use Rattle.mt_events.specs.Posts.{ended}

-- the lines that a reader has still to serve, where its bytes are known
abbrev pub known_lines : {R : Type 0} {g : Ghosts R} → LineReader R g → Option (List Item)
known_lines r = option_map (lines_of (limit_of r)) (known_left r)

-- a part of a text went out, or all of it
pub record IsSentPart (text : List ℕ) (old new : Option (List ℕ)) : Type 0 where
  pub count : ℕ
  pub out : Appends old new (take count text)

-- some of these requests went out, from the first one on, each whole
pub record AreSent (requests : List (List ℕ)) (old new : Option (List ℕ)) : Type 0 where
  pub count : ℕ
  pub some : 1 ≤ count
  pub within : count ≤ length requests
  pub out : Appends old new (flat_map ended (take count requests))

-- what a fault of a reader is to a client
abbrev pub reading_fault : ReadFault → ClientFault
reading_fault NoRoom = NoMemory
reading_fault Device = Connection
reading_fault Interrupted = Connection
reading_fault Endless = Connection

-- whole lines, as a reader serves them
abbrev pub texts : List (List ℕ) → List Item
texts lines = map Text lines

-- lines as they are printed
abbrev pub printed : List (List ℕ) → List ℕ
printed lines = flat_map ended lines

-- where lines are known, these come first, and what is left of them is known
pub record ComeFirst (before : Option (List Item)) (lines : List (List ℕ)) (after : Option (List Item)) : Type 0 where
  pub known : (items : List Item) → before ≡ Some items → (later : List Item) × (after ≡ Some later) × (items ≡ texts lines ++ later)

-- these lines, and then the known ones
abbrev pub prepend_lines : List (List ℕ) → Option (List Item) → Option (List Item)
prepend_lines [] after = after
prepend_lines (line ∷ lines) after = option_map (λ items. Text line ∷ items) (prepend_lines lines after)

-- a text went out in part, and not all of it
pub record IsCutOff (text : List ℕ) (old new : Option (List ℕ)) : Type 0 where
  pub count : ℕ
  pub out : Appends old new (take count text)
  pub within : count < length text

-- these lines were read, and printed
pub record Passed (lines : List (List ℕ)) (before after : Option (List Item)) (old new : Option (List ℕ)) : Type 0 where
  pub read : ComeFirst before lines after
  pub out : Appends old new (printed lines)

-- lines of this kind were read
abbrev pub HasRead : (List (List ℕ) → Type 0) → Option (List Item) → Option (List Item) → Type 0
HasRead kind before after = (lines : List (List ℕ)) × kind lines × ComeFirst before lines after

-- lines of this kind were read, and printed
abbrev pub HasPassed : (List (List ℕ) → Type 0) → Option (List Item) → Option (List Item) → Option (List ℕ) → Option (List ℕ) → Type 0
HasPassed kind before after old new = (lines : List (List ℕ)) × kind lines × Passed lines before after old new

-- whole lines were read and printed, as many as there were up to a fault
pub record IsWhole (before : Option (List Item)) (old new : Option (List ℕ)) : Type 0 where
  pub lines : List (List ℕ)
  pub later : Option (List Item)
  pub read : ComeFirst before lines later
  pub out : Appends old new (printed lines)

-- a part of the lines that were read was printed, and not all of it
pub record IsPart (before : Option (List Item)) (old new : Option (List ℕ)) : Type 0 where
  pub lines : List (List ℕ)
  pub later : Option (List Item)
  pub read : ComeFirst before lines later
  pub out : IsCutOff (printed lines) old new

-- what was printed up to a fault
abbrev pub IsBroken : ClientFault → Option (List Item) → Option (List ℕ) → Option (List ℕ) → Type 0
IsBroken Output before old new = IsPart before old new
IsBroken Connection before old new = IsWhole before old new
IsBroken NoMemory before old new = IsWhole before old new

-- known lines do not begin with lines of this kind
abbrev pub NoneFirst : (List (List ℕ) → Type 0) → Option (List Item) → Type 0
NoneFirst kind before = (lines : List (List ℕ)) (later : List Item) → kind lines → before ≢ Some (texts lines ++ later)

-- so many lines
abbrev pub AreSoMany : ℕ → List (List ℕ) → Type 0
AreSoMany count lines = length lines ≡ count

-- calls of a stream failed; and where no fault stood at the start, the last call failed, or was the last of as many interrupted ones in succession as end a read or a send
pub record HasBroken (old new : ℕ) (before after : List StreamFault) : Type 0 where
  pub more : old < new
  pub last : before ≡ [] → HasFailed after ⊎ IsInterrupted after

-- the reader's calls failed, or no lines of this kind come first
abbrev pub IsCut : {R : Type 0} {g : Ghosts R} → (List (List ℕ) → Type 0) → LineReader R g → LineReader R g → Type 0
IsCut kind old new = HasBroken (failed_calls old) (failed_calls new) (last_faults old) (last_faults new) ⊎ NoneFirst kind (known_lines old)
