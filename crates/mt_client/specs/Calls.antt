-- What calls leave of the streams: which lines were read, what went out, and what a fault leaves.
-- A word with no source is this project's rule.
use Rattle.std.specs.Prelude.{◌≡◌, ◌≢◌, ℕ, ◌≤◌, true, List, [], ◌∷◌, ◌++◌, ◌⊎◌, None, Option, IsTrue}
use Rattle.std.specs.Io.KnownBytes.{Appends, Keeps}
use Rattle.mt_lines.specs.Lines.{Item}
use Rattle.mt_lines.specs.Reading.{failed_calls, last_faults, limit_of, fault_of, last_line}
use Rattle.mt_lines.specs.declared.line.LineReader.{LineReader}
use Rattle.mt_lines.specs.declared.stream.Input.{Ghosts}
use Rattle.mt_lines.specs.declared.stream.Output.{Ghosts as OutputGhosts}
use Rattle.mt_client.specs.declared.fault.ClientFault.{ClientFault}
use Rattle.mt_client.specs.declared.fault.ClientFault.TheVariants.{Connection, Output}
use Rattle.mt_events.specs.Posts.{ended}
use Rattle.mt_client.specs.Requests.{is_refusal}
use Rattle.mt_client.specs.Reading.{known_lines, printed, ComeFirst, prepend_lines, HasBroken, IsBroken, IsCutOff, AreSent, NoneFirst}
use Rattle.mt_client.specs.Mirroring.{HasRefused}
use Rattle.mt_client.specs.Missing.{IsMissing}

-- a reader reads on: it has met no fault, its limit stays, and where no fault of the stream stood none does
pub record ReadsOn {R : Type 0} {g : Ghosts R} (old new : LineReader R g) : Type 0 where
  pub fresh : fault_of new ≡ None
  pub limit : limit_of new ≡ limit_of old
  pub counted : IsTrue g.counts → failed_calls old ≤ failed_calls new
  pub reads : IsTrue g.counts → last_faults old ≡ [] → last_faults new ≡ []

-- an output writes on: where no fault of it stood none does
pub record WritesOn {W : Type 0} (g : OutputGhosts W) (old new : W) : Type 0 where
  pub counted : IsTrue g.counts → g.failed old ≤ g.failed new
  pub serves : IsTrue g.counts → g.faults old ≡ [] → g.faults new ≡ []

-- these lines were read, and the reader reads on
pub record AreRead {R : Type 0} {g : Ghosts R} (lines : List (List ℕ)) (old new : LineReader R g) : Type 0 where
  pub on : ReadsOn old new
  pub came : ComeFirst (known_lines old) lines (known_lines new)

-- this text went out, and the output writes on
pub record IsOut {W : Type 0} (g : OutputGhosts W) (text : List ℕ) (old new : W) : Type 0 where
  pub on : WritesOn g old new
  pub went : Appends (g.contents old) (g.contents new) text

-- calls of an output failed
abbrev pub Breaks : {W : Type 0} → OutputGhosts W → W → W → Type 0
Breaks g old new = IsTrue g.counts → HasBroken (g.failed old) (g.failed new) (g.faults old) (g.faults new)

-- this text went out, or calls of the output failed
abbrev pub IsOutOrBroken : {W : Type 0} → OutputGhosts W → List ℕ → W → W → Type 0
IsOutOrBroken g text old new = Appends (g.contents old) (g.contents new) text ⊎ Breaks g old new

-- some of these requests went out, from the first one on, each whole; or calls of the writer failed
abbrev pub AreOutOrBroken : {W : Type 0} → OutputGhosts W → List (List ℕ) → W → W → Type 0
AreOutOrBroken g requests old new = AreSent requests (g.contents old) (g.contents new) ⊎ Breaks g old new

-- calls of an output failed, and a part of this text went out, and not all
pub record IsOutInPart {W : Type 0} (g : OutputGhosts W) (text : List ℕ) (old new : W) : Type 0 where
  pub cause : Breaks g old new
  pub cut : IsCutOff text (g.contents old) (g.contents new)

-- a fault: Connection only where calls of the reader failed or this is missing, and Output only where this broke
pub record IsFault {R : Type 0} {g : Ghosts R} (fault : ClientFault) (missing broken : Type 0) (old new : LineReader R g) : Type 0 where
  pub limit : limit_of new ≡ limit_of old
  pub cut : fault ≡ Connection → IsTrue g.counts → HasBroken (failed_calls old) (failed_calls new) (last_faults old) (last_faults new) ⊎ missing
  pub cause : fault ≡ Output → broken

-- a fault of calls that read: none of an output, and Connection only where calls failed or no lines of this kind come first
abbrev pub IsReadFault : {R : Type 0} {g : Ghosts R} → ClientFault → (List (List ℕ) → Type 0) → Option (List Item) → LineReader R g → LineReader R g → Type 0
IsReadFault fault kind before old new = IsFault fault (NoneFirst kind before) ⊥ old new

-- a fault of calls that read and print: Connection only where calls that read failed or no lines of this kind come first, and Output only where calls of the output failed
abbrev pub IsTellFault : {R O : Type 0} {g : Ghosts R} → OutputGhosts O → ClientFault → (List (List ℕ) → Type 0) → LineReader R g → LineReader R g → O → O → Type 0
IsTellFault h fault kind old new begun done = IsFault fault (NoneFirst kind (known_lines old)) (Breaks h begun done) old new

-- a fault of calls that read, print and ask: Connection too where this is missing, which may be that calls of the writer failed
abbrev pub IsEffectFault : {R W O : Type 0} {g : Ghosts R} → OutputGhosts W → OutputGhosts O → ClientFault → (Type 0 → Type 0) → LineReader R g → LineReader R g → W → W → O → O → Type 0
IsEffectFault w h fault missing old new asked sent begun done =
    IsFault fault (IsTrue w.counts → missing (HasBroken (w.failed asked) (w.failed sent) (w.faults asked) (w.faults sent))) (Breaks h begun done) old new

-- the same, where calls of the writer failed, or no lines of this kind come first
abbrev pub IsTalkFault : {R W O : Type 0} {g : Ghosts R} → OutputGhosts W → OutputGhosts O → ClientFault → (List (List ℕ) → Type 0) → LineReader R g → LineReader R g → W → W → O → O → Type 0
IsTalkFault w h fault kind old new asked sent begun done = IsEffectFault w h fault (λ unsent. unsent ⊎ NoneFirst kind (known_lines old)) old new asked sent begun done

-- a fault of calls that print lines as they read them, behind some that were read before: the lines were printed as far as they were read whole
pub record IsPassFault {R O : Type 0} {g : Ghosts R} (h : OutputGhosts O) (fault : ClientFault) (kind : List (List ℕ) → Type 0) (seen : List (List ℕ)) (old new : LineReader R g) (begun done : O) : Type 0 where
  pub limit : limit_of new ≡ limit_of old
  pub cut : fault ≡ Connection → IsTrue g.counts → HasBroken (failed_calls old) (failed_calls new) (last_faults old) (last_faults new) ⊎ NoneFirst kind (prepend_lines seen (known_lines old))
  pub cause : fault ≡ Output → Breaks h begun done
  pub broken : IsBroken fault (prepend_lines seen (known_lines old)) (h.contents begun) (h.contents done)

-- lines were read that are, behind some that were read before, of this kind, and all of them were printed
pub record PassesOn {R O : Type 0} {g : Ghosts R} (h : OutputGhosts O) (seen : List (List ℕ)) (kind : List (List ℕ) → Type 0) (old new : LineReader R g) (begun done : O) : Type 0 where
  pub others : List (List ℕ)
  pub is : kind (seen ++ others)
  pub read : AreRead others old new
  pub out : IsOut h (printed (seen ++ others)) begun done

-- a refusal was read, which the reader lends, and printed
pub record PassesRefusal {R O : Type 0} {g : Ghosts R} (h : OutputGhosts O) (old new : LineReader R g) (begun done : O) : Type 0 where
  pub is : is_refusal (last_line new) ≡ true
  pub read : AreRead (last_line new ∷ []) old new
  pub out : IsOut h (ended (last_line new)) begun done

-- a refusal was read, which the reader lends, and printed, and the request went out, or calls of the writer failed
pub record IsTurnedAway {R W O : Type 0} {g : Ghosts R} (w : OutputGhosts W) (h : OutputGhosts O) (request : List ℕ) (old new : LineReader R g) (asked sent : W) (begun done : O) : Type 0 where
  pub refused : HasRefused (last_line new) (known_lines old) (known_lines new)
  pub out : IsOut h (ended (last_line new)) begun done
  pub gone : IsOut w request asked sent ⊎ Breaks w asked sent

-- a fault of a request and of what is read behind it: Connection where calls of the writer failed and no refusal comes first, too; but for Output nothing was printed
pub record IsAskFault {R W O : Type 0} {g : Ghosts R} (w : OutputGhosts W) (h : OutputGhosts O) (fault : ClientFault) (kind : List (List ℕ) → Type 0) (old new : LineReader R g) (asked sent : W) (begun done : O) : Type 0 where
  pub limit : limit_of new ≡ limit_of old
  pub cut : fault ≡ Connection → IsTrue g.counts
      → HasBroken (failed_calls old) (failed_calls new) (last_faults old) (last_faults new) ⊎ (IsTrue w.counts → IsMissing (HasBroken (w.failed asked) (w.failed sent) (w.faults asked) (w.faults sent)) kind (known_lines old))
  pub cause : fault ≡ Output → Breaks h begun done
  pub kept : fault ≢ Output → Keeps (h.contents begun) (h.contents done)
  pub broken : IsBroken fault (known_lines old) (h.contents begun) (h.contents done)
