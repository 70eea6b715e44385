-- What a plain session writes and does: the fold of its lines over a floor and its watcher.
-- A word with no source is this project's rule.
use Rattle.std.specs.Prelude.{◌≡◌, ℕ, ◌+◌, ◌<◌, ◌≤◌, List, [], ◌∷◌, ◌++◌, take, map, length, Result, Ok, Err, Bool, true, false, if◌then◌else◌, Option, Some, None, ◌⊎◌, ⊤}
use Rattle.mt_skel.specs.declared.fault.Fault.{Fault}
use Rattle.mt_skel.specs.declared.fault.Fault.TheVariants.{BadLine, TooLong as LineTooLong, NoMemory as WantsMemory}
use Rattle.mt_requests.specs.declared.request.Request.{Request}
use Rattle.mt_requests.specs.declared.request.Request.TheVariants.{Quit as AsksQuit, Stop as AsksStop}
use Rattle.mt_lines.specs.declared.stream.StreamFault.{StreamFault}
use Rattle.mt_lines.specs.declared.line.ReadFault.TheVariants.{Device, Interrupted, Endless as NeverEnds, NoMemory as NoRoom}
use Rattle.mt_session.specs.declared.serving.End.{End}
use Rattle.mt_session.specs.declared.serving.End.TheVariants.{Quit, Stop, Input, Read, Cut as CutOff, Memory, Spent}
use Rattle.mt_requests.specs.Requests.{request_of}
use Rattle.std.specs.Io.KnownBytes.{Appends, Consumes}
use Rattle.mt_lines.specs.Lines.{Item, Text, TooLong, Unended, Endless, Unbroken, lines_of}
use Rattle.mt_lines.specs.Stream.{HasFailed, IsInterrupted}
use Rattle.mt_lines.specs.Reading.{IsFaultCause, IsFaultRun, PassLines}
use Rattle.mt_session.specs.Answers.{refusal}
use Rattle.mt_session.specs.Requests.{SessionState, answer_to, state_to, wants_memory, begins_watcher, left}

-- whether every growth that a line asked for was granted, or one was refused: for its request or its answer, or for what a
-- watcher found that had begun and was then closed again
pub data Growth : Type 0 where
  Granted : Growth
  Refused : Growth
  Unshown : Growth

-- a line that is answered
pub data Asking : Type 0 where
  -- one of at most the limit, with its line end
  Whole : List ℕ → Asking
  -- one over the limit
  Overlong : Asking
  -- the bytes behind the last line end, at most the limit
  Broken : Asking

-- what a reader of lines says of it
abbrev pub item_of : Asking → Item
item_of (Whole bytes) = Text bytes
item_of Overlong = TooLong
item_of Broken = Unended

-- a line, and whether its request met a refused growth
pub record Turn : Type 0 where
  pub line : Asking
  pub growth : Growth

-- the lines of turns, as a reader of lines serves them
abbrev pub items_of : List Turn → List Item
items_of turns = map (λ turn. item_of turn.line) turns

-- what a line asks for
abbrev pub request_of_line : Asking → Result Request Fault
request_of_line (Whole bytes) = request_of bytes
request_of_line Overlong = Err LineTooLong
request_of_line Broken = Err BadLine

-- a refused growth can stand in place of an answer that is not found without memory
abbrev pub may_fail : SessionState → Result Request Fault → Bool
may_fail state (Ok r) = wants_memory state r
may_fail state (Err f) = false

abbrev pub may_be_unshown : SessionState → Result Request Fault → Bool
may_be_unshown state (Ok r) = begins_watcher state r
may_be_unshown state (Err f) = false

-- the answer where every growth was granted, and the state after it
abbrev pub answer_of : SessionState → Result Request Fault → List ℕ
answer_of state (Ok r) = answer_to state r
answer_of state (Err f) = refusal f

abbrev pub granted_state : SessionState → Result Request Fault → SessionState
granted_state state (Ok r) = state_to state r
granted_state state (Err f) = state

-- the answer, and the state after it: a refused growth changes nothing, but that a watcher may have been given a key
abbrev pub answer_with : SessionState → Growth → Result Request Fault → List ℕ
answer_with state Granted r = answer_of state r
answer_with state Refused r = if may_fail state r then refusal WantsMemory else answer_of state r
answer_with state Unshown r = if may_be_unshown state r then refusal WantsMemory else answer_of state r

abbrev pub state_with : SessionState → Growth → Result Request Fault → SessionState
state_with state Granted r = granted_state state r
state_with state Refused r = if may_fail state r then state else granted_state state r
state_with state Unshown r = if may_be_unshown state r then left (granted_state state r) else granted_state state r

-- the text that answers a line, and the state after it
unfoldable pub answer_to_turn : SessionState → Turn → List ℕ
answer_to_turn state turn = answer_with state turn.growth (request_of_line turn.line)

unfoldable pub state_after_turn : SessionState → Turn → SessionState
state_after_turn state turn = state_with state turn.growth (request_of_line turn.line)

-- how the line ends the session, if it does
abbrev pub ends_by : Result Request Fault → Option End
ends_by (Ok AsksQuit) = Some Quit
ends_by (Ok AsksStop) = Some Stop
ends_by r = None

unfoldable pub end_of_turn : Turn → Option End
end_of_turn turn = ends_by (request_of_line turn.line)

-- the stated text: the answers of the lines, one after another
abbrev pub text_of : List Turn → SessionState → List ℕ
text_of [] state = []
text_of (turn ∷ turns) state = answer_to_turn state turn ++ text_of turns (state_after_turn state turn)

abbrev pub state_after : List Turn → SessionState → SessionState
state_after [] state = state
state_after (turn ∷ turns) state = state_after turns (state_after_turn state turn)

-- the input goes on behind the line
abbrev pub has_end : Asking → Bool
has_end (Whole bytes) = true
has_end Overlong = true
has_end Broken = false

-- none of the lines ends the session
abbrev pub AllGoOn : List Turn → Type 0
AllGoOn [] = Unit {0}
AllGoOn (turn ∷ turns) = (has_end turn.line ≡ true) × (end_of_turn turn ≡ None) × AllGoOn turns

-- the longest line, in bytes before its line end, and the most lines of a session
abbrev pub line_limit : ℕ
line_limit = 8192

abbrev pub most_lines : ℕ
most_lines = 16777216

-- where the input ended, these are all its lines, and where a line of it goes on far past the limit, those in front of that
abbrev pub EndsInput : End → Option (List ℕ) → List Item → Type 0
EndsInput Input (Some before) items = lines_of line_limit before ≡ items
EndsInput (Read NeverEnds) (Some before) items = (more : List Item) × (lines_of line_limit before ≡ items ++ Endless ∷ more)
EndsInput by before items = ⊤

-- no whole line was read and not answered: what the reader took has no line end
abbrev pub IsPartRead : Option (List ℕ) → Option (List ℕ) → Type 0
IsPartRead rest left = (part : List ℕ) × Unbroken part × Consumes rest left part

-- the session has served these lines and goes on
pub record Going (turns : List Turn) (before later : Option (List ℕ)) (old new : SessionState) (sent written : Option (List ℕ)) : Type 0 where
  pub lines : PassLines line_limit before (items_of turns) later
  pub state : new ≡ state_after turns old
  pub out : Appends sent written (text_of turns old)
  pub goes : AllGoOn turns

-- how much of the last answer went out
abbrev pub sent_by : End → List ℕ → List ℕ
sent_by (CutOff cut) text = take cut.sent text
sent_by _ text = text

-- Why the session ended, by the lines served whole, the last line and its answer's text, what was left after these, and what the reader has left: a cut within
-- the last answer, and no want of memory, which a line of this limit never meets. Nothing was read beyond the last line, but at a fault a part of one.
abbrev pub IsCause : End → List Turn → List Turn → List ℕ → Option (List ℕ) → Option (List ℕ) → Type 0
IsCause Quit turns last text rest left = (turn : Turn) × (last ≡ turn ∷ []) × (end_of_turn turn ≡ Some Quit) × (left ≡ rest)
IsCause Stop turns last text rest left = (turn : Turn) × (last ≡ turn ∷ []) × (end_of_turn turn ≡ Some Stop) × (left ≡ rest)
IsCause Input turns last text rest left = ((last ≡ []) ⊎ ((turn : Turn) × (last ≡ turn ∷ []) × (turn.line ≡ Broken))) × (left ≡ rest)
IsCause (Read NeverEnds) turns last text rest left = last ≡ []
IsCause (Read Device) turns last text rest left = (last ≡ []) × IsPartRead rest left
IsCause (Read Interrupted) turns last text rest left = (last ≡ []) × IsPartRead rest left
IsCause (Read NoRoom) turns last text rest left = ⊥
IsCause (CutOff cut) turns last text rest left = (turn : Turn) × (last ≡ turn ∷ []) × (cut.sent < length text) × (left ≡ rest)
IsCause Memory turns last text rest left = ⊥
IsCause Spent turns last text rest left = (last ≡ []) × (length turns ≡ most_lines) × (left ≡ rest)

-- The lines of a session: those served whole, the line that ended it, if one did, and what was left after them; what was written is their text, of the last as
-- much as the end says; and so the session finishes. Bytes that are not known leave the lines and their answers open, and no more.
pub record ServedThen (finish : SessionState → SessionState) (before left : Option (List ℕ)) (old new : SessionState) (sent written : Option (List ℕ)) (by : End) : Type 0 where
  pub turns : List Turn
  pub last : List Turn
  pub rest : Option (List ℕ)
  pub lines : PassLines line_limit before (items_of turns ++ items_of last) rest
  pub input : EndsInput by before (items_of turns ++ items_of last)
  pub state : new ≡ finish (state_after last (state_after turns old))
  pub out : Appends sent written (text_of turns old ++ sent_by by (text_of last (state_after turns old)))
  pub goes : AllGoOn turns
  pub cause : IsCause by turns last (text_of last (state_after turns old)) rest left
  pub count : length turns + length last ≤ most_lines

-- a whole session: its lines are served, and then its watcher is closed
abbrev pub Served : Option (List ℕ) → Option (List ℕ) → SessionState → SessionState → Option (List ℕ) → Option (List ℕ) → End → Type 0
Served before later old new sent written by = ServedThen left before later old new sent written by

-- one line left the reader, and its whole answer was sent: the session goes on, or has ended with it
abbrev pub ServedLine : Option (List ℕ) → Option (List ℕ) → SessionState → SessionState → Option (List ℕ) → Option (List ℕ) → Option End → Type 0
ServedLine before later old new sent written None = (turn : Turn) × Going (turn ∷ []) before later old new sent written
ServedLine before later old new sent written (Some by) =
    (ran : ServedThen (λ state. state) before later old new sent written by) × (length ran.turns + length ran.last ≤ 1)

-- how far the reader's count of failed calls rose until a session ended so, or went on
abbrev pub IsReadEnd : Option End → ℕ → ℕ → Type 0
IsReadEnd (Some (Read f)) old new = IsFaultCause f old new
IsReadEnd _ old new = old ≤ new

-- what the last calls of the reader were, if before the session the last had not failed
abbrev pub IsReadEndRun : Option End → List StreamFault → Type 0
IsReadEndRun (Some (Read f)) faults = IsFaultRun f faults
IsReadEndRun _ faults = faults ≡ []

-- a session is cut only where a call of the writer failed
abbrev pub IsCutCause : Option End → ℕ → ℕ → Type 0
IsCutCause (Some (CutOff cut)) old new = old < new
IsCutCause _ old new = old ≤ new

-- what the last calls of the writer were, if before the session the last had not failed: an answer that
-- goes out whole leaves no fault, so that those of a cut came in the send that was cut
abbrev pub IsCutRun : Option End → List StreamFault → Type 0
IsCutRun (Some (CutOff cut)) faults = HasFailed faults ⊎ IsInterrupted faults
IsCutRun _ faults = faults ≡ []
