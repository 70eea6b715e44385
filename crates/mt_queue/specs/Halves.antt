-- What contracts see of a line, of its sender and receiver, and of what is left when they are put together.
-- A word with no source is this project's rule.
use Rattle.std.specs.Prelude.{◌≡◌, ℕ, ◌≤◌, List, ◌++◌, [], length}
use Rattle.atomic_table.specs.Seated.{TableId}
use Rattle.mt_events.specs.Posts.{PostView}
use Rattle.mt_events.specs.Following.{IsRun}
use Rattle.mt_events.specs.declared.opening.Opening.{Opening}

-- which line it is: no two lines have one identity, and a line keeps its own through all its openings
abbrev pub LineId : Type 0
LineId = TableId

-- the identity of no line
abbrev pub no_line : LineId
no_line = record { words = 0; slots = 0; views_name = 0; atom = 0; block = 0; offset = 0; slot_names = [] }

-- a line that is not in use, and how many posts it may hold
pub record LineView : Type 0 where
  pub line : LineId
  pub capacity : ℕ

-- a sender: its opening and the number that tells it from others, all posts that it sent since, and how many of them were taken by the last meeting, 0 before the first
pub record SenderView : Type 0 where
  pub line : LineId
  pub opening : Opening
  pub tag : ℕ
  pub capacity : ℕ
  pub sent : List PostView
  pub met : ℕ

-- a receiver: its opening and the number of that, all posts that it took since, and how many were sent by the last meeting, 0 before the first
pub record ReceiverView : Type 0 where
  pub line : LineId
  pub opening : Opening
  pub tag : ℕ
  pub taken : List PostView
  pub told : ℕ

-- both halves put together: all posts that were sent, and those that were taken
pub record TailView : Type 0 where
  pub line : LineId
  pub capacity : ℕ
  pub sent : List PostView
  pub taken : List PostView

-- both halves belong to one line
abbrev pub AreOneLine : SenderView → ReceiverView → Type 0
AreOneLine s t = s.line ≡ t.line

-- How the two halves of one line relate: they are of one opening; what was taken is the beginning of what was sent, and the rest fits
-- into the line; and what the last meeting told was so
pub record IsMeeting (s : SenderView) (t : ReceiverView) : Type 0 where
  pub opening : s.opening ≡ t.opening
  pub tag : s.tag ≡ t.tag
  pub rest : List PostView
  pub split : s.sent ≡ t.taken ++ rest
  pub held : length rest ≤ s.capacity
  pub met : s.met ≤ length t.taken
  pub told : t.told ≤ length s.sent
  pub run : IsRun s.opening s.sent
