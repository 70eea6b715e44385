-- What a desk keeps of one watcher, and what happens to that. No public clause cites this module.
-- A word with no source is this project's rule.
use Rattle.std.specs.Prelude.{◌≡◌, ℕ, ◌≤◌, Bool, ◌&&◌, List, [], ◌++◌, length}
use Rattle.mt_events.specs.Posts.{PostView}
use Rattle.mt_events.specs.declared.opening.Scope.{Scope}
use Rattle.mt_events.specs.declared.opening.Opening.{Opening}
use Rattle.mt_events.specs.Following.{names_space, IsRun}
use Rattle.mt_queue.specs.Halves.{LineId, LineView, SenderView, ReceiverView}
use Rattle.mt_queue.specs.PassViews.{Item}
use Rattle.mt_floor.specs.declared.watch.Phase.{Phase}
use Rattle.mt_floor.specs.declared.watch.Phase.TheVariants.{Open as IsOpen}
use Rattle.mt_floor.specs.declared.watch.Meeting.{Meeting}
use Rattle.mt_floor.specs.Watcher.{is_open}
use Rattle.mt_desk.specs.Desk.{DeskRow, desk_row_after_stop}
use Rattle.mt_desk.specs.Calls.{IsHalved, met_row}
use Rattle.mt_desk.specs.Sent.{IsSentOne}

-- a row at its place: which line it has, and how many posts this holds
pub record PlacedRowView : Type 0 where
  pub row : DeskRow
  pub line : LineId
  pub capacity : ℕ

abbrev pub row_view : ℕ → Scope → ℕ → SenderView → ℕ → Phase → PlacedRowView
row_view key scope since s in_time phase = record {
  row = record { key = key; scope = scope; since = since; opening = s.opening; sent = s.sent; met = s.met; met_in_time = in_time; phase = phase };
  line = s.line;
  capacity = s.capacity;
}

-- a row's sender is of the opening that the key tells, and there is room for what a close answers
pub record HasSender (key : ℕ) (s : SenderView) (left : List Item) (room : ℕ) : Type 0 where
  pub tag : s.tag ≡ key
  pub empty : left ≡ []
  pub room_is : s.capacity ≤ room

-- the row of a watcher that begins
abbrev pub begun_row : ℕ → Scope → ℕ → Opening → DeskRow
begun_row key scope since o = record { key = key; scope = scope; since = since; opening = o; sent = []; met = 0; met_in_time = 0; phase = IsOpen }

-- a line that was not in use gets the row of a watcher that begins, and the watcher's half
pub record IsBegunRow (key : ℕ) (scope : Scope) (since : ℕ) (o : Opening) (l : LineView) (now : PlacedRowView) (half : ReceiverView) : Type 0 where
  pub row : now ≡ record { row = begun_row key scope since o; line = l.line; capacity = l.capacity }
  pub half_is : half ≡ record { line = l.line; opening = o; tag = key; taken = []; told = 0 }

-- a row meets the half of its watcher
pub record MeetsRow (r : PlacedRowView) (half : ReceiverView) (now : PlacedRowView) (half' : ReceiverView) (m : Meeting) : Type 0 where
  pub key : half.tag ≡ r.row.key
  pub rest : List PostView
  pub halved : IsHalved r.capacity r.row half rest
  pub meeting : m ≡ record { posted = length r.row.sent; taken = length half.taken; state = r.row.phase }
  pub row : now ≡ record r { row = met_row (length half.taken) r.row }
  pub half_is : half' ≡ record half { told = length r.row.sent }

-- a row goes: what was sent and not taken is left, and its line is not in use any more
pub record ClosesRow (r : PlacedRowView) (half : ReceiverView) (l : LineView) (posts : List PostView) : Type 0 where
  pub key : half.tag ≡ r.row.key
  pub halved : IsHalved r.capacity r.row half posts
  pub line : l ≡ record { line = r.line; capacity = r.capacity }

-- a post is due to a row
abbrev pub desk_row_follows : PostView → DeskRow → Bool
desk_row_follows p r = is_open r.phase && names_space r.scope p.space

-- an open row may be sent a post: that keeps the order of its watcher's posts
abbrev pub MayBeSent : DeskRow → List PostView → Type 0
MayBeSent r posts = r.phase ≡ IsOpen → IsRun r.opening (r.sent ++ posts)

-- an open row is sent a post, or lags; no other row is sent anything
pub record SendsRow (r : PlacedRowView) (p : PostView) (now : PlacedRowView) : Type 0 where
  pub line : now.line ≡ r.line
  pub capacity : now.capacity ≡ r.capacity
  pub sent : IsSentOne r.capacity p r.row now.row

-- a row after a stop
abbrev pub ended_row : PlacedRowView → PlacedRowView
ended_row r = record r { row = desk_row_after_stop r.row }
