-- What a desk has sent of the posts of a command so far. No public clause cites this module.
-- A word with no source is this project's rule.
use Rattle.std.specs.Prelude.{◌≡◌, ℕ, ◌+◌, ◌≤◌, ◌⊎◌, Bool, false, List, [], ◌∷◌, ◌++◌, length, Some, IsTrue, Result, Ok}
use Rattle.std.specs.List.{filter, AllByRecursion}
use Rattle.std.specs.Option.{option_map_or}
use Rattle.mt_skel.specs.declared.fault.Fault.{Fault}
use Rattle.mt_skel.specs.Keyed.{row_at, rises}
use Rattle.mt_events.specs.Posts.{PostView}
use Rattle.mt_book.specs.declared.command.Command.{Command}
use Rattle.mt_book.specs.declared.command.Reply.{Reply}
use Rattle.mt_book.specs.History.{posts_of}
use Rattle.mt_floor.specs.declared.watch.Phase.{Phase}
use Rattle.mt_floor.specs.declared.watch.Phase.TheVariants.{Open as IsOpen, Lagged, Ended}
use Rattle.mt_floor.specs.declared.event.Event.{Event}
use Rattle.mt_floor.specs.declared.event.Event.TheVariants.{Apply}
use Rattle.mt_floor.specs.declared.event.Answer.{Answer}
use Rattle.mt_floor.specs.declared.event.Answer.TheVariants.{Replied}
use Rattle.mt_floor.specs.Watcher.{Due, is_open, due_for}
use Rattle.mt_floor.specs.Schedule.{FloorView, run}
use Rattle.mt_desk.specs.Desk.{DeskRow, DeskView, IsDeskRow, row_key, floor_of_desk}
use Rattle.mt_desk.specs.Calls.{BeginsToLag, due_to, IsSend, IsDone}

-- a row with a post more
abbrev pub with_sent_post : PostView → DeskRow → DeskRow
with_sent_post p r = record r { sent = r.sent ++ p ∷ [] }

-- a row that lags
abbrev pub lagging : DeskRow → DeskRow
lagging r = record r { phase = Lagged }

-- an open row is sent a post, or lags where its queue is full; no other row is sent anything
abbrev pub IsSentOneIn : Phase → ℕ → PostView → DeskRow → DeskRow → Type 0
IsSentOneIn IsOpen capacity p r now = (now ≡ with_sent_post p r) ⊎ ((r.met + capacity ≤ length r.sent) × (now ≡ lagging r))
IsSentOneIn Lagged capacity p r now = now ≡ r
IsSentOneIn Ended capacity p r now = now ≡ r

abbrev pub IsSentOne : ℕ → PostView → DeskRow → DeskRow → Type 0
IsSentOne capacity p r now = IsSentOneIn r.phase capacity p r now

-- the row of a key is there and open
abbrev pub has_open_row : List DeskRow → ℕ → Bool
has_open_row rows key = option_map_or (λ (r : DeskRow). is_open r.phase) (row_at row_key key rows) false

-- of what was due when the sending began, this is due still: nothing is due to a row that lags
abbrev pub still_due : List DeskRow → List Due → List Due
still_due rows ds = filter (λ (d : Due). has_open_row rows d.key) ds

-- so much of what is due to an open row was sent to it
pub record IsUnderWay (all left : List PostView) (r now : DeskRow) : Type 0 where
  pub front : List PostView
  pub split : all ≡ front ++ left
  pub row : now ≡ record r { sent = r.sent ++ front }

-- a row and what it was before: an open one was sent what is not left, or lags
abbrev pub IsSentSoFarIn : Phase → ℕ → List PostView → List PostView → DeskRow → DeskRow → Type 0
IsSentSoFarIn IsOpen capacity all left r now = IsUnderWay all left r now ⊎ BeginsToLag capacity all r now
IsSentSoFarIn Lagged capacity all left r now = now ≡ r
IsSentSoFarIn Ended capacity all left r now = now ≡ r

-- the row of a key, and what it was before
pub record RowSoFar (capacity : ℕ) (posts : List PostView) (key : ℕ) (r : DeskRow) (rows : List DeskRow) (left : List Due) : Type 0 where
  pub now : DeskRow
  pub there : row_at row_key key rows ≡ Some now
  pub sent : IsSentSoFarIn r.phase capacity (due_to r.scope posts) (due_for key left) r now

-- the floor of a desk while posts of a command are due
abbrev pub sending_floor : DeskView → Command → List DeskRow → List Due → FloorView
sending_floor d c rows due = record (floor_of_desk (record d { journal = d.journal ++ c ∷ []; rows = rows })) { due = due }

-- A desk has accepted a command, and these are its rows: of what was due at first this is left, where what is left for a row that lags is not sent.
pub record IsSendingPosts (d : DeskView) (c : Command) (reply : Reply) (rows : List DeskRow) (left : List Due) : Type 0 where
  pub sends : List Event
  pub told : List (Result Answer Fault)
  pub each : AllByRecursion IsSend sends
  pub done : AllByRecursion IsDone told
  pub schedule : run (floor_of_desk d) (Apply c ∷ sends) ≡ (sending_floor d c rows (still_due rows left), Ok (Replied reply) ∷ told)
  pub kept : AllByRecursion (IsDeskRow d.capacity) rows
  pub rising : IsTrue (rises row_key rows)
  pub so_far : (key : ℕ) (r : DeskRow) → row_at row_key key d.rows ≡ Some r → RowSoFar d.capacity (posts_of d.journal c) key r rows left
