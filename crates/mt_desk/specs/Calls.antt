-- The calls of a desk, each as events of its floor.
-- A word with no source is this project's rule.
use Rattle.std.specs.Prelude.{◌≡◌, ℕ, ◌+◌, ◌-◌, ◌≤◌, ◌⊎◌, ◌==◌, List, [], ◌∷◌, ◌++◌, length, replicate, Option, Some, None, Result, Ok}
use Rattle.std.specs.List.{filter, AllByRecursion}
use Rattle.mt_skel.specs.declared.fault.Fault.{Fault}
use Rattle.mt_skel.specs.Keyed.{row_at, put, without}
use Rattle.mt_events.specs.Posts.{PostView}
use Rattle.mt_events.specs.declared.opening.Scope.{Scope}
use Rattle.mt_events.specs.Following.{names_space}
use Rattle.mt_book.specs.declared.command.Command.{Command}
use Rattle.mt_book.specs.declared.command.Reply.{Reply}
use Rattle.mt_book.specs.History.{posts_of}
use Rattle.mt_queue.specs.Halves.{ReceiverView}
use Rattle.mt_floor.specs.declared.watch.Phase.{Phase}
use Rattle.mt_floor.specs.declared.watch.Phase.TheVariants.{Open as IsOpen, Lagged, Ended}
use Rattle.mt_floor.specs.declared.watch.Meeting.{Meeting}
use Rattle.mt_floor.specs.declared.event.Event.{Event}
use Rattle.mt_floor.specs.declared.event.Event.TheVariants.{Apply, PostNext, Take, Meet, Close}
use Rattle.mt_floor.specs.declared.event.Answer.{Answer}
use Rattle.mt_floor.specs.declared.event.Answer.TheVariants.{Replied, Posted, Took, Met, Closed}
use Rattle.mt_floor.specs.Schedule.{run}
use Rattle.mt_desk.specs.Late.{late_count}
use Rattle.mt_desk.specs.Desk.{DeskRow, DeskView, row_key, floor_of_desk}

-- a watcher: its key, the place of its line at the desk, and its half of the line
pub record WatcherView : Type 0 where
  pub key : ℕ
  pub place : ℕ
  pub half : ReceiverView

-- a row and the half of its watcher: of one opening; what was taken is the beginning of what was sent, and the rest fits into the queue
pub record IsHalved (capacity : ℕ) (r : DeskRow) (half : ReceiverView) (rest : List PostView) : Type 0 where
  pub opening : r.opening ≡ half.opening
  pub split : r.sent ≡ half.taken ++ rest
  pub held : length rest ≤ capacity
  pub met : r.met ≤ length half.taken
  pub told : half.told ≤ length r.sent

-- how many takes of its watcher the floor of a row has not seen yet
abbrev pub unseen : ℕ → DeskRow → ReceiverView → ℕ
unseen capacity r half = length half.taken - late_count capacity r.met (length r.sent)

-- what was taken in time, once a row was met
abbrev pub in_time_after : Phase → ℕ → ℕ → ℕ
in_time_after IsOpen before taken = taken
in_time_after Ended before taken = taken
in_time_after Lagged before taken = before

-- a row once its watcher has met it, and had taken so many posts
abbrev pub met_row : ℕ → DeskRow → DeskRow
met_row taken r = record r { met = taken; met_in_time = in_time_after r.phase r.met_in_time taken }

-- the rows of a desk once that of a key is another
abbrev pub with_row : DeskView → DeskRow → DeskView
with_row d r = record d { rows = put row_key r d.rows }

-- A watcher meets the desk: each learns how far the other is. Its takes that the floor has not seen, and then a meeting, are what the floor does.
pub record IsMet (d : DeskView) (w : WatcherView) (m : Meeting) (d' : DeskView) (w' : WatcherView) : Type 0 where
  pub row : DeskRow
  pub there : row_at row_key w.key d.rows ≡ Some row
  pub rest : List PostView
  pub halved : IsHalved d.capacity row w.half rest
  pub meeting : m ≡ record { posted = length row.sent; taken = length w.half.taken; state = row.phase }
  pub desk : d' ≡ with_row d (met_row (length w.half.taken) row)
  pub watcher : w' ≡ record w { half = record w.half { told = length row.sent } }
  pub told : List (Result Answer Fault)
  pub schedule : run (floor_of_desk d) (replicate (unseen d.capacity row w.half) (Take w.key) ++ Meet w.key ∷ []) ≡ (floor_of_desk d', told ++ Ok (Met m) ∷ [])

-- A watcher goes, and what was sent to it and not taken is answered. Its takes that the floor has not seen, and then a close, are what the floor does.
pub record IsClosed (d : DeskView) (w : WatcherView) (posts : List PostView) (d' : DeskView) : Type 0 where
  pub row : DeskRow
  pub there : row_at row_key w.key d.rows ≡ Some row
  pub halved : IsHalved d.capacity row w.half posts
  pub desk : d' ≡ record d { rows = without (λ (r : DeskRow). r.key == w.key) d.rows }
  pub told : List (Result Answer Fault)
  pub schedule : run (floor_of_desk d) (replicate (unseen d.capacity row w.half) (Take w.key) ++ Close w.key ∷ []) ≡ (floor_of_desk d', told ++ Ok (Closed posts) ∷ [])

-- the posts of a command that a scope names
abbrev pub due_to : Scope → List PostView → List PostView
due_to scope posts = filter (λ (p : PostView). names_space scope p.space) posts

-- An open row lags: of the posts that are due to it those in front of one that found its queue full were sent.
pub record BeginsToLag (capacity : ℕ) (due : List PostView) (r now : DeskRow) : Type 0 where
  pub front : List PostView
  pub refused : PostView
  pub behind : List PostView
  pub due_is : due ≡ front ++ refused ∷ behind
  pub full : r.met + capacity ≤ length (r.sent ++ front)
  pub row : now ≡ record r { sent = r.sent ++ front; phase = Lagged }

-- what is due to a row is sent to it if it is open, all of it or until it lags; no other row is sent anything
abbrev pub IsSentIn : Phase → ℕ → List PostView → DeskRow → DeskRow → Type 0
IsSentIn IsOpen capacity due r now = (now ≡ record r { sent = r.sent ++ due }) ⊎ BeginsToLag capacity due r now
IsSentIn Lagged capacity due r now = now ≡ r
IsSentIn Ended capacity due r now = now ≡ r

abbrev pub IsSentDue : ℕ → List PostView → DeskRow → DeskRow → Type 0
IsSentDue capacity posts r now = IsSentIn r.phase capacity (due_to r.scope posts) r now

-- what a desk does between a command and its answer: it sends posts that are due, and watchers take
abbrev pub IsSend : Event → Type 0
IsSend PostNext = Unit {0}
IsSend (Take k) = Unit {0}
IsSend e = ⊥

-- such an event was done: a post was sent or found a queue full, or one was taken
abbrev pub IsPostTaken : Option PostView → Type 0
IsPostTaken None = ⊥
IsPostTaken (Some p) = Unit {0}

abbrev pub IsDone : Result Answer Fault → Type 0
IsDone (Ok (Posted key lagged)) = Unit {0}
IsDone (Ok (Took post)) = IsPostTaken post
IsDone a = ⊥

-- A command is accepted, and its posts are sent before it is answered. On the floor this is the command, and then posts are sent, with takes as late as they
-- can be, until none is due.
pub record IsApplied (d : DeskView) (c : Command) (reply : Reply) (now : DeskView) : Type 0 where
  pub sends : List Event
  pub told : List (Result Answer Fault)
  pub each : AllByRecursion IsSend sends
  pub done : AllByRecursion IsDone told
  pub schedule : run (floor_of_desk d) (Apply c ∷ sends) ≡ (floor_of_desk now, Ok (Replied reply) ∷ told)
  -- each row by itself
  pub rows : (key : ℕ) (r : DeskRow) → row_at row_key key d.rows ≡ Some r → (r' : DeskRow) × (row_at row_key key now.rows ≡ Some r') × IsSentDue d.capacity (posts_of d.journal c) r r'
