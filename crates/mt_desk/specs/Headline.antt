-- The headline, of every list of calls of a desk from a new one on.
-- A word with no source is this project's rule.
--
-- The calls are a schedule of the floor, with each watcher's takes placed as late as they can be. So at each meeting and each close the posts that the
-- watcher has taken are a prefix of those posted for the namespaces it follows since its opening, each once and in order, none posted after its close or lag;
-- and applied to its opening tables, they give each namespace's table as of its last taken number.
use Rattle.std.specs.Prelude.{◌≡◌, ℕ, List, [], ◌∷◌, ◌++◌, Some, slice_get, Ok}
use Rattle.mt_events.specs.Posts.{PostView}
use Rattle.mt_events.specs.declared.opening.Scope.{Scope}
use Rattle.mt_events.specs.Following.{IsRun}
use Rattle.mt_book.specs.declared.command.Command.{Command}
use Rattle.mt_book.specs.declared.command.Reply.{Reply}
use Rattle.mt_floor.specs.declared.watch.Meeting.{Meeting}
use Rattle.mt_floor.specs.declared.event.Event.{Event}
use Rattle.mt_floor.specs.declared.event.Event.TheVariants as event
use Rattle.mt_floor.specs.declared.event.Answer.TheVariants.{Opened, Halted}
use Rattle.mt_floor.specs.Schedule.{empty_floor, floor_step}
use Rattle.mt_floor.specs.Headline.{answers, floor_after, accepted, taken_since, posted_since, IsInOrder, IsRebuilt, TellTables}
use Rattle.mt_desk.specs.Desk.{DeskView, HasHistory, floor_of_desk}
use Rattle.mt_desk.specs.Calls.{WatcherView, IsApplied, IsMet, IsClosed}

-- a call of a desk or of one of its watchers, with what was handed in and answered
pub data Call : Type 0 where
  -- a command was accepted
  Apply : Command → Reply → Call
  -- a watcher began
  Open : Scope → WatcherView → Call
  -- a watcher has taken a post, and is another one then
  Take : WatcherView → PostView → WatcherView → Call
  -- a watcher has met the desk, and is another one then
  Meet : WatcherView → Meeting → WatcherView → Call
  -- a watcher was closed, and these posts were answered
  Close : WatcherView → List PostView → Call
  -- a stop
  Stop : Call
  -- a call was refused, or a watcher found nothing to take
  Nothing : Call

-- each call, as its own clauses tell it
abbrev pub IsCalled : DeskView → Call → DeskView → Type 0
IsCalled d (Apply c reply) now = IsApplied d c reply now
IsCalled d (Open scope w) now = floor_step (floor_of_desk d) (event.Open scope) ≡ (floor_of_desk now, Ok (Opened w.key w.half.opening))
IsCalled d (Take w p w') now = (now ≡ d) × (w' ≡ record w { half = record w.half { taken = w.half.taken ++ p ∷ [] } })
IsCalled d (Meet w m w') now = IsMet d w m now w'
IsCalled d (Close w posts) now = IsClosed d w posts now
IsCalled d Stop now = floor_step (floor_of_desk d) event.Stop ≡ (floor_of_desk now, Ok Halted)
IsCalled d Nothing now = now ≡ d

-- calls one after another
abbrev pub AreCalled : DeskView → List Call → DeskView → Type 0
AreCalled d [] now = now ≡ d
AreCalled d (call ∷ calls) now = (next : DeskView) × IsCalled d call next × AreCalled next calls now

-- the headline of what a watcher has taken
pub record HasTakenInOrder (capacity : ℕ) (es : List Event) (w : WatcherView) : Type 0 where
  -- it began at one of the events, with the opening that it has
  pub at : ℕ
  pub began : slice_get (answers capacity es) at ≡ Some (Ok (Opened w.key w.half.opening))
  -- what it has taken is what it took in the schedule
  pub taken : taken_since capacity es at w.key ≡ w.half.taken
  pub in_order : IsInOrder capacity es at w.key w.half.opening
  pub rebuilt : IsRebuilt capacity es at w.key w.half.opening

-- the same of one that was closed: what it has taken and what the close answered are all that was posted to it, and tell its tables
pub record HasClosed (capacity : ℕ) (es : List Event) (w : WatcherView) (posts : List PostView) : Type 0 where
  pub followed : HasTakenInOrder capacity es w
  pub rest : posted_since capacity es followed.at w.key ≡ w.half.taken ++ posts
  pub run : IsRun w.half.opening (w.half.taken ++ posts)
  pub tables : TellTables capacity es w.half.opening (w.half.taken ++ posts)

-- the last call, where it is a meeting or a close
abbrev pub LastFollows : ℕ → List Event → Call → Type 0
LastFollows capacity es (Meet w m w') = HasTakenInOrder capacity es w
LastFollows capacity es (Close w posts) = HasClosed capacity es w posts
LastFollows capacity es call = Unit {0}

-- calls, the last of which is this one, are a schedule: it leads to the floor of the desk, and its accepted commands are the desk's journal
pub record AreScheduled (capacity : ℕ) (last : Call) (now : DeskView) : Type 0 where
  pub events : List Event
  pub floor : floor_of_desk now ≡ floor_after capacity events
  pub journal : now.journal ≡ accepted events (answers capacity events)
  pub follows : LastFollows capacity events last

-- a call was made: whatever was called on the desk from a new one up to there, with this call it is a schedule
abbrev pub ScheduleHolds : DeskView → Call → DeskView → Type 0
ScheduleHolds d last now = (capacity : ℕ) (new : DeskView) (calls : List Call) → floor_of_desk new ≡ empty_floor capacity → AreCalled new calls d → AreScheduled capacity last now

-- so it is of every call, as its own clauses tell it
abbrev pub CallsFollow : Type 0
CallsFollow = (d : DeskView) (last : Call) (now : DeskView) → IsCalled d last now → ScheduleHolds d last now

-- A call has left a desk so: events lead there, and in them what its watcher has taken is in order. Nothing is presupposed, since each desk keeps that events
-- lead to it.
pub record IsScheduledBy (last : Call) (now : DeskView) : Type 0 where
  pub history : HasHistory now
  pub follows : LastFollows now.capacity history.events last
