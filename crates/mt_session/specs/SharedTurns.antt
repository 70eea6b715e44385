-- What a request does to a desk, to its history, and to a session in a thread of its own.
-- A word with no source is this project's rule.
use Rattle.std.specs.Prelude.{◌≡◌, ◌⊎◌, ℕ, ◌+◌, ◌<◌, ◌≤◌, Bool, true, false, List, [], ◌∷◌, ◌++◌, length, replicate, Option, Some, None, Result, Ok, Err}
use Rattle.std.specs.List.{flat_map}
use Rattle.std.specs.Option.{option_map, option_map_or}
use Rattle.mt_skel.specs.declared.fault.Fault.{Fault}
use Rattle.mt_skel.specs.Keyed.{row_at}
use Rattle.mt_events.specs.Posts.{PostView, post_text}
use Rattle.mt_events.specs.declared.opening.Scope.{Scope}
use Rattle.mt_events.specs.Following.{IsRun}
use Rattle.mt_book.specs.declared.command.Command.{Command}
use Rattle.mt_book.specs.declared.command.Reply.{Reply}
use Rattle.mt_floor.specs.declared.event.Event.TheVariants.{Apply, Open, Take as TakePost}
use Rattle.mt_floor.specs.declared.event.Answer.{Answer}
use Rattle.mt_floor.specs.Watcher.{opening_of}
use Rattle.mt_floor.specs.Schedule.{FloorView, floor_step, run}
use Rattle.mt_desk.specs.declared.act.Act.{Act}
use Rattle.mt_desk.specs.declared.act.Act.TheVariants as act
use Rattle.mt_desk.specs.declared.act.LogEntry.{LogEntry}
use Rattle.mt_desk.specs.Entries.{WitnessView, IsSeen}
use Rattle.mt_desk.specs.Desk.{DeskRow, DeskView, IsDesk, row_key, floor_of_desk, with_watcher, halted_desk}
use Rattle.mt_desk.specs.Held.{IsLogged}
use Rattle.mt_desk.specs.Calls.{WatcherView, unseen, IsApplied, IsClosed}
use Rattle.mt_desk.specs.Headline.{Close as Closes, IsScheduledBy}
use Rattle.mt_requests.specs.declared.request.Request.{Request}
use Rattle.mt_requests.specs.declared.request.Request.TheVariants.{Run, Ask, Watch, Take, Follow, Close, Stop}
use Rattle.mt_events.specs.Texts.{lines_of_posts}
use Rattle.mt_session.specs.Requests.{SessionState, session_state}
use Rattle.mt_events.specs.declared.texts.PrintedPosts.{PrintedPosts}

-- a session: its watcher, if it has one, and what it has seen of the history
pub record SharedView : Type 0 where
  pub own : Option WatcherView
  pub sight : WitnessView

-- A session that has seen so much is at this desk, after this beginning of the one history: all that it has seen stands there, and all that it did is in that.
abbrev pub IsAtDesk : WitnessView → DeskView → List LogEntry → Type 0
IsAtDesk v d log = IsDesk d × IsLogged d log × IsSeen v.by v.seen log

-- a session has seen more of the history, or as much, and has done nothing in between
abbrev pub SeesOn : WitnessView → WitnessView → Type 0
SeesOn v v' = (v' ≡ record v { seen = v'.seen }) × IsSeen v.by v.seen v'.seen

-- what a request comes to in the history: a command that is accepted at this desk, or a stop
abbrev pub accepted_act : Command → Result Answer Fault → List Act
accepted_act c (Ok a) = act.Apply c ∷ []
accepted_act c (Err f) = []

abbrev pub acts_at : DeskView → Request → List Act
acts_at d (Run c) = accepted_act c (floor_step (floor_of_desk d) (Apply c)).1
acts_at d Stop = act.Stop ∷ []
acts_at d r = []

-- the floor of a desk once it has seen what the session's watcher took
abbrev pub floor_seen : DeskView → Option WatcherView → FloorView
floor_seen d None = floor_of_desk d
floor_seen d (Some w) = option_map_or (λ (r : DeskRow). (run (floor_of_desk d) (replicate (unseen d.capacity r w.half) (TakePost w.key))).0) (row_at row_key w.key d.rows) (floor_of_desk d)

-- what a request finds at a desk
abbrev pub found_state : DeskView → Option WatcherView → SessionState
found_state d w = session_state (floor_seen d w) (option_map (λ (v : WatcherView). v.key) w)

-- a request is done while the desk is held; the others take posts, and hold it for a meeting alone
abbrev pub is_under_lock : Request → Bool
is_under_lock (Take k) = false
is_under_lock (Follow k) = false
is_under_lock r = true

-- a command is accepted, or refused with nothing changed
abbrev pub IsCommanded : DeskView → Command → DeskView → Type 0
IsCommanded d c now =
    ((reply : Reply) × IsApplied d c reply now)
    ⊎ ((fault : Fault) × (floor_step (floor_of_desk d) (Apply c) ≡ (floor_of_desk d, Err fault)) × (now ≡ d))

-- a watcher begins, or is refused with nothing changed
abbrev pub IsBegun : DeskView → Scope → DeskView → Option WatcherView → Type 0
IsBegun d scope now None = (fault : Fault) × (floor_step (floor_of_desk d) (Open scope) ≡ (floor_of_desk d, Err fault)) × (now ≡ d)
IsBegun d scope now (Some w) = (now ≡ with_watcher d scope) × (w.key ≡ d.next_key) × (w.half.opening ≡ opening_of d.journal scope) × (w.half.taken ≡ [])

-- what a request does to a desk and to the session's watcher; at a close all that this has taken, and what is answered, are in order by a schedule of the desk
abbrev pub IsDoneBy : DeskView → Option WatcherView → Request → DeskView → Option WatcherView → Type 0
IsDoneBy d w (Run c) now w' = IsCommanded d c now × (w' ≡ w)
IsDoneBy d None (Watch scope) now w' = IsBegun d scope now w'
IsDoneBy d (Some w) Close now w' = (posts : List PostView) × IsClosed d w posts now × (w' ≡ None) × IsScheduledBy (Closes w posts) now
IsDoneBy d w Stop now w' = (now ≡ halted_desk d) × (w' ≡ w)
IsDoneBy d w r now w' = (now ≡ d) × (w' ≡ w)

-- Want of memory leaves all as it was; but a watcher that has begun and could not be told what it found is closed again, and one that is closed is closed
-- though its posts could not be told.
abbrev pub IsUndoneBy : DeskView → Option WatcherView → Request → DeskView → Option WatcherView → Type 0
IsUndoneBy d w (Run c) now w' = (now ≡ d) × (w' ≡ w)
IsUndoneBy d w (Ask q) now w' = (now ≡ d) × (w' ≡ w)
IsUndoneBy d None (Watch scope) now w' =
    (w' ≡ None)
    × ((now ≡ d) ⊎ ((held : DeskView) × (begun : WatcherView) × IsBegun d scope held (Some begun) × IsClosed held begun [] now))
IsUndoneBy d (Some w) Close now w' = (posts : List PostView) × IsClosed d w posts now × (w' ≡ None) × IsScheduledBy (Closes w posts) now
IsUndoneBy d w r now w' = ⊥

-- A session's watcher is closed, if it has one, and these posts were sent to it and not taken; all that it has taken, and these, are in order by a schedule of
-- the desk.
abbrev pub HasEnded : DeskView → Option WatcherView → Option (List PostView) → DeskView → Type 0
HasEnded d None posts now = (posts ≡ None) × (now ≡ d)
HasEnded d (Some w) None now = ⊥
HasEnded d (Some w) (Some posts) now = IsClosed d w posts now × IsScheduledBy (Closes w posts) now

-- a watcher has taken posts, and may have met the desk; all that it has taken now is a run from its opening
abbrev pub HasTaken : WatcherView → List PostView → WatcherView → Type 0
HasTaken w posts w' =
    (told : ℕ) × (w.half.told ≤ told) × (w' ≡ record w { half = record w.half { taken = w.half.taken ++ posts; told = told } })
    × IsRun w.half.opening (w.half.taken ++ posts)

-- a watcher has taken posts, and has not met the desk
abbrev pub with_taken_posts : WatcherView → List PostView → WatcherView
with_taken_posts w posts = record w { half = record w.half { taken = w.half.taken ++ posts } }

-- a watcher goes on: it has taken posts more, or none, and may have met the desk
abbrev pub GoesOn : WatcherView → WatcherView → Type 0
GoesOn w w' = (posts : List PostView) × (told : ℕ) × (w' ≡ record w { half = record w.half { taken = w.half.taken ++ posts; told = told } })

-- a session keeps its watcher, if it has one, and this goes on
abbrev pub KeepsWatcher : Option WatcherView → Option WatcherView → Type 0
KeepsWatcher None w' = w' ≡ None
KeepsWatcher (Some w) w' = (after : WatcherView) × (w' ≡ Some after) × GoesOn w after

-- Up to so many posts were taken and printed, fewer only where none waited at one moment, and so not before as many were taken as the last meeting told.
pub record HasPopped (w : WatcherView) (most : ℕ) (printed : PrintedPosts) (w' : Option WatcherView) : Type 0 where
  pub posts : List PostView
  pub watcher : w' ≡ Some (with_taken_posts w posts)
  pub text : printed.text.items ≡ flat_map post_text posts
  pub lines : printed.lines ≡ lines_of_posts posts
  pub count : printed.posts ≡ length posts
  pub most_is : length posts ≤ most
  pub fewer : length posts < most → w.half.told ≤ length w.half.taken + length posts
  pub run : IsRun w.half.opening (w.half.taken ++ posts)
