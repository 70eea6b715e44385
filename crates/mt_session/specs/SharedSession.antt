-- What a session in a thread of its own writes. What its requests find depends on the other sessions, so each answer is that of the request at the desk after a
-- beginning of the one history of all of them; these beginnings rise, and what the session did stands in the history just once. What it tells of a watcher's
-- posts is a run from the opening that it told.
-- A word with no source is this project's rule.
use Rattle.std.specs.Prelude.{⊤, ◌≡◌, ◌≢◌, ◌⊎◌, ℕ, ◌+◌, ◌<◌, ◌≤◌, Bool, true, false, List, [], ◌∷◌, ◌++◌, map, take, length, Option, Some, None, Result, Ok, Err}
use Rattle.std.specs.List.{flat_map}
use Rattle.mt_skel.specs.declared.fault.Fault.{Fault}
use Rattle.mt_skel.specs.declared.fault.Fault.TheVariants.{BadLine, NoWatcher, NoMemory as WantsMemory}
use Rattle.mt_lines.specs.declared.line.ReadFault.TheVariants.{Device, Interrupted, Endless as NeverEnds}
use Rattle.mt_lines.specs.Lines.{Item, Unended}
use Rattle.mt_events.specs.Posts.{PostView, post_text}
use Rattle.mt_floor.specs.declared.watch.Phase.{Phase}
use Rattle.mt_floor.specs.declared.watch.Phase.TheVariants.{Open as IsOpen}
use Rattle.mt_floor.specs.declared.watch.Meeting.{Meeting}
use Rattle.mt_desk.specs.Desk.{DeskView, IsDesk}
use Rattle.mt_desk.specs.Calls.{WatcherView, IsClosed, IsMet}
use Rattle.mt_desk.specs.Headline.{Meet as Meets, Close as Closes, IsScheduledBy}
use Rattle.mt_requests.specs.declared.request.Request.{Request}
use Rattle.mt_requests.specs.declared.request.Request.TheVariants.{Take, Follow, Close, Quit as AsksQuit, Stop as AsksStop}
use Rattle.mt_requests.specs.Requests.{may_want_memory}
use Rattle.mt_session.specs.declared.serving.End.{End}
use Rattle.mt_session.specs.declared.serving.End.TheVariants.{Quit, Stop, Input, Read, Cut as CutOff, Memory, Spent}
use Rattle.mt_events.specs.Texts.{count_text, posts_text, followed_text}
use Rattle.mt_session.specs.Answers.{refusal}
use Rattle.mt_session.specs.Requests.{answer_to, by_phase}
use Rattle.mt_session.specs.Session.{Asking, item_of, has_end, request_of_line, ends_by, most_lines, line_limit, EndsInput, IsPartRead}
use Rattle.std.specs.Io.KnownBytes.{Appends}
use Rattle.mt_lines.specs.Reading.{PassLines}
use mathlib.Core.List.{IsPrefix}
use Rattle.mt_desk.specs.declared.act.LogEntry.{LogEntry}
use Rattle.mt_desk.specs.Entries.{WitnessView, entries}
use Rattle.mt_desk.specs.Held.{IsLogged}
use Rattle.mt_session.specs.SharedTurns.{SharedView, IsAtDesk, SeesOn, acts_at, found_state, IsDoneBy, IsUndoneBy, HasTaken, GoesOn}

-- A request is answered as at the desk after this beginning of the history, and what it did there comes next in the history.
pub record IsAnsweredAt (s : SharedView) (r : Request) (text : List ℕ) (s' : SharedView) : Type 0 where
  pub desk : DeskView
  pub log : List LogEntry
  pub now : DeskView
  pub kept : IsAtDesk s.sight desk log
  pub done : IsDoneBy desk s.own r now s'.own
  pub sight : s'.sight ≡ record s.sight { seen = log ++ entries s.sight.by (acts_at desk r) }
  pub answer : text ≡ answer_to (found_state desk s.own) r

-- nothing waits for a watcher: at a meeting with the desk after so much of the history all that was sent was taken, in order by a schedule of the desk, and this
-- is how far its row is
pub record IsSpent (w : WatcherView) (phase : Phase) (w' : WatcherView) (seen : List LogEntry) : Type 0 where
  pub desk : DeskView
  pub now : DeskView
  pub kept : IsDesk desk
  pub logged : IsLogged desk seen
  pub meeting : Meeting
  pub met : IsMet desk w meeting now w'
  pub all : meeting.posted ≡ meeting.taken
  pub phase_is : meeting.state ≡ phase
  pub scheduled : IsScheduledBy (Meets w meeting w') now

-- `take`: posts, at least one and up to so many, fewer only where all are told that the last meeting told of; or none wait, and the answer says why
pub record TakesSome (w : WatcherView) (most : ℕ) (text : List ℕ) (w' : Option WatcherView) : Type 0 where
  pub posts : List PostView
  pub after : WatcherView
  pub taken : HasTaken w posts after
  pub watcher : w' ≡ Some after
  pub some : posts ≢ []
  pub most_is : length posts ≤ most
  pub fewer : length posts < most → w.half.told ≤ length w.half.taken + length posts
  pub text_is : text ≡ posts_text posts

pub record TakesNone (w : WatcherView) (text : List ℕ) (w' : Option WatcherView) (seen : List LogEntry) : Type 0 where
  pub phase : Phase
  pub after : WatcherView
  pub spent : IsSpent w phase after seen
  pub watcher : w' ≡ Some after
  pub text_is : text ≡ by_phase (count_text 0) phase

abbrev pub IsTaken : Option WatcherView → ℕ → List ℕ → Option WatcherView → List LogEntry → Type 0
IsTaken None most text w' seen = (text ≡ refusal NoWatcher) × (w' ≡ None)
IsTaken (Some w) most text w' seen = TakesSome w most text w' ⊎ TakesNone w text w' seen

-- `follow`: so many posts, and how many they are; or fewer, and why there will be no more
pub record FollowsAll (w : WatcherView) (most : ℕ) (text : List ℕ) (w' : Option WatcherView) : Type 0 where
  pub posts : List PostView
  pub after : WatcherView
  pub taken : HasTaken w posts after
  pub watcher : w' ≡ Some after
  pub count : length posts ≡ most
  pub text_is : text ≡ followed_text posts (count_text most)

pub record FollowsFewer (w : WatcherView) (most : ℕ) (text : List ℕ) (w' : Option WatcherView) (seen : List LogEntry) : Type 0 where
  pub posts : List PostView
  pub before : WatcherView
  pub taken : HasTaken w posts before
  pub phase : Phase
  pub after : WatcherView
  pub spent : IsSpent before phase after seen
  pub ended : phase ≢ IsOpen
  pub watcher : w' ≡ Some after
  pub most_is : length posts < most
  pub text_is : text ≡ followed_text posts (by_phase [] phase)

abbrev pub IsFollowed : Option WatcherView → ℕ → List ℕ → Option WatcherView → List LogEntry → Type 0
IsFollowed None most text w' seen = (text ≡ refusal NoWatcher) × (w' ≡ None)
IsFollowed (Some w) most text w' seen = FollowsAll w most text w' ⊎ FollowsFewer w most text w' seen

-- what a line is answered, and what becomes of the session
abbrev pub IsAnswered : SharedView → Result Request Fault → List ℕ → SharedView → Type 0
IsAnswered s (Err f) text s' = (text ≡ refusal f) × (s' ≡ s)
IsAnswered s (Ok (Take most)) text s' = IsTaken s.own most text s'.own s'.sight.seen × SeesOn s.sight s'.sight
IsAnswered s (Ok (Follow most)) text s' = IsFollowed s.own most text s'.own s'.sight.seen × SeesOn s.sight s'.sight
IsAnswered s (Ok r) text s' = IsAnsweredAt s r text s'

-- a request that finds no memory only once posts were taken
abbrev pub takes_posts : Request → Bool
takes_posts (Take most) = true
takes_posts (Follow most) = true
takes_posts Close = true
takes_posts r = false

-- there was no memory to do a request: it did nothing in the history
pub record IsNotDoneAt (s : SharedView) (r : Request) (s' : SharedView) : Type 0 where
  pub desk : DeskView
  pub log : List LogEntry
  pub now : DeskView
  pub kept : IsAtDesk s.sight desk log
  pub undone : IsUndoneBy desk s.own r now s'.own
  pub sight : s'.sight ≡ record s.sight { seen = log }

abbrev pub IsNotDone : SharedView → Result Request Fault → SharedView → Type 0
IsNotDone s (Ok r) s' = (takes_posts r ≡ false) × IsNotDoneAt s r s'
IsNotDone s (Err f) s' = ⊥

-- there was no memory: to read a line, or to do its request
abbrev pub WantsRoom : SharedView → Result Request Fault → List ℕ → SharedView → Type 0
WantsRoom s asked text s' = (text ≡ refusal WantsMemory) × (((may_want_memory asked ≡ true) × (s' ≡ s)) ⊎ IsNotDone s asked s')

-- what is asked, and its answer
abbrev pub IsTurn : SharedView → Result Request Fault → List ℕ → SharedView → Type 0
IsTurn s asked text s' = IsAnswered s asked text s' ⊎ WantsRoom s asked text s'

-- posts were taken, and there was no memory to tell them; a close was at the desk after so much of the history
abbrev pub IsLost : Option WatcherView → Result Request Fault → List ℕ → List LogEntry → Type 0
IsLost (Some w) (Ok (Take most)) text seen = (lost : List PostView) × (after : WatcherView) × HasTaken w lost after × (length lost ≤ most) × (text ≡ refusal WantsMemory)
IsLost (Some w) (Ok (Follow most)) text seen =
    (told : List PostView) × (lost : List PostView) × (after : WatcherView) × HasTaken w (told ++ lost) after
    × (length (told ++ lost) ≤ most) × (text ≡ followed_text told (refusal WantsMemory))
IsLost (Some w) (Ok Close) text seen =
    (desk : DeskView) × (now : DeskView) × (posts : List PostView) × IsDesk desk × IsLogged desk seen × IsClosed desk w posts now × IsScheduledBy (Closes w posts) now × (text ≡ refusal WantsMemory)
IsLost w asked text seen = ⊥

-- a line, and the text that answered it
pub record SharedTurn : Type 0 where
  pub line : Asking
  pub text : List ℕ

-- the lines of a session, one after another
abbrev pub AreTurns : SharedView → List SharedTurn → SharedView → Type 0
AreTurns s [] s' = s' ≡ s
AreTurns s (t ∷ turns) s' = (next : SharedView) × IsTurn s (request_of_line t.line) t.text next × AreTurns next turns s'

-- none of them ends the session
abbrev pub TurnsGoOn : List SharedTurn → Type 0
TurnsGoOn [] = Unit {0}
TurnsGoOn (t ∷ turns) = (has_end t.line ≡ true) × (ends_by (request_of_line t.line) ≡ None) × TurnsGoOn turns

-- the posts that a `follow` has told so far, and not yet the line at their end
abbrev pub FollowsSoFar : Option WatcherView → Result Request Fault → List ℕ → Type 0
FollowsSoFar (Some w) (Ok (Follow most)) text =
    (posts : List PostView) × (after : WatcherView) × HasTaken w posts after × (length posts ≤ most) × (text ≡ flat_map post_text posts)
FollowsSoFar w asked text = ⊥

-- what of an answer goes out in front of a piece of it: nothing, but of a `follow` the posts that it has told
abbrev pub IsInFront : Option WatcherView → Result Request Fault → List ℕ → Type 0
IsInFront w asked text = (text ≡ []) ⊎ FollowsSoFar w asked text

-- an answer once a piece of it is out: all of it, or what a `follow` has told so far
abbrev pub IsAnswerSoFar : SharedView → Result Request Fault → List ℕ → SharedView → Type 0
IsAnswerSoFar s asked text s' = IsTurn s asked text s' ⊎ ((IsLost s.own asked text s'.sight.seen ⊎ FollowsSoFar s.own asked text) × SeesOn s.sight s'.sight)

-- an answer that was cut within a piece: those in front of it are out whole, and of it the first so many bytes, fewer than all
pub record IsCutWithin (sent : ℕ) (s : SharedView) (asked : Result Request Fault) (out : List ℕ) (s' : SharedView) : Type 0 where
  pub front : List ℕ
  pub piece : List ℕ
  pub front_is : IsInFront s.own asked front
  pub answer : IsAnswerSoFar s asked (front ++ piece) s'
  pub fewer : sent < length piece
  pub out_is : out ≡ front ++ take sent piece

-- an answer that was cut: within a piece, or between two pieces of a `follow`, of which it had sent nothing
abbrev pub IsCutShort : ℕ → SharedView → Result Request Fault → List ℕ → SharedView → Type 0
IsCutShort sent s asked out s' = IsCutWithin sent s asked out s' ⊎ ((sent ≡ 0) × FollowsSoFar s.own asked out × SeesOn s.sight s'.sight)

-- an end that the answer to a line brings, what was written of the answer, and what becomes of the session
abbrev pub EndsOfAnswer : End → SharedView → Result Request Fault → List ℕ → SharedView → Type 0
EndsOfAnswer Quit s asked out s' = (asked ≡ Ok AsksQuit) × IsTurn s asked out s'
EndsOfAnswer Stop s asked out s' = (asked ≡ Ok AsksStop) × IsTurn s asked out s'
EndsOfAnswer (CutOff cut) s asked out s' = IsCutShort cut.sent s asked out s'
EndsOfAnswer Memory s asked out s' = IsLost s.own asked out s'.sight.seen × SeesOn s.sight s'.sight
EndsOfAnswer by s asked out s' = ⊥

-- an end that the input brings after the lines, by the last of them, what was left after it, and what the reader has left; and what is written for it
abbrev pub EndsOfInput : End → List Item → Option (List ℕ) → Option (List ℕ) → List ℕ → Type 0
EndsOfInput Input last rest left out = (left ≡ rest) × (((last ≡ []) × (out ≡ [])) ⊎ ((last ≡ Unended ∷ []) × (out ≡ refusal BadLine)))
EndsOfInput (Read NeverEnds) last rest left out = (last ≡ []) × (out ≡ [])
EndsOfInput (Read Device) last rest left out = IsPartRead rest left × (last ≡ []) × (out ≡ [])
EndsOfInput (Read Interrupted) last rest left out = IsPartRead rest left × (last ≡ []) × (out ≡ [])
EndsOfInput by last rest left out = ⊥

-- an end that comes once as many lines were served as a session serves
abbrev pub EndsOfCount : End → List SharedTurn → List Item → Option (List ℕ) → Option (List ℕ) → List ℕ → Type 0
EndsOfCount Spent turns last rest left out = (length turns ≡ most_lines) × (last ≡ []) × (left ≡ rest) × (out ≡ [])
EndsOfCount by turns last rest left out = ⊥

-- an end by the next line, or by the input in its place
abbrev pub EndsByNext : End → SharedView → List Item → Option (List ℕ) → Option (List ℕ) → List ℕ → SharedView → Type 0
EndsByNext by s last rest left out s' =
    (EndsOfInput by last rest left out × (s' ≡ s))
    ⊎ ((line : Asking) × (last ≡ item_of line ∷ []) × (left ≡ rest) × EndsOfAnswer by s (request_of_line line) out s')

-- How a session ends after the lines that it served: by what it is then, the line that ends it, if one does, what is left after that, what it wrote still, and
-- what it is in the end. A line that ends it is one of those that it serves.
abbrev pub EndsSo : End → List SharedTurn → SharedView → List Item → Option (List ℕ) → Option (List ℕ) → List ℕ → SharedView → Type 0
EndsSo by turns s last rest left out s' =
    ((length turns < most_lines) × EndsByNext by s last rest left out s')
    ⊎ (EndsOfCount by turns last rest left out × (s' ≡ s))

-- a session has left the desk after so much of the history, whose row of its watcher is gone then, if it had one; all that this has taken, and what was left, are in
-- order by a schedule
abbrev pub HasLeft : Option WatcherView → List LogEntry → Type 0
HasLeft None seen = (desk : DeskView) × IsDesk desk × IsLogged desk seen
HasLeft (Some w) seen =
    (desk : DeskView) × (posts : List PostView) × (now : DeskView) × IsDesk desk × IsLogged desk seen × IsClosed desk w posts now × IsScheduledBy (Closes w posts) now

-- a session that had this watcher when the line came that ended it, or none came, has left it, once it went on, after a beginning of what it has seen in the end
abbrev pub WasLeft : Option WatcherView → List LogEntry → Type 0
WasLeft None seen = ⊤
WasLeft (Some w) seen = (last : WatcherView) × (log : List LogEntry) × GoesOn w last × HasLeft (Some last) log × IsPrefix log seen

-- a session that has seen nothing but what it was let in with
abbrev pub new_session : WitnessView → SharedView
new_session v = record { own = None; sight = v }

-- A session in a thread of its own: its lines in order, one answer each, then its end, and then its watcher is closed. Nothing was read beyond its last line, but
-- at a fault a part of one. Bytes that are not known leave the lines and their answers open, and no more. Of the history the session had seen the one beginning
-- when it was handed in, and has seen the other once it is back.
pub record ServedShared (before later sent written : Option (List ℕ)) (by : End) (v v' : WitnessView) : Type 0 where
  pub turns : List SharedTurn
  pub state : SharedView
  pub final : SharedView
  pub last : List Item
  pub rest : Option (List ℕ)
  pub out : List ℕ
  pub lines : PassLines line_limit before (map (λ (t : SharedTurn). item_of t.line) turns ++ last) rest
  pub input : EndsInput by before (map (λ (t : SharedTurn). item_of t.line) turns ++ last)
  pub told : AreTurns (new_session v) turns state
  pub goes : TurnsGoOn turns
  pub written_is : Appends sent written (flat_map (λ (t : SharedTurn). t.text) turns ++ out)
  pub ends : EndsSo by turns state last rest later out final
  pub count : length turns ≤ most_lines
  pub left : WasLeft state.own v'.seen
  pub gone : HasLeft final.own v'.seen
  pub sight : SeesOn final.sight v'

-- the session has served these lines and goes on
pub record SharedGoing (turns : List SharedTurn) (before later : Option (List ℕ)) (old new : SharedView) (sent written : Option (List ℕ)) : Type 0 where
  pub lines : PassLines line_limit before (map (λ (t : SharedTurn). item_of t.line) turns) later
  pub told : AreTurns old turns new
  pub goes : TurnsGoOn turns
  pub written_is : Appends sent written (flat_map (λ (t : SharedTurn). t.text) turns)

-- the session ends with the next line, or in its place, and has left its watcher once it leaves what it has then
pub record SharedEnding (before later : Option (List ℕ)) (s s' : SharedView) (sent written : Option (List ℕ)) (by : End) : Type 0 where
  pub last : List Item
  pub rest : Option (List ℕ)
  pub out : List ℕ
  pub lines : PassLines line_limit before last rest
  pub input : EndsInput by before last
  pub written_is : Appends sent written out
  pub ends : EndsByNext by s last rest later out s'
  pub left : (v : WitnessView) → HasLeft s'.own v.seen → SeesOn s'.sight v → WasLeft s.own v.seen

-- one line left the reader, and its whole answer was sent: the session goes on, or has ended with it
abbrev pub ServedSharedLine : Option (List ℕ) → Option (List ℕ) → SharedView → SharedView → Option (List ℕ) → Option (List ℕ) → Option End → Type 0
ServedSharedLine before later old new sent written None = (turn : SharedTurn) × SharedGoing (turn ∷ []) before later old new sent written
ServedSharedLine before later old new sent written (Some by) = SharedEnding before later old new sent written by
