-- One line of a session in a thread of its own, as its steps see it.
-- A word with no source is this project's rule.
use Rattle.std.specs.Prelude.{⊤, ◌≡◌, ◌≢◌, ◌⊎◌, ℕ, ◌+◌, ◌<◌, ◌≤◌, true, List, [], ◌++◌, length, unwrap_or, Option, Some, None, Result, Ok, Err}
use Rattle.std.specs.List.{flat_map}
use Rattle.mt_skel.specs.declared.fault.Fault.{Fault}
use Rattle.mt_skel.specs.declared.fault.Fault.TheVariants.{NoWatcher, NoMemory as WantsMemory}
use Rattle.std.specs.Io.KnownBytes.{Appends}
use Rattle.mt_events.specs.Posts.{PostView, post_text}
use Rattle.mt_events.specs.Texts.{lines_of_posts}
use Rattle.mt_events.specs.declared.texts.PrintedPosts.{PrintedPosts}
use Rattle.mt_floor.specs.declared.watch.Meeting.{Meeting}
use Rattle.mt_desk.specs.Desk.{DeskView, IsDesk}
use Rattle.mt_desk.specs.Calls.{WatcherView, IsMet}
use Rattle.mt_desk.specs.Headline.{Meet as Meets, IsScheduledBy}
use Rattle.mt_requests.specs.declared.request.Request.{Request}
use Rattle.mt_requests.specs.declared.request.Request.TheVariants.{Take, Follow, Close}
use Rattle.mt_session.specs.declared.serving.End.{End}
use Rattle.mt_session.specs.declared.serving.End.TheVariants.{Memory}
use Rattle.mt_session.specs.declared.shared_answer.Portion.{Portion}
use Rattle.mt_session.specs.declared.shared_answer.Portion.TheVariants.{Posts, Empty}
use Rattle.mt_session.specs.declared.shared_answer.Then.{Then}
use Rattle.mt_session.specs.declared.shared_answer.Then.TheVariants.{More, Over}
use Rattle.mt_session.specs.declared.wants.Wants.{Wants}
use Rattle.mt_session.specs.declared.wants.Wants.TheVariants.{Desk, Waiting, Coming, Left}
use Rattle.mt_requests.specs.Requests.{request_of}
use Rattle.mt_session.specs.Answering.{Answering, ServesNext}
use Rattle.mt_session.specs.Session.{ends_by}
use Rattle.mt_desk.specs.declared.act.LogEntry.{LogEntry}
use Rattle.mt_desk.specs.Entries.{WitnessView}
use Rattle.mt_desk.specs.Held.{IsLogged}
use Rattle.mt_session.specs.SharedTurns.{SharedView, IsAtDesk, is_under_lock, SeesOn, HasTaken, GoesOn, HasEnded}
use Rattle.mt_session.specs.SharedSession.{IsSpent, IsTurn, IsLost, EndsOfAnswer, HasLeft, ServedSharedLine}

-- this is what a request wants: to be done while the desk is held, and to end the session so, if it does; or posts of the watcher
abbrev pub IsWanted : Wants → Request → Type 0
IsWanted (Desk wakes end) r = (is_under_lock r ≡ true) × (r ≢ Close) × (end ≡ ends_by (Ok r))
IsWanted (Waiting most) r = r ≡ Take most
IsWanted (Coming most) r = r ≡ Follow most
IsWanted Left r = r ≡ Close

-- a session has met the desk after so much of the history, if it has a watcher; what this has taken is in order by a schedule of the desk
abbrev pub HasMet : Option WatcherView → Option Meeting → Option WatcherView → List LogEntry → Type 0
HasMet None met w' seen = (met ≡ None) × (w' ≡ None)
HasMet (Some w) met w' seen =
    (desk : DeskView) × (now : DeskView) × (m : Meeting) × (after : WatcherView) × IsDesk desk × IsLogged desk seen × IsMet desk w m now after × (met ≡ Some m)
    × (w' ≡ Some after) × IsScheduledBy (Meets w m after) now

-- a session has ended its watcher at the desk after this beginning of the history, if it has one, and these posts were sent to it and not taken
pub record HasEndedAt (s : SharedView) (posts : Option (List PostView)) (v' : WitnessView) : Type 0 where
  pub desk : DeskView
  pub log : List LogEntry
  pub now : DeskView
  pub kept : IsAtDesk s.sight desk log
  pub ended : HasEnded desk s.own posts now
  pub sight : v' ≡ record s.sight { seen = log }

-- what becomes of a session's watcher, if it has one: it goes on, or the session leaves it, after so much of the history
abbrev pub IsKeptOrLeft : Option WatcherView → Option WatcherView → List LogEntry → Type 0
IsKeptOrLeft None w' seen = ⊤
IsKeptOrLeft (Some w) None seen = HasLeft (Some w) seen
IsKeptOrLeft (Some w) (Some w') seen = GoesOn w w'

-- ---- posts that are taken

-- Posts were taken and printed, at least one and up to so many, fewer only where all are told that the last meeting told of.
pub record HasPortion (w : WatcherView) (most : ℕ) (printed : PrintedPosts) (w' : Option WatcherView) : Type 0 where
  pub posts : List PostView
  pub after : WatcherView
  pub taken : HasTaken w posts after
  pub watcher : w' ≡ Some after
  pub some : posts ≢ []
  pub most_is : length posts ≤ most
  pub fewer : length posts < most → w.half.told ≤ length w.half.taken + length posts
  pub text : printed.text.items ≡ flat_map post_text posts
  pub lines : printed.lines ≡ lines_of_posts posts
  pub count : printed.posts ≡ length posts

-- what a session finds that takes up to so many posts: some, none, no watcher, or no memory to print those that it took
abbrev pub IsPortion : Option WatcherView → ℕ → Result Portion Fault → Option WatcherView → List LogEntry → Type 0
IsPortion None most (Ok p) w' seen = ⊥
IsPortion None most (Err f) w' seen = (f ≡ NoWatcher) × (w' ≡ None)
IsPortion (Some w) most (Ok (Posts printed)) w' seen = HasPortion w most printed w'
IsPortion (Some w) most (Ok (Empty phase)) w' seen = (after : WatcherView) × IsSpent w phase after seen × HasTaken w [] after × (w' ≡ Some after)
IsPortion (Some w) most (Err f) w' seen = (f ≡ WantsMemory) × (lost : List PostView) × (after : WatcherView) × HasTaken w lost after × (w' ≡ Some after) × (length lost ≤ most)

-- ---- pieces of an answer

-- a `follow` has told so many posts, in this text
pub record Follows (w : Option WatcherView) (r : Request) (out : List ℕ) (told : ℕ) (w' : Option WatcherView) : Type 0 where
  pub most : ℕ
  pub asked : r ≡ Follow most
  pub before : WatcherView
  pub had : w ≡ Some before
  pub posts : List PostView
  pub after : WatcherView
  pub taken : HasTaken before posts after
  pub has : w' ≡ Some after
  pub count : length posts ≡ told
  pub within : told ≤ most
  pub text : out ≡ flat_map post_text posts

-- what is out of an answer before its next piece: nothing, or so many posts that a `follow` has told
abbrev pub IsSoFar : SharedView → Request → List ℕ → ℕ → SharedView → Type 0
IsSoFar s r out told s' = ((out ≡ []) × (told ≡ 0) × (s' ≡ s)) ⊎ (Follows s.own r out told s'.own × SeesOn s.sight s'.sight)

-- a `follow` has told no more posts than it was asked for
abbrev pub IsWithin : Request → ℕ → Type 0
IsWithin r told = (most : ℕ) → r ≡ Follow most → told ≤ most

-- a whole answer, and how the session ends with it: by want of memory where posts were lost
abbrev pub AnswersWhole : SharedView → Result Request Fault → List ℕ → Option End → SharedView → Type 0
AnswersWhole s asked text end s' =
    (IsTurn s asked text s' × (end ≡ ends_by asked))
    ⊎ (IsLost s.own asked text s'.sight.seen × IsKeptOrLeft s.own s'.own s'.sight.seen × SeesOn s.sight s'.sight × (end ≡ Some Memory))

-- a piece is the last one, of this text, and so the session ends with it, if it does
abbrev pub EndsWith : List ℕ → Option End → Option (List ℕ) → Then → Type 0
EndsWith text end piece next = (piece ≡ Some text) × (next ≡ Over end)

-- A piece behind this text: a part of the answer to a `follow`, of no text where the session has rested, or the rest of an answer.
abbrev pub IsPiece : SharedView → Request → List ℕ → Option (List ℕ) → Then → SharedView → Type 0
IsPiece s r out piece (More told) s' = Follows s.own r (out ++ unwrap_or piece []) told s'.own × SeesOn s.sight s'.sight
IsPiece s r out (Some text) (Over end) s' = AnswersWhole s (Ok r) (out ++ text) end s'
IsPiece s r out None (Over end) s' = ⊥

-- so many bytes of a piece are out where it was cut: not all, or none where it has no text
abbrev pub IsCutPiece : ℕ → Option (List ℕ) → Type 0
IsCutPiece sent None = sent ≡ 0
IsCutPiece sent (Some text) = sent < length text

-- ---- lines

-- what was asked is answered in this text, or the session ends by it
abbrev pub IsOutcome : Option End → SharedView → Result Request Fault → List ℕ → SharedView → Type 0
IsOutcome None s asked out s' = IsTurn s asked out s' × (ends_by asked ≡ None)
IsOutcome (Some by) s asked out s' = EndsOfAnswer by s asked out s'

-- what was asked is answered after what was sent, or the session ends by it
pub record ServesAsked (s : SharedView) (asked : Result Request Fault) (sent written : Option (List ℕ)) (result : Option End) (s' : SharedView) : Type 0 where
  pub out : List ℕ
  pub written_is : Appends sent written out
  pub outcome : IsOutcome result s asked out s'
  pub watcher : IsKeptOrLeft s.own s'.own s'.sight.seen

-- a whole line was answered at a desk, whatever stands beside the session
abbrev pub OnDesk : {P : Type 0} → Answering (P × SharedView)
OnDesk s line sent written end s' = ServesAsked s.1 (request_of line) sent written end s'.1

-- what is served next is one line, or the end of the session in its place
abbrev pub SharedLinesAreServed : Type 0 → Type 0
SharedLinesAreServed P =
    (before later : Option (List ℕ)) (s s' : P × SharedView) (sent written : Option (List ℕ)) (end : Option End) → ServesNext OnDesk before s sent end later s' written
    → ServedSharedLine before later s.1 s'.1 sent written end
