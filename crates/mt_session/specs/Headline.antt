-- The headline, of every plain session: its lines are a schedule of the floor.
-- A word with no source is this project's rule.
--
-- The posts that a session tells of a watcher by `take`, `follow` and `close` are a prefix of those posted for the namespaces it follows since its opening,
-- each once and in order; and applied to the opening that `watch` told, they give each namespace's table as of its last told number.
use Rattle.std.specs.Prelude.{◌≡◌, ◌⊎◌, ℕ, cond, ◌==◌, List, [], ◌∷◌, ◌++◌, length, replicate, Some, None, slice_get, Option, Result, Ok, Err, if◌then◌else◌}
use Rattle.mt_skel.specs.declared.fault.Fault.{Fault}
use Rattle.mt_events.specs.Posts.{PostView}
use Rattle.mt_events.specs.declared.opening.Opening.{Opening}
use Rattle.mt_events.specs.Following.{IsRun}
use Rattle.mt_events.specs.Texts.{opening_text, posts_text, followed_text}
use Rattle.mt_floor.specs.declared.event.Event.{Event}
use Rattle.mt_floor.specs.declared.event.Event.TheVariants.{Apply, PostNext, Open, Take as TakePost, Close as CloseWatcher, Stop as StopFloor}
use Rattle.mt_floor.specs.declared.event.Answer.TheVariants.{Opened}
use Rattle.mt_floor.specs.Schedule.{FloorView, floor_step, waiting}
use Rattle.mt_floor.specs.Headline.{answers, floor_after, posted_since, IsInOrder, IsRebuilt, TellTables}
use Rattle.mt_requests.specs.declared.request.Request.{Request}
use Rattle.mt_requests.specs.declared.request.Request.TheVariants.{Run, Watch, Take, Follow, Close, Stop}
use Rattle.mt_session.specs.declared.serving.End.{End}
use Rattle.mt_session.specs.Requests.{SessionState, session_state, session_at, by_watcher, next_posts}
use Rattle.mt_session.specs.Session.{Turn, Growth, Granted, Refused, Unshown, request_of_line, may_fail, may_be_unshown, granted_state, answer_to_turn, state_after_turn, state_after, Served}

-- ---- the events of a session

-- the posts that are due are sent
abbrev pub sends : FloorView → List Event
sends s = replicate (length s.due) PostNext

-- so many posts of the session's watcher are taken
abbrev pub takes : SessionState → ℕ → List Event
takes s k = by_watcher s (λ key. replicate (length (next_posts s.floor key k)) (TakePost key)) []

-- the session's watcher, if it has one, is closed
abbrev pub leaves : SessionState → List Event
leaves s = by_watcher s (λ key. CloseWatcher key ∷ []) []

-- the events of a request
unfoldable pub events_to : SessionState → Request → List Event
events_to s (Run c) = Apply c ∷ sends (floor_step s.floor (Apply c)).0
events_to s (Watch scope) = by_watcher s (λ key. []) (Open scope ∷ [])
events_to s (Take k) = takes s k
events_to s (Follow k) = takes s k
events_to s Close = leaves s
events_to s Stop = StopFloor ∷ []
events_to s r = []

abbrev pub granted_events : SessionState → Result Request Fault → List Event
granted_events state (Ok r) = events_to state r
granted_events state (Err f) = []

-- the events of a line: none where a growth was refused, but that a watcher may have begun and was closed again
abbrev pub events_with : SessionState → Growth → Result Request Fault → List Event
events_with state Granted r = granted_events state r
events_with state Refused r = if may_fail state r then [] else granted_events state r
events_with state Unshown r = if may_be_unshown state r then granted_events state r ++ leaves (granted_state state r) else granted_events state r

unfoldable pub events_of : SessionState → Turn → List Event
events_of state turn = events_with state turn.growth (request_of_line turn.line)

-- the events of lines, one after another
abbrev pub session_events : List Turn → SessionState → List Event
session_events [] state = []
session_events (turn ∷ turns) state = events_of state turn ++ session_events turns (state_after_turn state turn)

-- ---- the posts that a session tells

-- what is told of the session's watcher, where it is the one of this key
abbrev pub of_key : ℕ → SessionState → (ℕ → List PostView) → List PostView
of_key key s posts = by_watcher s (λ own. cond (own == key) (posts own) []) []

-- the posts that the answer to a request tells of the watcher of a key: those that it takes, or that wait at its close
unfoldable pub told_to : ℕ → SessionState → Request → List PostView
told_to key s (Take k) = of_key key s (λ own. next_posts s.floor own k)
told_to key s (Follow k) = of_key key s (λ own. next_posts s.floor own k)
told_to key s Close = of_key key s (λ own. waiting s.floor own)
told_to key s r = []

abbrev pub granted_told : ℕ → SessionState → Result Request Fault → List PostView
granted_told key state (Ok r) = told_to key state r
granted_told key state (Err f) = []

-- the answer to a line tells them, but where want of memory stands in its place
abbrev pub told_with : ℕ → SessionState → Growth → Result Request Fault → List PostView
told_with key state Granted r = granted_told key state r
told_with key state Refused r = if may_fail state r then [] else granted_told key state r
told_with key state Unshown r = if may_be_unshown state r then [] else granted_told key state r

unfoldable pub told_by : ℕ → SessionState → Turn → List PostView
told_by key state turn = told_with key state turn.growth (request_of_line turn.line)

-- and those to lines, one after another
abbrev pub session_told : ℕ → List Turn → SessionState → List PostView
session_told key [] state = []
session_told key (turn ∷ turns) state = told_by key state turn ++ session_told key turns (state_after_turn state turn)

-- the text of posts: by `take` and `close`, or by `follow`, which says behind them how they ended
abbrev pub TellsPosts : List ℕ → List PostView → Type 0
TellsPosts text ps = (text ≡ posts_text ps) ⊎ ((end : List ℕ) × (text ≡ followed_text ps end))

-- where a line tells posts of a watcher, its answer is their text
abbrev pub AnswersTell : Type 0
AnswersTell = (key : ℕ) (state : SessionState) (turn : Turn) (p : PostView) (ps : List PostView) → told_by key state turn ≡ p ∷ ps → TellsPosts (answer_to_turn state turn) (p ∷ ps)

-- ---- the headline

-- The watcher of a key was told of with this text when it began, and with these posts then.
pub record HasHeard (capacity : ℕ) (es : List Event) (key : ℕ) (found : List ℕ) (told : List PostView) : Type 0 where
  -- it began at one of the events, and its opening was told
  pub at : ℕ
  pub opening : Opening
  pub began : slice_get (answers capacity es) at ≡ Some (Ok (Opened key opening))
  pub found_is : found ≡ opening_text opening
  -- what was told is a prefix of what was posted to it, in order, and tells its tables
  pub not_told : List PostView
  pub posted : posted_since capacity es at key ≡ told ++ not_told
  pub run : IsRun opening told
  pub tables : TellTables capacity es opening told
  -- and the headline holds of it
  pub in_order : IsInOrder capacity es at key opening
  pub rebuilt : IsRebuilt capacity es at key opening

-- Lines are a schedule, behind the events that led to the floor before them: it leads to the floor after them, and each watcher that began with one of them was
-- told its posts by those behind it.
pub record IsSession (capacity : ℕ) (before : List Event) (turns : List Turn) (state : SessionState) : Type 0 where
  pub floor : (state_after turns state).floor ≡ floor_after capacity (before ++ session_events turns state)
  pub watchers : (front : List Turn) (turn : Turn) (behind : List Turn) (key : ℕ) → turns ≡ front ++ turn ∷ behind
      → (state_after front state).watcher ≡ None → (state_after_turn (state_after front state) turn).watcher ≡ Some key
      → HasHeard capacity (before ++ session_events turns state) key (answer_to_turn (state_after front state) turn) (session_told key behind (state_after_turn (state_after front state) turn))

-- a session was served on a floor that these events had led to: what was due was sent, then its lines were served, and then its watcher was closed
pub record IsTranscript (capacity : ℕ) (before : List Event) (bytes later : Option (List ℕ)) (old new : FloorView) (sent written : Option (List ℕ)) (by : End) : Type 0 where
  pub served : Served bytes later (session_at old None) (session_state new None) sent written by
  pub session : IsSession capacity (before ++ sends old) (served.turns ++ served.last) (session_at old None)
  pub floor : new ≡ floor_after capacity ((before ++ sends old) ++ (session_events (served.turns ++ served.last) (session_at old None) ++ leaves (state_after (served.turns ++ served.last) (session_at old None))))

-- a session was served: so it is, whatever events had led to the floor from one with nothing done
abbrev pub TranscriptHolds : Option (List ℕ) → Option (List ℕ) → FloorView → FloorView → Option (List ℕ) → Option (List ℕ) → End → Type 0
TranscriptHolds bytes later old new sent written by = (capacity : ℕ) (before : List Event) → old ≡ floor_after capacity before → IsTranscript capacity before bytes later old new sent written by

-- so it is of any lines, from a floor on which nothing is due
abbrev pub SessionsFollow : Type 0
SessionsFollow =
    (capacity : ℕ) (before : List Event) (turns : List Turn) (state : SessionState) → state.floor ≡ floor_after capacity before → state.floor.due ≡ [] → IsSession capacity before turns state
