-- What a request does to a floor and to the watcher of a session, and what it is answered.
-- A word with no source is this project's rule.
use Rattle.std.specs.Prelude.{◌≡◌, ◌⊎◌, ℕ, Bool, true, false, cond, not, ◌&&◌, ◌==◌, List, [], ◌∷◌, length, take, replicate, is_some, Option, Some, None, Result, Ok, Err}
use Rattle.std.specs.Option.{option_map_or}
use Rattle.mt_skel.specs.declared.fault.Fault.{Fault}
use Rattle.mt_skel.specs.declared.fault.Fault.TheVariants.{WatcherOpen, NoWatcher, Lagged as WasLagged, Stopped}
use Rattle.mt_skel.specs.Keyed.{row_at}
use Rattle.mt_propagate.specs.World.{WorldView}
use Rattle.mt_events.specs.Posts.{PostView}
use Rattle.mt_events.specs.declared.opening.Scope.{Scope}
use Rattle.mt_book.specs.declared.command.Command.{Command}
use Rattle.mt_book.specs.declared.command.Reply.{Reply}
use Rattle.mt_book.specs.Step.{step, after}
use Rattle.mt_floor.specs.declared.watch.Phase.{Phase}
use Rattle.mt_floor.specs.declared.watch.Phase.TheVariants.{Open as IsOpen, Lagged, Ended}
use Rattle.mt_floor.specs.declared.event.Event.TheVariants.{Apply, Open, Take as TakePost, Close as CloseWatcher, Stop as StopFloor}
use Rattle.mt_floor.specs.Watcher.{Watcher, watcher_key, opening_of}
use Rattle.mt_floor.specs.Schedule.{FloorView, command_refusal, opening_refusal, floor_step, run, settled, waiting}
use Rattle.mt_requests.specs.declared.request.Request.{Request}
use Rattle.mt_requests.specs.declared.request.Request.TheVariants.{Run, Ask, Watch, Take, Follow, Close, Quit, Stop}
use Rattle.mt_events.specs.Texts.{count_text, opening_text, posts_text, followed_text}
use Rattle.mt_session.specs.Answers.{refusal, done_text, reply_text, query_text}

-- what the lines of a session are folded over: a floor on which nothing is due, and the key of the session's watcher, if it has one
pub record SessionState : Type 0 where
  pub floor : FloorView
  pub watcher : Option ℕ

abbrev pub session_state : FloorView → Option ℕ → SessionState
session_state floor watcher = record { floor = floor; watcher = watcher }

-- the posts that are due are sent before the next request is done
abbrev pub session_at : FloorView → Option ℕ → SessionState
session_at floor watcher = session_state (settled floor) watcher

-- what a command answers
abbrev pub stepped_text : Result (WorldView × Reply) Fault → List ℕ
stepped_text (Ok p) = reply_text p.1
stepped_text (Err f) = refusal f

-- a command's answer: why none is accepted, or else its own
abbrev pub replied_text : FloorView → Command → List ℕ
replied_text s c = option_map_or (λ f. refusal f) (command_refusal s) (stepped_text (step (after s.journal) c))

-- a new watcher's answer: why none begins, or else what it finds
abbrev pub opened_text : FloorView → Scope → List ℕ
opened_text s scope = option_map_or (λ f. refusal f) (opening_refusal s scope) (opening_text (opening_of s.journal scope))

-- where no post waits: this text for a watcher that is still posted to, and why there will be no more for another
abbrev pub by_phase : List ℕ → Phase → List ℕ
by_phase text IsOpen = text
by_phase text Lagged = refusal WasLagged
by_phase text Ended = refusal Stopped

abbrev pub rest_text : List ℕ → FloorView → ℕ → List ℕ
rest_text text s key = option_map_or (λ (r : Watcher). by_phase text r.phase) (row_at watcher_key key s.watchers) (refusal NoWatcher)

-- `take`: the posts, or where there are none `ok 0` or why
abbrev pub taken_text : FloorView → ℕ → List PostView → List ℕ
taken_text s key [] = rest_text (count_text 0) s key
taken_text s key (p ∷ ps) = posts_text (p ∷ ps)

-- `follow`: the posts, then how many they are, or why there will be no more where there are fewer than were asked for
abbrev pub end_of_followed : FloorView → ℕ → ℕ → ℕ → List ℕ
end_of_followed s key k n = cond (n == k) (count_text n) (rest_text (count_text n) s key)

-- `close`: the posts that were not taken
abbrev pub closed_text : FloorView → ℕ → List ℕ
closed_text s key = option_map_or (λ (r : Watcher). posts_text (waiting s key)) (row_at watcher_key key s.watchers) (refusal NoWatcher)

-- the floor once so many posts of a watcher were taken
abbrev pub taken : FloorView → ℕ → ℕ → FloorView
taken s key n = (run s (replicate n (TakePost key))).0

-- the posts that a request for so many takes
abbrev pub next_posts : FloorView → ℕ → ℕ → List PostView
next_posts s key k = take k (waiting s key)

-- what is done with the session's watcher, or else, where it has none
abbrev pub by_watcher : {A : Type 0} → SessionState → (ℕ → A) → A → A
by_watcher s f a = option_map_or f s.watcher a

-- the text that a request is answered with
unfoldable pub answer_to : SessionState → Request → List ℕ
answer_to s (Run c) = replied_text s.floor c
answer_to s (Ask q) = query_text s.floor.journal q
answer_to s (Watch scope) = by_watcher s (λ key. refusal WatcherOpen) (opened_text s.floor scope)
answer_to s (Take k) = by_watcher s (λ key. taken_text s.floor key (next_posts s.floor key k)) (refusal NoWatcher)
answer_to s (Follow k) =
    by_watcher s (λ key. let posts : List PostView = next_posts s.floor key k in followed_text posts (end_of_followed s.floor key k (length posts)))
    (refusal NoWatcher)
answer_to s Close = by_watcher s (λ key. closed_text s.floor key) (refusal NoWatcher)
answer_to s Quit = done_text
answer_to s Stop = done_text

-- a watcher that begins is the session's, and has the next key
abbrev pub begun : FloorView → Scope → SessionState
begun s scope = record { floor = (floor_step s (Open scope)).0; watcher = option_map_or (λ f. None) (opening_refusal s scope) (Some s.next_key) }

-- the session's watcher has taken so many posts
abbrev pub with_taken : SessionState → ℕ → SessionState
with_taken s k = by_watcher s (λ key. record s { floor = taken s.floor key (length (next_posts s.floor key k)) }) s

-- the session's watcher, if it has one, was closed
abbrev pub left : SessionState → SessionState
left s = by_watcher s (λ key. record { floor = (floor_step s.floor (CloseWatcher key)).0; watcher = None }) s

-- the state after a request
unfoldable pub state_to : SessionState → Request → SessionState
state_to s (Run c) = session_at (floor_step s.floor (Apply c)).0 s.watcher
state_to s (Watch scope) = by_watcher s (λ key. s) (begun s.floor scope)
state_to s (Take k) = with_taken s k
state_to s (Follow k) = with_taken s k
state_to s Close = left s
state_to s Stop = record s { floor = (floor_step s.floor StopFloor).0 }
state_to s r = s

-- the answer may fail for want of memory; the others are found without any
abbrev pub wants_memory : SessionState → Request → Bool
wants_memory s (Run c) = true
wants_memory s (Ask q) = true
wants_memory s (Watch scope) = not (is_some s.watcher)
wants_memory s (Take k) = is_some s.watcher
wants_memory s (Follow k) = is_some s.watcher
wants_memory s Close = is_some s.watcher
wants_memory s r = false

-- the request begins a watcher
abbrev pub begins_watcher : SessionState → Request → Bool
begins_watcher s r = not (is_some s.watcher) && is_some (state_to s r).watcher

-- want of memory left the state of a request as it was, or closed a watcher again that had begun
abbrev pub IsUndone : SessionState → Request → SessionState → Type 0
IsUndone old r new = ((new ≡ old) × (wants_memory old r ≡ true)) ⊎ ((new ≡ left (state_to old r)) × (begins_watcher old r ≡ true))
