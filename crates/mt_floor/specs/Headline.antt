-- The headline, for every list of events from a floor on which nothing was done. A word with no
-- source is this project's rule.
--
-- In every schedule, the events that a watcher has taken are a prefix of those posted for the namespaces it follows since its opening,
-- each once and in order, none posted after its close or lag (TakenInOrder). Applied to its opening tables, they give each namespace's
-- table as of its last taken number (TakenRebuild).
use Rattle.std.specs.Prelude.{◌≡◌, ℕ, ◌<◌, Bool, true, false, cond, not, ◌&&◌, ◌==◌, List, [], ◌∷◌, ◌++◌, take, drop, Some, slice_get, IsTrue, Result, Ok}
use Rattle.std.specs.Option.{option_to_list}
use Rattle.mt_skel.specs.declared.fault.Fault.{Fault}
use Rattle.mt_skel.specs.Keyed.{row_at}
use Rattle.mt_info.specs.Table.{table_of}
use Rattle.mt_events.specs.Posts.{PostView}
use Rattle.mt_events.specs.declared.opening.Scope.{Scope}
use Rattle.mt_events.specs.declared.opening.Opening.{Opening}
use Rattle.mt_events.specs.Following.{names_space, IsRun, start_table, space_posts, table_made}
use Rattle.mt_book.specs.declared.command.Command.{Command}
use Rattle.mt_book.specs.Step.{after}
use Rattle.mt_book.specs.Laws.{IsTableAsOf}
use Rattle.mt_floor.specs.declared.event.Event.{Event}
use Rattle.mt_floor.specs.declared.event.Event.TheVariants.{Apply, Take, Close}
use Rattle.mt_floor.specs.declared.event.Answer.{Answer}
use Rattle.mt_floor.specs.declared.event.Answer.TheVariants.{Replied, Posted, Opened, Took, Closed, Halted}
use Rattle.mt_floor.specs.Watcher.{Watcher, Due, watcher_key, followed_posts}
use Rattle.mt_floor.specs.Schedule.{FloorView, empty_floor, floor_step, run, has_open}

-- a schedule is a list of events, each with its answer; and this is the floor after them
abbrev pub answers : ℕ → List Event → List (Result Answer Fault)
answers capacity es = (run (empty_floor capacity) es).1

abbrev pub floor_after : ℕ → List Event → FloorView
floor_after capacity es = (run (empty_floor capacity) es).0

-- "taken": the post that an answer `Took` gives to an event `Take` of the watcher of a key
abbrev pub takes_from : ℕ → Event → Bool
takes_from key (Take k) = k == key
takes_from key e = false

abbrev pub taken_by : ℕ → Event → Result Answer Fault → List PostView
taken_by key e (Ok (Took p)) = cond (takes_from key e) (option_to_list p) []
taken_by key e a = []

abbrev pub taken_posts : ℕ → List Event → List (Result Answer Fault) → List PostView
taken_posts key (e ∷ es) (a ∷ ans) = taken_by key e a ++ taken_posts key es ans
taken_posts key es ans = []

-- "posted": the post that was due first, where the answer is that it was posted to the watcher of a key, and that this has not lagged
abbrev pub first_due : List Due → List PostView
first_due [] = []
first_due (d ∷ ds) = d.post ∷ []

abbrev pub posted_by : ℕ → List Due → Result Answer Fault → List PostView
posted_by key due (Ok (Posted k lagged)) = cond (not lagged && (k == key)) (first_due due) []
posted_by key due a = []

abbrev pub posted_to : ℕ → FloorView → List Event → List PostView
posted_to key s [] = []
posted_to key s (e ∷ es) = posted_by key s.due (floor_step s e).1 ++ posted_to key (floor_step s e).0 es

-- "for the namespaces it follows": the posts of the accepted commands, which are those of events `Apply` with an answer `Replied`
abbrev pub command_of : Event → List Command
command_of (Apply c) = c ∷ []
command_of e = []

abbrev pub accepted_by : Event → Result Answer Fault → List Command
accepted_by e (Ok (Replied r)) = command_of e
accepted_by e a = []

abbrev pub accepted : List Event → List (Result Answer Fault) → List Command
accepted (e ∷ es) (a ∷ ans) = accepted_by e a ++ accepted es ans
accepted es ans = []

-- "since its opening": from the event on that stands `at` this place; before that, what came before it
abbrev pub accepted_before : ℕ → List Event → ℕ → List Command
accepted_before capacity es at = accepted (take at es) (take at (answers capacity es))

abbrev pub accepted_since : ℕ → List Event → ℕ → List Command
accepted_since capacity es at = accepted (drop at es) (drop at (answers capacity es))

abbrev pub taken_since : ℕ → List Event → ℕ → ℕ → List PostView
taken_since capacity es at key = taken_posts key (drop at es) (drop at (answers capacity es))

abbrev pub posted_since : ℕ → List Event → ℕ → ℕ → List PostView
posted_since capacity es at key = posted_to key (floor_after capacity (take at es)) (drop at es)

abbrev pub followed_since : ℕ → List Event → ℕ → Scope → List PostView
followed_since capacity es at scope = followed_posts scope (accepted_before capacity es at) (accepted_since capacity es at)

-- "after its close or lag": after an answer that tells that the watcher of a key lags, is closed, or was ended by a stop
abbrev pub closes : ℕ → Event → Bool
closes key (Close k) = k == key
closes key e = false

abbrev pub ends_watcher : ℕ → Event → Result Answer Fault → Bool
ends_watcher key e (Ok (Posted k lagged)) = lagged && (k == key)
ends_watcher key e (Ok (Closed ps)) = closes key e
ends_watcher key e (Ok Halted) = true
ends_watcher key e a = false

-- an answer posts to the watcher of a key
abbrev pub posts_to : ℕ → Result Answer Fault → Bool
posts_to key (Ok (Posted k lagged)) = k == key
posts_to key a = false

-- the watcher of a key that began at an event: the events that it has taken are a prefix of those posted for the namespaces that it
-- follows since its opening, each once and in order, none posted after its close or lag
pub record IsInOrder (capacity : ℕ) (es : List Event) (at key : ℕ) (o : Opening) : Type 0 where
  -- what it has taken is a prefix of what was posted to it
  pub not_taken : List PostView
  pub taken : posted_since capacity es at key ≡ taken_since capacity es at key ++ not_taken
  -- and this is a prefix of the posts that it follows
  pub not_posted : List PostView
  pub posted : followed_since capacity es at o.scope ≡ posted_since capacity es at key ++ not_posted
  -- these are the lists of its row, as long as it has one
  pub row : (r : Watcher) → row_at watcher_key key (floor_after capacity es).watchers ≡ Some r
      → (r.sent ≡ posted_since capacity es at key) × (r.taken ≡ taken_since capacity es at key)
  -- each post is of a namespace that it follows, and has the number after that of the one before it, beginning at its opening
  pub run : IsRun o (posted_since capacity es at key)
  -- all of them while it is open and nothing is due
  pub all : has_open key (floor_after capacity es) ≡ true → (floor_after capacity es).due ≡ [] → followed_since capacity es at o.scope ≡ posted_since capacity es at key
  -- none is posted after its close or lag, or after a stop
  pub none_after : (n m : ℕ) (e : Event) (a b : Result Answer Fault) → at < n → n < m
      → slice_get es n ≡ Some e → slice_get (answers capacity es) n ≡ Some a → ends_watcher key e a ≡ true
      → slice_get (answers capacity es) m ≡ Some b → posts_to key b ≡ false
  -- a watcher that is gone, lagged or ended after some of the events gets no post from then on
  pub none : (n : ℕ) → at < n → has_open key (floor_after capacity (take n es)) ≡ false → posted_since capacity es n key ≡ []

-- the first sentence, for every list of events and every watcher that began in it
abbrev pub TakenInOrder : Type 0
TakenInOrder = (capacity : ℕ) (es : List Event) (at key : ℕ) (o : Opening) → slice_get (answers capacity es) at ≡ Some (Ok (Opened key o)) → IsInOrder capacity es at key o

-- what the watcher of a key that began at an event makes of its opening and of the posts that it has taken
pub record IsRebuilt (capacity : ℕ) (es : List Event) (at key : ℕ) (o : Opening) : Type 0 where
  -- it found the tables of the namespaces that it follows as the commands accepted before had left them; that of a later one is empty
  pub found : (n : ℕ) → IsTrue (names_space o.scope n) → start_table o n ≡ table_of (after (accepted_before capacity es at)) n
  -- this is the table of a namespace of which it has taken no post
  pub untouched : (n : ℕ) → IsTrue (names_space o.scope n) → space_posts n (taken_since capacity es at key) ≡ [] → table_made o n (taken_since capacity es at key) ≡ start_table o n
  -- of another one it has the table after the command that gave the last post that it has taken
  pub as_of : (n : ℕ) (front : List PostView) (p : PostView) → IsTrue (names_space o.scope n) → space_posts n (taken_since capacity es at key) ≡ front ++ p ∷ []
      → IsTableAsOf n p (accepted es (answers capacity es)) (table_made o n (taken_since capacity es at key))

-- the second sentence, for every list of events and every watcher that began in it
abbrev pub TakenRebuild : Type 0
TakenRebuild = (capacity : ℕ) (es : List Event) (at key : ℕ) (o : Opening) → slice_get (answers capacity es) at ≡ Some (Ok (Opened key o)) → IsRebuilt capacity es at key o

-- both sentences, for one list of events: for every watcher that began in it
abbrev pub WatchersFollow : ℕ → List Event → Type 0
WatchersFollow capacity es =
    (at key : ℕ) (o : Opening) → slice_get (answers capacity es) at ≡ Some (Ok (Opened key o)) → IsInOrder capacity es at key o × IsRebuilt capacity es at key o

-- events were done on the floor to which others had led, with these answers: all of them are one schedule, which leads to the floor
-- now, and the headline holds for it
pub record IsHeadlined (capacity : ℕ) (before es : List Event) (told : List (Result Answer Fault)) (now : FloorView) : Type 0 where
  pub floor : now ≡ floor_after capacity (before ++ es)
  pub answered : answers capacity (before ++ es) ≡ answers capacity before ++ told
  pub watchers : WatchersFollow capacity (before ++ es)

-- events were done on a floor: this holds whatever events had led to it from one on which nothing
-- was done
abbrev pub HeadlineHolds : FloorView → List Event → List (Result Answer Fault) → FloorView → Type 0
HeadlineHolds old es told now = (capacity : ℕ) (before : List Event) → old ≡ floor_after capacity before → IsHeadlined capacity before es told now

-- what posts make of an opening, where they are the first that were posted to its watcher, whether it has taken them or a close has answered them
pub record TellTables (capacity : ℕ) (es : List Event) (o : Opening) (ps : List PostView) : Type 0 where
  -- of a namespace with none of them the table that was found
  pub untouched : (n : ℕ) → IsTrue (names_space o.scope n) → space_posts n ps ≡ [] → table_made o n ps ≡ start_table o n
  -- of another one the table after the command that gave the last of them
  pub as_of : (n : ℕ) (front : List PostView) (p : PostView) → IsTrue (names_space o.scope n) → space_posts n ps ≡ front ++ p ∷ [] → IsTableAsOf n p (accepted es (answers capacity es)) (table_made o n ps)

-- "given": the posts that a watcher has taken, and those that its close has answered
abbrev pub given_by : ℕ → Event → Result Answer Fault → List PostView
given_by key e (Ok (Took p)) = cond (takes_from key e) (option_to_list p) []
given_by key e (Ok (Closed ps)) = cond (closes key e) ps []
given_by key e a = []

abbrev pub given_posts : ℕ → List Event → List (Result Answer Fault) → List PostView
given_posts key (e ∷ es) (a ∷ ans) = given_by key e a ++ given_posts key es ans
given_posts key es ans = []

abbrev pub given_since : ℕ → List Event → ℕ → ℕ → List PostView
given_since capacity es at key = given_posts key (drop at es) (drop at (answers capacity es))

-- the posts that the watcher of a key that began at an event was given: a prefix of those posted to it, in order, and they tell its tables
pub record IsGivenInOrder (capacity : ℕ) (es : List Event) (at key : ℕ) (o : Opening) : Type 0 where
  pub not_given : List PostView
  pub given : posted_since capacity es at key ≡ given_since capacity es at key ++ not_given
  pub run : IsRun o (given_since capacity es at key)
  pub tables : TellTables capacity es o (given_since capacity es at key)

-- this holds for every list of events and every watcher that began in it, up to its close and after
-- it
abbrev pub GivenInOrder : Type 0
GivenInOrder = (capacity : ℕ) (es : List Event) (at key : ℕ) (o : Opening) → slice_get (answers capacity es) at ≡ Some (Ok (Opened key o)) → IsGivenInOrder capacity es at key o
