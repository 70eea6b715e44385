-- The effect of each event, and of a list of them.
-- A word with no source is this project's rule.
use Rattle.std.specs.Prelude.{ℕ, ◌+◌, ◌^◌, Bool, true, false, cond, not, ◌||◌, ◌==◌, nat_le, List, [], ◌∷◌, ◌++◌, map, length, drop, replicate, Option, Some, None, slice_get, Result, Ok, Err}
use Rattle.std.specs.List.{filter}
use Rattle.std.specs.Option.{option_map_or}
use Rattle.mt_skel.specs.declared.fault.Fault.{Fault}
use Rattle.mt_skel.specs.declared.fault.Fault.TheVariants.{NoNamespace, TooManyWatchers, Stopped, NoWatcher, JournalFull, Lagged as WasLagged, NoMemory}
use Rattle.mt_skel.specs.Keyed.{row_at, put, without}
use Rattle.mt_skel.specs.Outcome.{refuse_if, first_fault}
use Rattle.mt_propagate.specs.World.{WorldView}
use Rattle.mt_events.specs.Posts.{PostView}
use Rattle.mt_events.specs.declared.opening.Scope.{Scope}
use Rattle.mt_book.specs.Book.{command_limit}
use Rattle.mt_book.specs.declared.command.Command.{Command}
use Rattle.mt_book.specs.declared.command.Reply.{Reply}
use Rattle.mt_book.specs.Step.{step, after}
use Rattle.mt_book.specs.History.{posts_of}
use Rattle.mt_floor.specs.declared.watch.Phase.{Phase}
use Rattle.mt_floor.specs.declared.watch.Phase.TheVariants.{Open as IsOpen, Lagged, Ended}
use Rattle.mt_floor.specs.declared.event.Event.{Event}
use Rattle.mt_floor.specs.declared.event.Event.TheVariants.{Apply, PostNext, Open, Take, Meet, Close, Stop}
use Rattle.mt_floor.specs.declared.event.Answer.{Answer}
use Rattle.mt_floor.specs.declared.event.Answer.TheVariants.{Replied, Posted, Opened, Took, Met, Closed, Halted, NotNow}
use Rattle.mt_floor.specs.Watcher.{Watcher, Due, watcher_key, is_open, due_pairs, opening_of, is_missing}

-- the state of a floor: the accepted commands, the watchers by rising key, and the posts that are due
pub record FloorView : Type 0 where
  pub capacity : ℕ
  pub journal : List Command
  pub next_key : ℕ
  pub stopped : Bool
  pub watchers : List Watcher
  pub due : List Due

-- what an event does: the state after it, and its answer or refusal
abbrev pub Stepped : Type 0
Stepped = FloorView × Result Answer Fault

-- a floor on which nothing was done
abbrev pub empty_floor : ℕ → FloorView
empty_floor capacity = record { capacity = capacity; journal = []; next_key = 1; stopped = false; watchers = []; due = [] }

-- the most watchers at once
abbrev pub watcher_limit : ℕ
watcher_limit = 64

-- a refused event changes nothing
abbrev pub unless : Option Fault → FloorView → Stepped → Stepped
unless None s done = done
unless (Some f) s done = (s, Err f)

-- an event that is put off if a post is due
abbrev pub if_idle : List Due → FloorView → Stepped → Stepped
if_idle [] s done = done
if_idle (d ∷ ds) s done = (s, Ok NotNow)

-- if a post is due, each event is put off except those that send and take posts
abbrev pub is_put_off : List Due → Event → Bool
is_put_off due PostNext = false
is_put_off due (Take k) = false
is_put_off [] e = false
is_put_off (d ∷ ds) e = true

-- an event of the watcher of a key
abbrev pub at_row : FloorView → ℕ → (Watcher → Stepped) → Stepped
at_row s k f = option_map_or f (row_at watcher_key k s.watchers) (s, Err NoWatcher)

-- the posts that were sent to the watcher of a key and not taken, the next one first
abbrev pub waiting : FloorView → ℕ → List PostView
waiting s key = option_map_or (λ (r : Watcher). drop (length r.taken) r.sent) (row_at watcher_key key s.watchers) []

-- a watcher has changed
abbrev pub changed : FloorView → Watcher → FloorView
changed s r = record s { watchers = put watcher_key r s.watchers }

-- a post is sent to a watcher; one whose queue is full lags, and nothing is due to it any more
abbrev pub sent_to : FloorView → Due → List Due → Bool → Watcher → Stepped
sent_to s d ds true r = (changed (record s { due = filter (λ e. not (e.key == d.key)) ds }) (record r { phase = Lagged }), Ok (Posted d.key true))
sent_to s d ds false r = (changed (record s { due = ds }) (record r { sent = r.sent ++ d.post ∷ [] }), Ok (Posted d.key false))

-- the watcher of a key is there and open
abbrev pub has_open : ℕ → FloorView → Bool
has_open key s = option_map_or (λ (r : Watcher). is_open r.phase) (row_at watcher_key key s.watchers) false

-- a queue is full if this many more posts were sent than taken
abbrev pub is_full : ℕ → Watcher → Bool
is_full capacity r = nat_le (length r.taken + capacity) (length r.sent)

-- the first due post is sent
abbrev pub posted : FloorView → List Due → Stepped
posted s [] = (s, Ok NotNow)
posted s (d ∷ ds) = option_map_or (λ r. sent_to s d ds (is_full s.capacity r) r) (row_at watcher_key d.key s.watchers) (s, Ok NotNow)

-- an accepted command goes into the journal, and its posts are due
abbrev pub replied : FloorView → Command → Result (WorldView × Reply) Fault → Stepped
replied s c (Ok p) = (record s { journal = s.journal ++ c ∷ []; due = due_pairs (posts_of s.journal c) s.watchers }, Ok (Replied p.1))
replied s c (Err f) = (s, Err f)

-- why no command is accepted: the server has stopped, or the journal is full
abbrev pub command_refusal : FloorView → Option Fault
command_refusal s = first_fault (refuse_if s.stopped Stopped ∷ refuse_if (nat_le command_limit (length s.journal)) JournalFull ∷ [])

-- a command is refused if none is accepted, and otherwise by its own refusals
abbrev pub applied : FloorView → Command → Stepped
applied s c = unless (command_refusal s) s (replied s c (step (after s.journal) c))

-- one more watcher, if there is room for it and a key is left
abbrev pub too_many_watchers : FloorView → Bool
too_many_watchers s = nat_le watcher_limit (length s.watchers) || nat_le (2 ^ 64) s.next_key

-- why no watcher begins: its namespace is not there, there are too many, or the server has stopped
abbrev pub opening_refusal : FloorView → Scope → Option Fault
opening_refusal s scope = first_fault (refuse_if (is_missing s.journal scope) NoNamespace ∷ refuse_if (too_many_watchers s) TooManyWatchers ∷ refuse_if s.stopped Stopped ∷ [])

-- a new watcher with the next key
abbrev pub opened : FloorView → Scope → Stepped
opened s scope =
    unless (opening_refusal s scope) s (
      record s {
        next_key = s.next_key + 1;
        watchers = s.watchers ++ record { key = s.next_key; scope = scope; since = length s.journal; opening = opening_of s.journal scope; sent = []; taken = []; phase = IsOpen } ∷ [];
      },
      Ok (Opened s.next_key (opening_of s.journal scope)),
    )

-- the answer if nothing is left to be taken
abbrev pub nothing_left : Phase → Result Answer Fault
nothing_left IsOpen = Ok (Took None)
nothing_left Lagged = Err WasLagged
nothing_left Ended = Err Stopped

-- the next post that was sent is taken
abbrev pub took : FloorView → Watcher → Stepped
took s r = option_map_or (λ p. (changed s (record r { taken = r.taken ++ p ∷ [] }), Ok (Took (Some p)))) (slice_get r.sent (length r.taken)) (s, nothing_left r.phase)

-- how far a watcher is
abbrev pub met : FloorView → Watcher → Stepped
met s r = (s, Ok (Met (record { posted = length r.sent; taken = length r.taken; state = r.phase })))

-- a watcher goes, and what was sent and not taken is answered
abbrev pub closed : FloorView → Watcher → Stepped
closed s r = (record s { watchers = without (λ (q : Watcher). q.key == r.key) s.watchers }, Ok (Closed (drop (length r.taken) r.sent)))

-- a stop ends the open watchers
abbrev pub halted : FloorView → Stepped
halted s = (record s { stopped = true; watchers = map (λ (r : Watcher). record r { phase = cond (is_open r.phase) Ended r.phase }) s.watchers }, Ok Halted)

-- the effect of an event
unfoldable pub floor_step : FloorView → Event → Stepped
floor_step s (Apply c) = if_idle s.due s (applied s c)
floor_step s PostNext = posted s s.due
floor_step s (Open scope) = if_idle s.due s (opened s scope)
floor_step s (Take k) = at_row s k (took s)
floor_step s (Meet k) = if_idle s.due s (at_row s k (met s))
floor_step s (Close k) = if_idle s.due s (at_row s k (closed s))
floor_step s Stop = if_idle s.due s (halted s)

-- the state after events, and their answers
abbrev pub run : FloorView → List Event → FloorView × List (Result Answer Fault)
run s [] = (s, [])
run s (e ∷ es) =
    let a : Stepped = floor_step s e in
    let rest : FloorView × List (Result Answer Fault) = run a.0 es in
    (rest.0, a.1 ∷ rest.1)

-- the floor once nothing is due: the posts that are due were sent, one after another
unfoldable pub settled : FloorView → FloorView
settled s = (run s (replicate (length s.due) PostNext)).0

-- the events that may need memory
abbrev pub takes_memory : Event → Bool
takes_memory (Apply c) = true
takes_memory (Open scope) = true
takes_memory e = false

-- an event found no memory, and was not done
abbrev pub lacked : Event → Result Answer Fault → Bool
lacked e (Err NoMemory) = takes_memory e
lacked e a = false

-- the events that were done, and their answers
abbrev pub done_events : List Event → List (Result Answer Fault) → List Event
done_events (e ∷ es) (a ∷ ans) = cond (lacked e a) (done_events es ans) (e ∷ done_events es ans)
done_events es ans = []

abbrev pub done_answers : List Event → List (Result Answer Fault) → List (Result Answer Fault)
done_answers (e ∷ es) (a ∷ ans) = cond (lacked e a) (done_answers es ans) (a ∷ done_answers es ans)
done_answers es ans = []
