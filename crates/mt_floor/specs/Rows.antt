-- What a floor keeps of its watchers, and what it is read as.
-- A word with no source is this project's rule.
use Rattle.std.specs.Prelude.{ℕ, ◌+◌, ◌-◌, ◌≤◌, cond, ◌&&◌, List, [], ◌∷◌, ◌++◌, map, length, take, drop, Bool}
use Rattle.std.specs.List.{AllByRecursion}
use Rattle.mt_events.specs.Posts.{PostView}
use Rattle.mt_events.specs.declared.opening.Scope.{Scope}
use Rattle.mt_events.specs.Following.{names_space}
use Rattle.mt_book.specs.declared.command.Command.{Command}
use Rattle.mt_floor.specs.declared.watch.Phase.{Phase}
use Rattle.mt_floor.specs.declared.watch.Phase.TheVariants.{Open as IsOpen, Lagged, Ended}
use Rattle.mt_floor.specs.Watcher.{Watcher, Due, is_open, opening_of, followed_posts}
use Rattle.mt_floor.specs.Schedule.{FloorView}
use Rattle.mt_floor.specs.WellFormed.{IsFloor}

-- a row: how many posts its watcher has taken, those that were sent and not taken, and for how many more there is room
pub record FloorRowView : Type 0 where
  pub key : ℕ
  pub scope : Scope
  pub since : ℕ
  pub taken : ℕ
  pub waiting : List PostView
  pub room : ℕ
  pub phase : Phase

-- the row of a watcher that begins
abbrev pub new_floor_row : ℕ → Scope → ℕ → ℕ → FloorRowView
new_floor_row key scope since capacity = record { key = key; scope = scope; since = since; taken = 0; waiting = []; room = capacity; phase = IsOpen }

-- a row with one more post
abbrev pub with_post : FloorRowView → PostView → FloorRowView
with_post r p = record r { waiting = r.waiting ++ p ∷ []; room = r.room - 1 }

-- a row that lags
abbrev pub lagged : FloorRowView → FloorRowView
lagged r = record r { phase = Lagged }

-- a row after a stop
abbrev pub row_after_stop : FloorRowView → FloorRowView
row_after_stop r = record r { phase = cond (is_open r.phase) Ended r.phase }

-- a row once its next post was taken, if there is one
abbrev pub next_taken : List PostView → FloorRowView → FloorRowView
next_taken [] r = r
next_taken (p ∷ ps) r = record r { taken = r.taken + 1; waiting = ps; room = r.room + 1 }

-- a post is due to the watcher of a row
abbrev pub row_follows : PostView → FloorRowView → Bool
row_follows p r = is_open r.phase && names_space r.scope p.space

abbrev pub due_if : PostView → FloorRowView → List Due
due_if p r = cond (row_follows p r) (record { post = p; key = r.key } ∷ []) []

-- the watcher of a row, after these commands: it has taken the first of its followed posts, and the others that were sent wait
abbrev pub watcher_of : List Command → FloorRowView → Watcher
watcher_of journal r =
    let followed : List PostView = followed_posts r.scope (take r.since journal) (drop r.since journal) in
    record {
      key = r.key;
      scope = r.scope;
      since = r.since;
      opening = opening_of (take r.since journal) r.scope;
      sent = take r.taken followed ++ r.waiting;
      taken = take r.taken followed;
      phase = r.phase;
    }

-- a floor: keys were given out up to the last one
abbrev pub floor_of : ℕ → List Command → ℕ → Bool → List FloorRowView → List Due → FloorView
floor_of capacity journal last_key stopped rows due =
    record { capacity = capacity; journal = journal; next_key = last_key + 1; stopped = stopped; watchers = map (watcher_of journal) rows; due = due }

-- a watcher of this floor has taken no more than its followed posts, and there is room for as many as may wait
pub record IsFloorRow (capacity : ℕ) (journal : List Command) (r : FloorRowView) : Type 0 where
  pub since : r.since ≤ length journal
  pub taken : r.taken ≤ length (followed_posts r.scope (take r.since journal) (drop r.since journal))
  pub room : capacity ≤ length r.waiting + r.room

-- what is always true of a floor
pub record IsKeptFloor (capacity : ℕ) (journal : List Command) (last_key : ℕ) (stopped : Bool) (rows : List FloorRowView) (due : List Due) : Type 0 where
  pub floor : IsFloor (floor_of capacity journal last_key stopped rows due)
  pub each : AllByRecursion (IsFloorRow capacity journal) rows
