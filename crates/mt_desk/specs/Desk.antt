-- What contracts see of a desk, and the floor that it is.
-- A word with no source is this project's rule.
use Rattle.std.specs.Prelude.{◌≡◌, ℕ, ◌+◌, ◌<◌, ◌≤◌, Bool, true, cond, List, [], ◌∷◌, ◌++◌, map, length}
use Rattle.std.specs.List.{AllByRecursion}
use Rattle.mt_events.specs.Posts.{PostView}
use Rattle.mt_events.specs.declared.opening.Scope.{Scope}
use Rattle.mt_events.specs.declared.opening.Opening.{Opening}
use Rattle.mt_book.specs.declared.command.Command.{Command}
use Rattle.mt_floor.specs.declared.watch.Phase.{Phase}
use Rattle.mt_floor.specs.declared.watch.Phase.TheVariants.{Open as IsOpen, Lagged, Ended}
use Rattle.mt_floor.specs.declared.event.Event.{Event}
use Rattle.mt_floor.specs.Watcher.{Watcher, is_open, opening_of}
use Rattle.mt_floor.specs.Schedule.{FloorView}
use Rattle.mt_floor.specs.WellFormed.{IsFloor}
use Rattle.mt_floor.specs.Headline.{answers, floor_after, accepted}
use Rattle.mt_desk.specs.Late.{late}

-- The row of a watcher: what it found, what was sent to it, and how many of these posts it had taken at its last meeting; `met_in_time` is the same, but
-- stays what it was when the row began to lag.
pub record DeskRow : Type 0 where
  pub key : ℕ
  pub scope : Scope
  pub since : ℕ
  pub opening : Opening
  pub sent : List PostView
  pub met : ℕ
  pub met_in_time : ℕ
  pub phase : Phase

-- a desk: how many posts a queue holds, the accepted commands, and the rows of its watchers by rising key
pub record DeskView : Type 0 where
  pub capacity : ℕ
  pub journal : List Command
  pub next_key : ℕ
  pub stopped : Bool
  pub rows : List DeskRow

-- a row goes by its key
abbrev pub row_key : DeskRow → ℕ
row_key r = r.key

-- a row as a watcher of the floor, with its takes placed as late as they can be
abbrev pub late_watcher : ℕ → DeskRow → Watcher
late_watcher capacity r = record {
  key = r.key;
  scope = r.scope;
  since = r.since;
  opening = r.opening;
  sent = r.sent;
  taken = late capacity r.met r.sent;
  phase = r.phase;
}

-- the floor that a desk is between two calls, when nothing is due
abbrev pub floor_of_desk : DeskView → FloorView
floor_of_desk d =
    record { capacity = d.capacity; journal = d.journal; next_key = d.next_key; stopped = d.stopped; watchers = map (late_watcher d.capacity) d.rows; due = [] }

-- a row lags only where a push found its queue full, so that more was sent than taken in time by the capacity at least
abbrev pub IsInTime : ℕ → ℕ → ℕ → ℕ → Phase → Type 0
IsInTime capacity sent met in_time IsOpen = in_time ≡ met
IsInTime capacity sent met in_time Ended = in_time ≡ met
IsInTime capacity sent met in_time Lagged = (in_time ≤ met) × (in_time + capacity ≤ sent)

-- what a row keeps of its meetings
pub record IsDeskRow (capacity : ℕ) (r : DeskRow) : Type 0 where
  pub met : r.met ≤ length r.sent
  pub in_time : IsInTime capacity (length r.sent) r.met r.met_in_time r.phase

-- Events lead to the floor of a desk from one with nothing done, and the commands accepted in them are the desk's journal.
pub record HasHistory (d : DeskView) : Type 0 where
  pub events : List Event
  pub floor : floor_of_desk d ≡ floor_after d.capacity events
  pub journal : d.journal ≡ accepted events (answers d.capacity events)

-- What is always true of a desk. By its floor, what was sent to a row is a prefix of its followed posts, and all of them while it is open.
pub record IsDesk (d : DeskView) : Type 0 where
  pub floor : IsFloor (floor_of_desk d)
  pub room : 0 < d.capacity
  pub rows : AllByRecursion (IsDeskRow d.capacity) d.rows
  pub history : HasHistory d

-- the row of a watcher that begins
abbrev pub new_desk_row : DeskView → Scope → DeskRow
new_desk_row d scope = record { key = d.next_key; scope = scope; since = length d.journal; opening = opening_of d.journal scope; sent = []; met = 0; met_in_time = 0; phase = IsOpen }

-- a desk with a watcher more
abbrev pub with_watcher : DeskView → Scope → DeskView
with_watcher d scope = record d { next_key = d.next_key + 1; rows = d.rows ++ new_desk_row d scope ∷ [] }

-- a row after a stop: one that was open has ended
abbrev pub desk_row_after_stop : DeskRow → DeskRow
desk_row_after_stop r = record r { phase = cond (is_open r.phase) Ended r.phase }

-- a desk after a stop
abbrev pub halted_desk : DeskView → DeskView
halted_desk d = record d { stopped = true; rows = map desk_row_after_stop d.rows }
