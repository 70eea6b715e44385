-- What is always true of a floor.
-- A word with no source is this project's rule.
use Rattle.std.specs.Prelude.{◌≡◌, ℕ, ◌^◌, ◌≤◌, false, cond, nat_lt, List, [], ◌++◌, length, take, Some, IsTrue}
use Rattle.std.specs.List.{list_all}
use Rattle.mt_skel.specs.Keyed.{row_at, rises}
use Rattle.mt_events.specs.Posts.{PostView}
use Rattle.mt_floor.specs.declared.event.Event.{Event}
use Rattle.mt_floor.specs.Watcher.{Watcher, watcher_key, is_open, due_for, opening_of, followed}
use Rattle.mt_floor.specs.Schedule.{FloorView, watcher_limit, empty_floor, has_open, floor_step}
use Rattle.mt_book.specs.Book.{command_limit}

-- what is always true of a watcher on a floor
pub record IsFollower (s : FloorView) (r : Watcher) : Type 0 where
  -- it found what the commands before its opening had left
  pub since : r.since ≤ length s.journal
  pub opening : r.opening ≡ opening_of (take r.since s.journal) r.scope
  -- what it took is a prefix of what was sent to it
  pub not_taken : List PostView
  pub taken : r.sent ≡ r.taken ++ not_taken
  -- and this is a prefix of its followed posts; if it is open, the rest is due
  pub not_posted : List PostView
  pub posted : followed r s.journal ≡ r.sent ++ not_posted
  pub due : due_for r.key s.due ≡ cond (is_open r.phase) not_posted []

-- how large a floor can be
pub record IsBounded (s : FloorView) : Type 0 where
  pub journal : length s.journal ≤ command_limit
  pub watchers : length s.watchers ≤ watcher_limit
  pub keys : s.next_key ≤ 2 ^ 64

-- what is always true of a floor
pub record IsFloor (s : FloorView) : Type 0 where
  -- watchers stand by rising key, and keys count from 1
  pub rising : IsTrue (rises watcher_key s.watchers)
  pub below : IsTrue (list_all (λ (r : Watcher). nat_lt r.key s.next_key) s.watchers)
  pub from_one : 1 ≤ s.next_key
  pub rows : (key : ℕ) (r : Watcher) → row_at watcher_key key s.watchers ≡ Some r → IsFollower s r
  pub bounds : IsBounded s
  -- nothing is due to a key without an open watcher
  pub idle : (key : ℕ) → has_open key s ≡ false → due_for key s.due ≡ []

-- a floor on which nothing was done is well-formed, and each event keeps it so
pub record FloorsStay : Type 0 where
  pub begins : (capacity : ℕ) → IsFloor (empty_floor capacity)
  pub stays : (s : FloorView) (e : Event) → IsFloor s → IsFloor (floor_step s e).0

-- no list of a watcher is longer than a number of 64 bits can tell
abbrev pub ListsAreShort : Type 0
ListsAreShort = (s : FloorView) (key : ℕ) (r : Watcher) → IsFloor s → row_at watcher_key key s.watchers ≡ Some r → (length r.taken ≤ length r.sent) × (length r.sent ≤ 2 ^ 40)
