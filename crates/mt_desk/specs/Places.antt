-- What stands at the places of a desk, and what it is read as. No public clause cites this module.
-- A word with no source is this project's rule.
use Rattle.std.specs.Prelude.{◌≡◌, ℕ, ◌+◌, ◌<◌, ◌≤◌, ◌==◌, Bool, true, List, [], ◌∷◌, length, map, set, Some, slice_get}
use Rattle.std.specs.List.{list_any, AllByRecursion}
use Rattle.std.specs.Option.{option_map_or}
use Rattle.mt_events.specs.Posts.{PostView}
use Rattle.mt_events.specs.declared.opening.Scope.{Scope}
use Rattle.mt_events.specs.declared.opening.Scope.TheVariants.{All}
use Rattle.mt_events.specs.declared.opening.Opening.{Opening}
use Rattle.mt_book.specs.declared.command.Command.{Command}
use Rattle.mt_queue.specs.Halves.{LineId, LineView, ReceiverView, no_line}
use Rattle.mt_floor.specs.declared.watch.Meeting.{Meeting}
use Rattle.mt_desk.specs.Desk.{DeskRow, DeskView, IsDesk}
use Rattle.mt_desk.specs.Rows.{PlacedRowView, begun_row, IsBegunRow, MeetsRow, ClosesRow, ended_row}
use Rattle.mt_desk.specs.declared.places.Slot.{Slot}
use Rattle.mt_desk.specs.declared.places.Slot.TheVariants.{Parked, Used, Away}

-- the line at a place, whether it is in use or not, and how many posts it holds
abbrev pub line_of : Slot → LineId
line_of (Parked l) = l.line
line_of (Used r) = r.line
line_of Away = no_line

abbrev pub capacity_of : Slot → ℕ
capacity_of (Parked l) = l.capacity
capacity_of (Used r) = r.capacity
capacity_of Away = 0

-- nothing is away but while it is changed
abbrev pub IsHere : Slot → Type 0
IsHere (Parked l) = Unit {0}
IsHere (Used r) = Unit {0}
IsHere Away = ⊥

-- a line that is not in use
abbrev pub IsParked : Slot → Type 0
IsParked (Parked l) = Unit {0}
IsParked (Used r) = ⊥
IsParked Away = ⊥

-- what stands for the row of a place that has none
abbrev pub no_row : DeskRow
no_row = begun_row 0 All 0 (record { scope = All; parts = [] })

-- the row at a place
abbrev pub slot_row : Slot → DeskRow
slot_row (Parked l) = no_row
slot_row (Used r) = r.row
slot_row Away = no_row

abbrev pub row_in : List Slot → ℕ → DeskRow
row_in slots place = option_map_or slot_row (slice_get slots place) no_row

-- the rows at these places
abbrev pub rows_at_places : List Slot → List ℕ → List DeskRow
rows_at_places slots order = map (row_in slots) order

-- a desk, as its fields tell it
abbrev pub desk_of : ℕ → List Command → ℕ → Bool → List Slot → List ℕ → DeskView
desk_of capacity journal last_key stopped slots order =
    record { capacity = capacity; journal = journal; next_key = last_key + 1; stopped = stopped; rows = rows_at_places slots order }

-- how many places are in use
abbrev pub use_of : Slot → ℕ
use_of (Parked l) = 0
use_of (Used r) = 1
use_of Away = 0

abbrev pub uses : List Slot → ℕ
uses [] = 0
uses (s ∷ slots) = use_of s + uses slots

-- how many lines a desk has
abbrev pub line_count : ℕ
line_count = 64

-- a line of a desk, in use or not
pub record IsLine (capacity : ℕ) (s : Slot) : Type 0 where
  pub here : IsHere s
  pub capacity_is : capacity_of s ≡ capacity

-- a place with a row
pub record IsUsed (slots : List Slot) (place : ℕ) : Type 0 where
  pub row : PlacedRowView
  pub there : slice_get slots place ≡ Some (Used row)

-- these places have this one
abbrev pub has_place : ℕ → List ℕ → Bool
has_place place order = list_any (λ k. k == place) order

-- The places of a desk: at each a line of its name, and the order tells the places that are in use.
pub record ArePlaces (lines : List LineId) (capacity : ℕ) (slots : List Slot) (order : List ℕ) : Type 0 where
  pub lines_are : map line_of slots ≡ lines
  pub number : length slots ≡ line_count
  pub each : AllByRecursion (IsLine capacity) slots
  pub used : AllByRecursion (IsUsed slots) order
  pub ordered : (place : ℕ) (r : PlacedRowView) → slice_get slots place ≡ Some (Used r) → has_place place order ≡ true
  pub count : length order ≡ uses slots

-- what is always true of a desk
pub record IsKeptDesk (lines : List LineId) (d : DeskView) (slots : List Slot) (order : List ℕ) (room : ℕ) : Type 0 where
  pub places : ArePlaces lines d.capacity slots order
  pub room_is : line_count ≤ room
  pub desk : IsDesk d

-- lines that no desk has yet
pub record LinesView : Type 0 where
  pub lines : List LineId
  pub capacity : ℕ
  pub history : LineId

pub record AreLines (capacity : ℕ) (slots : List Slot) (order : List ℕ) (room : ℕ) : Type 0 where
  pub capacity_is : 0 < capacity
  pub number : length slots ≡ line_count
  pub each : AllByRecursion (IsLine capacity) slots
  pub parked : AllByRecursion IsParked slots
  pub empty : order ≡ []
  pub room_is : line_count ≤ room

-- a watcher's half is of the line at its place, and of the opening that its key tells
pub record IsWatcher (lines : List LineId) (key place : ℕ) (half : ReceiverView) : Type 0 where
  pub line : slice_get lines place ≡ Some half.line
  pub tag : half.tag ≡ key

-- the place of this line
pub record IsPlace (slots : List Slot) (place : ℕ) (line : LineId) : Type 0 where
  pub slot : Slot
  pub there : slice_get slots place ≡ Some slot
  pub here : IsHere slot
  pub line_is : line_of slot ≡ line

-- a line that is not in use, and for whose posts there is room
pub record IsParkedAt (slots : List Slot) (place : ℕ) (room : ℕ) : Type 0 where
  pub line : LineView
  pub there : slice_get slots place ≡ Some (Parked line)
  pub room_is : line.capacity ≤ room

-- a parked line gets the row of a watcher that begins
pub record OpensAt (key : ℕ) (scope : Scope) (since : ℕ) (o : Opening) (slots : List Slot) (place : ℕ) (slots' : List Slot) (half : ReceiverView) : Type 0 where
  pub line : LineView
  pub there : slice_get slots place ≡ Some (Parked line)
  pub row : PlacedRowView
  pub begun : IsBegunRow key scope since o line row half
  pub slots_are : slots' ≡ set slots place (Used row)

-- the row at a place meets its watcher
pub record MeetsAt (slots : List Slot) (place : ℕ) (half : ReceiverView) (slots' : List Slot) (half' : ReceiverView) (m : Meeting) : Type 0 where
  pub row : PlacedRowView
  pub there : slice_get slots place ≡ Some (Used row)
  pub now : PlacedRowView
  pub meets : MeetsRow row half now half' m
  pub slots_are : slots' ≡ set slots place (Used now)

-- the row at a place goes, and its line is parked
pub record ClosesAt (slots : List Slot) (place : ℕ) (half : ReceiverView) (slots' : List Slot) (posts : List PostView) : Type 0 where
  pub row : PlacedRowView
  pub there : slice_get slots place ≡ Some (Used row)
  pub line : LineView
  pub closes : ClosesRow row half line posts
  pub slots_are : slots' ≡ set slots place (Parked line)

-- what stands at a place after a stop
abbrev pub ended_slot : Slot → Slot
ended_slot (Parked l) = Parked l
ended_slot (Used r) = Used (ended_row r)
ended_slot Away = Away
