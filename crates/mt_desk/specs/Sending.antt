-- The posts of one command on their way to the rows of a desk. No public clause cites this module.
-- A word with no source is this project's rule.
use Rattle.std.specs.Prelude.{◌≡◌, ℕ, Bool, false, cond, ◌==◌, List, [], ◌∷◌, set, Some, slice_get}
use Rattle.std.specs.List.{AllByRecursion}
use Rattle.std.specs.Option.{option_map_or}
use Rattle.mt_events.specs.Posts.{PostView}
use Rattle.mt_floor.specs.Watcher.{is_open}
use Rattle.mt_desk.specs.Rows.{PlacedRowView, SendsRow, MayBeSent, desk_row_follows}
use Rattle.mt_desk.specs.Places.{IsUsed}
use Rattle.mt_desk.specs.declared.places.Slot.{Slot}
use Rattle.mt_desk.specs.declared.places.Slot.TheVariants.{Parked, Used, Away}

-- a post that is due to the row at a place
pub record PlaceDue : Type 0 where
  pub place : ℕ
  pub post : PostView

-- a post is due to the row at a place
abbrev pub slot_follows : PostView → Slot → Bool
slot_follows p (Parked l) = false
slot_follows p (Used r) = desk_row_follows p r.row
slot_follows p Away = false

-- the row at a place is open, so that somebody asks for posts
abbrev pub slot_hears : Slot → Bool
slot_hears (Parked l) = false
slot_hears (Used r) = is_open r.row.phase
slot_hears Away = false

-- what of a post is due to the row at a place
abbrev pub due_at : PostView → List Slot → ℕ → List PlaceDue
due_at p slots place = cond (option_map_or (slot_follows p) (slice_get slots place) false) (record { place = place; post = p } ∷ []) []

-- the posts that are due to the row at a place
abbrev pub posts_at : ℕ → List PlaceDue → List PostView
posts_at place [] = []
posts_at place (d ∷ ds) = cond (d.place == place) (d.post ∷ posts_at place ds) (posts_at place ds)

-- what is due is due to rows of the desk, and keeps the order of their watchers' posts
pub record AreDue (slots : List Slot) (ds : List PlaceDue) : Type 0 where
  pub used : AllByRecursion (λ (d : PlaceDue). IsUsed slots d.place) ds
  pub runs : (place : ℕ) (r : PlacedRowView) → slice_get slots place ≡ Some (Used r) → MayBeSent r.row (posts_at place ds)

-- a post is sent to the row at its place
pub record SendsAt (d : PlaceDue) (slots slots' : List Slot) : Type 0 where
  pub row : PlacedRowView
  pub there : slice_get slots d.place ≡ Some (Used row)
  pub now : PlacedRowView
  pub sends : SendsRow row d.post now
  pub slots_are : slots' ≡ set slots d.place (Used now)

-- and all that is due, one after another
abbrev pub SendsAll : List PlaceDue → List Slot → List Slot → Type 0
SendsAll [] slots slots' = slots' ≡ slots
SendsAll (d ∷ ds) slots slots' = (next : List Slot) × SendsAt d slots next × SendsAll ds next slots'
