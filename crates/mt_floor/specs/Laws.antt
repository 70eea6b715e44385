-- What else is true of every list of events.
-- A word with no source is this project's rule.
use Rattle.std.specs.Prelude.{◌≡◌, ℕ, ◌<◌, List, ◌++◌, length, take, Some, slice_get, Ok}
use Rattle.mt_events.specs.Posts.{PostView}
use Rattle.mt_events.specs.declared.opening.Opening.{Opening}
use Rattle.mt_floor.specs.declared.watch.Meeting.{Meeting}
use Rattle.mt_floor.specs.declared.event.Event.{Event}
use Rattle.mt_floor.specs.declared.event.Event.TheVariants.{Meet, Close}
use Rattle.mt_floor.specs.declared.event.Answer.TheVariants.{Opened, Met, Closed}
use Rattle.mt_floor.specs.Schedule.{FloorView, run}
use Rattle.mt_floor.specs.Headline.{answers, taken_since, posted_since}

-- what a meeting and a close tell of the watcher of a key that began at an event
pub record IsTold (capacity : ℕ) (es : List Event) (at key : ℕ) : Type 0 where
  -- a meeting tells how many posts were posted to it and how many it has taken
  pub met : (n : ℕ) (m : Meeting) → at < n → slice_get es n ≡ Some (Meet key) → slice_get (answers capacity es) n ≡ Some (Ok (Met m))
      → (m.posted ≡ length (posted_since capacity (take n es) at key)) × (m.taken ≡ length (taken_since capacity (take n es) at key))
  -- a close answers what was posted to it and not taken
  pub closed : (n : ℕ) (ps : List PostView) → at < n → slice_get es n ≡ Some (Close key) → slice_get (answers capacity es) n ≡ Some (Ok (Closed ps))
      → posted_since capacity (take n es) at key ≡ taken_since capacity (take n es) at key ++ ps

abbrev pub MeetingsTell : Type 0
MeetingsTell = (capacity : ℕ) (es : List Event) (at key : ℕ) (o : Opening) → slice_get (answers capacity es) at ≡ Some (Ok (Opened key o)) → IsTold capacity es at key

-- no two answers begin a watcher with the same key
abbrev pub KeysOnce : Type 0
KeysOnce =
    (capacity : ℕ) (es : List Event) (i j key : ℕ) (o p : Opening) → slice_get (answers capacity es) i ≡ Some (Ok (Opened key o)) → slice_get (answers capacity es) j ≡ Some (Ok (Opened key p)) → i ≡ j

-- events in two lists leave the same floor and give the same answers as in one
pub record RunsJoin : Type 0 where
  pub state : (s : FloorView) (xs ys : List Event) → (run s (xs ++ ys)).0 ≡ (run (run s xs).0 ys).0
  pub told : (s : FloorView) (xs ys : List Event) → (run s (xs ++ ys)).1 ≡ (run s xs).1 ++ (run (run s xs).0 ys).1
