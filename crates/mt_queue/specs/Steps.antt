-- What each kind of step on a line's queue does to what its pass knows, and what it teaches.
-- A word with no source is this project's rule.
use Rattle.std.specs.Prelude.{◌≡◌, ◌+◌, ◌≤◌, List, [], ◌∷◌, ◌++◌, length}
use Rattle.std.specs.Arc.{arc_value}
use Rattle.mt_events.specs.Posts.{PostView}
use Rattle.mt_events.specs.Following.{IsRun}
use Rattle.mt_queue.specs.PassViews.{Item, values}
use Rattle.mt_queue.specs.declared.rule.PassView.{PassView}

-- a push adds the post at the end of what was sent (`push` of `ArrayQueue`, crossbeam-queue)
abbrev pub IsPushed : PassView → Item → PassView → Type 0
IsPushed v x w = w ≡ record v { sent = v.sent ++ arc_value x ∷ [] }

-- a push that is refused as full (by the same source): more was sent than the last meeting said was taken, by at least as many items
-- as the queue holds
abbrev pub IsFilled : PassView → List Item → Type 0
IsFilled v items = v.met + length items ≤ length v.sent

-- a pop adds the front to what was taken, which stays a run (`pop` of `ArrayQueue`, crossbeam-queue)
abbrev pub IsPopped : PassView → Item → PassView → Type 0
IsPopped v x w = (w ≡ record v { taken = v.taken ++ arc_value x ∷ [] }) × IsRun v.heard.opening (v.taken ++ arc_value x ∷ [])

-- a pop of none (by the same source): the last meeting said that no more was sent than what was taken plus as many items as the queue
-- holds
abbrev pub IsDrained : PassView → List Item → Type 0
IsDrained v items = v.told ≤ length v.taken + length items

-- a look by the pass that knows both lists: the rule over both
pub record IsBalanced (v : PassView) (items : List Item) : Type 0 where
  pub opening : v.opening ≡ v.heard
  pub split : v.sent ≡ v.taken ++ values items
  pub held : length items ≤ v.capacity
  pub met : v.met ≤ length v.taken
  pub told : v.told ≤ length v.sent
  pub run : IsRun v.opening.opening v.sent

-- a pop by the pass that knows both lists: the front is the next of what was sent
abbrev pub IsPoppedLeft : PassView → Item → PassView → Type 0
IsPoppedLeft v x w = (w ≡ record v { taken = v.taken ++ arc_value x ∷ [] }) × ((rest : List PostView) × (v.sent ≡ (v.taken ++ arc_value x ∷ []) ++ rest))
