-- The rule of a line's queue: what was sent is what was taken, followed by what the queue holds. A
-- word with no source is this project's rule.
use Rattle.std.specs.Prelude.{◌≡◌, ℕ, ◌≤◌, true, List, ◌++◌, length}
use mathlib.Core.Option.{some}
use lib.ListN.{get_elem?}
use Rattle.mt_events.specs.Posts.{PostView}
use Rattle.mt_events.specs.Following.{IsRun}
use Rattle.mt_queue.specs.PassViews.{Item, values}
use Rattle.mt_queue.specs.declared.rule.PassView.{PassView}
use Rattle.mt_queue.specs.declared.rule.TaggedOpening.{TaggedOpening}

-- the one pass that may push knows the opening, the capacity and what was sent, and that at least this many posts were taken
abbrev pub KnowsSent : ℕ → TaggedOpening → ℕ → List PostView → List PostView → ℕ → PassView → Type 0
KnowsSent writer o capacity sent taken pass v =
    (pass ≡ writer) × (v.opening ≡ o) × (v.capacity ≡ capacity) × (v.sent ≡ sent) × (v.met ≤ length taken)

-- the one pass that may pop knows the opening and what was taken, and that at least this many posts were sent
abbrev pub KnowsTaken : ℕ → TaggedOpening → List PostView → List PostView → ℕ → PassView → Type 0
KnowsTaken reader o sent taken pass v = (pass ≡ reader) × (v.heard ≡ o) × (v.taken ≡ taken) × (v.told ≤ length sent)

-- what a pass knows is so
abbrev pub Fits : ℕ → ℕ → TaggedOpening → ℕ → List PostView → List PostView → ℕ → PassView → Type 0
Fits writer reader o capacity sent taken pass v =
    (v.pushes ≡ true → KnowsSent writer o capacity sent taken pass v) × (v.pops ≡ true → KnowsTaken reader o sent taken pass v)

-- The rule: of the items that a queue holds, oldest first, and of what its passes know, each in its place
pub record KeepsRule (items : List Item) (views : List PassView) : Type 0 where
  -- the pass that may push, and the one that may pop
  pub writer : ℕ
  pub reader : ℕ
  -- what they know
  pub opening : TaggedOpening
  pub capacity : ℕ
  pub sent : List PostView
  pub taken : List PostView
  pub each : (pass : ℕ) (v : PassView) → get_elem? views pass ≡ some v → Fits writer reader opening capacity sent taken pass v
  -- what was sent is what was taken, followed by what the queue holds, which is no more than it may
  -- hold
  pub split : sent ≡ taken ++ values items
  pub held : length items ≤ capacity
  -- and it is a run from the opening
  pub run : IsRun opening.opening sent
