-- The worlds before and after a command, and what is looked at between them. No public clause cites this module.
-- A word with no source is this project's rule.
use Rattle.std.specs.Prelude.{ℕ, Bool, cond, List, []}
use Rattle.mt_propagate.specs.World.{WorldView}
use Rattle.mt_propagate.specs.WellFormed.{IsWellFormed}
use Rattle.mt_info.specs.Table.{table_of}
use Rattle.mt_events.specs.Posts.{PostView}
use Rattle.mt_events.specs.Difference.{HoldsChanged}
use Rattle.mt_book.specs.Book.{counted, posts_at_change}

-- both worlds, and whether somebody asks for posts
pub record BetweenView : Type 0 where
  pub old : WorldView
  pub new : WorldView
  pub heard : Bool

-- what is always true of them
pub record AreWorlds (b : BetweenView) : Type 0 where
  pub old : IsWellFormed b.old
  pub new : IsWellFormed b.new

-- among these mounts is each one whose row changed in a namespace
abbrev pub HoldsAll : BetweenView → List ℕ → ℕ → Type 0
HoldsAll b ids n = HoldsChanged (table_of b.old n) (table_of b.new n) ids

-- the numbers of namespaces after the command, by those before it
abbrev pub numbers_after : BetweenView → List (ℕ × ℕ) → List (ℕ × ℕ)
numbers_after b rs = counted b.old b.new rs

-- its posts, if somebody asks for them
abbrev pub heard_posts : BetweenView → List (ℕ × ℕ) → List PostView
heard_posts b rs = cond b.heard (posts_at_change b.old b.new rs) []
