-- What is kept of the groups that were looked for. No public clause cites this module.
-- A word with no source is this project's rule.
use Rattle.std.specs.Prelude.{◌≡◌, ℕ, Bool, ◌==◌, ◌&&◌, Option, IfSome}
use Rattle.std.specs.declared.hash.FoldHasher.{FoldHasher}
use Rattle.std.specs.declared.hash.BuildHasherDefault.{BuildHasherDefault}
use Rattle.indexmap.specs.IndexMap.{IndexMap, get}
use Rattle.mt_propagate.specs.World.{WorldView}
use Rattle.mt_propagate.specs.FromGroup.{nearest_seen}
use Rattle.mt_propagate.specs.declared.seen_groups.Search.{Search}

-- the same namespace and group
abbrev pub search_eq : Search → Search → Bool
search_eq s t = (s.space == t.space) && (s.group == t.group)

-- what is kept is what the world has
abbrev pub AreNearest : WorldView → IndexMap Search (Option ℕ) (BuildHasherDefault FoldHasher) → Type 0
AreNearest w m = (s : Search) → IfSome (get search_eq m s) (λ g. g ≡ nearest_seen w s.space s.group)
