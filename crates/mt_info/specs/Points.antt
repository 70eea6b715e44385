-- What is kept of where mounts stand. No public clause cites this module.
-- A word with no source is this project's rule.
use Rattle.std.specs.Prelude.{◌≡◌, ℕ, List, nat_eq, IfSome}
use Rattle.std.specs.declared.hash.FoldHasher.{FoldHasher}
use Rattle.std.specs.declared.hash.BuildHasherDefault.{BuildHasherDefault}
use Rattle.indexmap.specs.IndexMap.{IndexMap, get}
use Rattle.mt_propagate.specs.World.{WorldView}
use Rattle.mt_info.specs.Table.{mount_point}

-- what is kept of a mount is its mount point
abbrev pub ArePoints : WorldView → IndexMap ℕ (List (List ℕ)) (BuildHasherDefault FoldHasher) → Type 0
ArePoints w m = (i : ℕ) → IfSome (get nat_eq m i) (λ point. point ≡ mount_point w i)
