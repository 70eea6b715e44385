-- What is kept of mounts that a recursive bind has judged. No public clause cites this module.
-- A word with no source is this project's rule.
use Rattle.std.specs.Prelude.{◌≡◌, ℕ, Bool, nat_eq, Some}
use Rattle.std.specs.declared.hash.FoldHasher.{FoldHasher}
use Rattle.std.specs.declared.hash.BuildHasherDefault.{BuildHasherDefault}
use Rattle.indexmap.specs.IndexMap.{IndexMap, get}
use Rattle.mt_mounts.specs.declared.mount.Place.{Place}
use Rattle.mt_propagate.specs.World.{WorldView}
use Rattle.mt_bind.specs.Sources.{is_bound_along}

-- what is kept of a mount is whether it is bound
abbrev pub IsJudged : WorldView → Place → IndexMap ℕ Bool (BuildHasherDefault FoldHasher) → Type 0
IsJudged w p judged = (i : ℕ) (bound : Bool) → get nat_eq judged i ≡ Some bound → bound ≡ is_bound_along w p i
