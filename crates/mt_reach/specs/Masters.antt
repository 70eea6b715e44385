-- What is kept of the masters of groups. No public clause cites this module.
-- A word with no source is this project's rule.
use Rattle.std.specs.Prelude.{◌≡◌, ℕ, nat_eq, List, Option}
use Rattle.std.specs.List.{find}
use Rattle.std.specs.Option.{option_map}
use Rattle.std.specs.declared.hash.FoldHasher.{FoldHasher}
use Rattle.std.specs.declared.hash.BuildHasherDefault.{BuildHasherDefault}
use Rattle.indexmap.specs.IndexMap.{IndexMap, get}
use Rattle.mt_peers.specs.Peers.{Peer, in_group}

-- the master that the members of a group share, if it has members: what its first member tells
abbrev pub told_master : List Peer → ℕ → Option (Option ℕ)
told_master es g = option_map (λ (e : Peer). e.state.master) (find (in_group g) es)

-- what is kept of a group is its master
abbrev pub AreMasters : List Peer → IndexMap ℕ (Option ℕ) (BuildHasherDefault FoldHasher) → Type 0
AreMasters es m = (g : ℕ) → get nat_eq m g ≡ told_master es g
