-- What an iterator over the members of a peer group has left.
-- A word with no source is this project's rule.
use Rattle.std.specs.Prelude.{ℕ, List, [], ◌∷◌, Option, nat_lt}
use Rattle.std.specs.List.{filter}
use Rattle.std.specs.Option.{option_map_or}
use Rattle.mt_peers.specs.declared.iter.PeersOf.{PeersOf}
use Rattle.mt_peers.specs.Peers.{Peer, members}
use Rattle.mt_peers.specs.Members.{group_at}

-- the members above a mount in its group
abbrev pub members_above : List Peer → ℕ → List ℕ
members_above es i = option_map_or (λ g. filter (λ k. nat_lt i k) (members es g)) (group_at es i) []

-- a mount, if there is one, and the members above it in its group
abbrev pub members_from : List Peer → Option ℕ → List ℕ
members_from es m = option_map_or (λ i. i ∷ members_above es i) m []

-- the members that are still to come
abbrev pub coming : PeersOf → List ℕ
coming p = members_from p.peers.now.peers p.next
