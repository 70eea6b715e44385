-- What the laws of this crate say.
-- A word with no source is this project's rule.
use Rattle.std.specs.Prelude.{◌≡◌, ℕ, Bool, List, Some, IsTrue}
use Rattle.mt_peers.specs.declared.state.Kind.{Kind}
use Rattle.mt_peers.specs.Peers.{Peer, Peering}
use Rattle.mt_peers.specs.Masters.{master_of, reaches}
use Rattle.mt_peers.specs.Loss.{left}
use Rattle.mt_peers.specs.Making.{made}
use Rattle.mt_peers.specs.WellFormed.{IsPeering}

-- a set of groups that holds g and, with each group, all groups whose master it is, and otherwise only groups that g comes to, is the
-- set of those that g comes to (`sharedsubtree`, mount states)
abbrev pub ClosureIsReach : Type 0
ClosureIsReach =
    (es : List Peer) (g : ℕ) (found : ℕ → Bool) → IsTrue (found g)
    → ((h m : ℕ) → master_of es h ≡ Some m → IsTrue (found m) → IsTrue (found h))
    → ((h : ℕ) → IsTrue (found h) → IsTrue (reaches es h g))
    → (h : ℕ) → found h ≡ reaches es h g

-- groups and masters stay in order when any mounts are made of any kind
abbrev pub MakingKeeps : Type 0
MakingKeeps = (p : Peering) → IsPeering p → (k : Kind) (chosen : ℕ → Bool) → IsPeering (made k chosen p)

-- groups and masters stay in order when any mounts leave
abbrev pub LeavingKeeps : Type 0
LeavingKeeps = (p : Peering) → IsPeering p → (gone : ℕ → Bool) → IsPeering (left gone p)
