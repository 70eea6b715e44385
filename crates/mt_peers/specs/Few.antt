-- A change that settles no master, and is written mount by mount. No public clause cites this module.
-- A word with no source is this project's rule.
use Rattle.std.specs.Prelude.{ℕ, ◌+◌, Bool, cond, ◌&&◌, ◌||◌, map, length, is_none, nat_eq}
use Rattle.std.specs.Option.{option_eq}
use Rattle.mt_peers.specs.declared.state.State.{State}
use Rattle.mt_peers.specs.declared.state.Kind.{Kind}
use Rattle.mt_peers.specs.Peers.{Peering}
use Rattle.mt_peers.specs.Making.{changed_peer, is_shared, groupless}

-- a mount keeps its master, and its group if it has one
abbrev pub gains : State → State → Bool
gains s t = option_eq nat_eq s.master t.master && (is_none s.group || option_eq nat_eq s.group t.group)

-- the states once all chosen mounts were made so, and before masters are settled
abbrev pub unsettled : Kind → (ℕ → Bool) → Peering → Peering
unsettled k chosen p = record {
  peers = map (changed_peer k chosen p) p.peers;
  next = cond (is_shared k) (p.next + length (groupless chosen p.peers)) p.next;
}
