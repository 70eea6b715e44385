-- Members and slaves of a group as they are gone through: the first, and what follows one.
-- A word with no source is this project's rule.
use Rattle.std.specs.Prelude.{ℕ, Bool, false, List, Option}
use Rattle.std.specs.Option.{option_and_then, option_map_or}
use Rattle.mt_lists.specs.Lists.{first, above}
use Rattle.mt_peers.specs.declared.state.State.{State}
use Rattle.mt_peers.specs.Peers.{Peer, names, state_at, members, slaves}

-- the group of a mount
abbrev pub group_at : List Peer → ℕ → Option ℕ
group_at es i = option_and_then (λ (s : State). s.group) (state_at es i)

-- the master of a mount
abbrev pub master_at : List Peer → ℕ → Option ℕ
master_at es i = option_and_then (λ (s : State). s.master) (state_at es i)

-- the first member of a group above a mount
abbrev pub next_member : List Peer → ℕ → ℕ → Option ℕ
next_member es g i = above i (members es g)

-- the first slave of a group above a mount
abbrev pub next_slave : List Peer → ℕ → ℕ → Option ℕ
next_slave es g i = above i (slaves es g)

-- the member that follows a mount in its group
abbrev pub member_after : List Peer → ℕ → Option ℕ
member_after es i = option_and_then (λ g. next_member es g i) (group_at es i)

-- the slave that follows a mount among those of its master
abbrev pub slave_after : List Peer → ℕ → Option ℕ
slave_after es i = option_and_then (λ m. next_slave es m i) (master_at es i)

-- a mount is the first member of a group
abbrev pub is_first : List Peer → ℕ → ℕ → Bool
is_first es g i = names (first (members es g)) i

-- a mount is a slave of its own group, which never happens in a world that is in order
abbrev pub is_own_slave : List Peer → ℕ → Bool
is_own_slave es i = option_map_or (λ g. names (master_at es i) g) (group_at es i) false
