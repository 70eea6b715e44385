-- Groups that a worklist enters at the slaves of another, each only at its first member, and what it collects there. A word with no
-- source is this project's rule.
use Rattle.std.specs.Prelude.{ℕ, Bool, false, cond, not, ◌&&◌, ◌==◌, List, Option, Some, None}
use Rattle.std.specs.List.{filter, filter_map}
use Rattle.std.specs.Option.{option_and_then, option_map_or}
use Rattle.mt_peers.specs.Peers.{Peer, has_master, in_group, names}
use Rattle.mt_peers.specs.Masters.{reaches}
use Rattle.mt_peers.specs.Members.{is_first}

-- the group that is entered at a mount whose own group is this: its own, if that is not g, where the search began, and the mount is
-- its first member
abbrev pub entered : List Peer → ℕ → ℕ → Option ℕ → Option ℕ
entered es g i own = option_and_then (λ h. cond (not (h == g) && is_first es h i) (Some h) None) own

-- the groups that are entered at the slaves of a group
abbrev pub entered_by : List Peer → ℕ → ℕ → List ℕ
entered_by es g m = filter_map (λ (e : Peer). entered es g e.mount e.state.group) (filter (has_master m) es)

-- a mount has a master to which the group g comes (`sharedsubtree`, mount states)
abbrev pub gets_above : List Peer → ℕ → Peer → Bool
gets_above es g e = option_map_or (λ m. reaches es m g) e.state.master false

-- a slave that is collected, given its own group: one that passes the test and is not of the group where the search began
abbrev pub collected_slave : (ℕ → Bool) → ℕ → ℕ → Option ℕ → Option ℕ
collected_slave t g i own = cond (t i && not (names own g)) (Some i) None

-- a mount that is collected as a slave, if it is this one
abbrev pub other_at : (ℕ → Bool) → ℕ → ℕ → Peer → Bool
other_at t g q e = (t e.mount && not (in_group g e)) && (e.mount == q)
