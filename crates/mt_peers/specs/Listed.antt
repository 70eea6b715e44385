-- How `Peers` keep lists beside the states: of each group's members, and of each group's slaves. No public clause cites this
-- module.
-- A word with no source is this project's rule.
use Rattle.std.specs.Prelude.{◌≡◌, ℕ, Bool, true, List, Option, Some, IsTrue}
use Rattle.mt_skel.specs.Keyed.{rises}
use Rattle.mt_lists.specs.Lists.{ListRow}
use Rattle.mt_lists.specs.Numbered.{rows_by}
use Rattle.mt_lists.specs.Log.{AreAlikeBut}
use Rattle.mt_peers.specs.declared.state.State.{State}
use Rattle.mt_peers.specs.Peers.{Peer, mount_of, state_at, has_member}

-- the number of a mount in the list of members
abbrev pub peer_group : Peer → Option ℕ
peer_group e = e.state.group

-- the number of a mount in the list of slaves
abbrev pub leader_of : Peer → Option ℕ
leader_of e = e.state.master

-- both lists are those of the states
pub record IsListed (es : List Peer) (members slaves : List ListRow) : Type 0 where
  pub rising : IsTrue (rises mount_of es)
  pub members_told : members ≡ rows_by mount_of peer_group es
  pub slaves_told : slaves ≡ rows_by mount_of leader_of es

-- each master has a member
pub record MastersLive (es : List Peer) : Type 0 where
  pub lives : (i : ℕ) (s : State) (g : ℕ) → state_at es i ≡ Some s → s.master ≡ Some g → has_member es g ≡ true

-- both lists are those of the states, each mount whose state is not as it was is noted, and what is said of masters is so
pub record IsKeptPeers (es : List Peer) (members slaves : List ListRow) (since : List Peer) (noted : List ℕ) (live : Bool) : Type 0 where
  pub listed : IsListed es members slaves
  pub known : AreAlikeBut noted (state_at since) (state_at es)
  pub led : live ≡ true → MastersLive es
