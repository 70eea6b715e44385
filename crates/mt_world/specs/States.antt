-- Which state a mount can have.
-- A word with no source is this project's rule.
use Rattle.std.specs.Prelude.{◌≡◌, ◌⊎◌, ℕ, ◌<◌, false, IsTrue, List, length, slice_get, Option, Some, None}
use Rattle.mt_mounts.specs.declared.mount.Mount.{Mount}
use Rattle.mt_mounts.specs.Forest.{mount_at}
use Rattle.mt_peers.specs.declared.state.State.{State}
use Rattle.mt_peers.specs.Peers.{state_at, has_member, with_state}
use Rattle.mt_propagate.specs.World.{WorldView, private, state_of}
use Rattle.mt_propagate.specs.WellFormed.{IsWellFormed, fs_at}
use Rattle.mt_world.specs.declared.misfit.Misfit.{Misfit}
use Rattle.mt_world.specs.declared.misfit.Misfit.TheVariants.{NoMaster}
use Rattle.mt_world.specs.declared.row.TableRow.{TableRow}
use Rattle.mt_world.specs.Kept.{keeps_row}

-- a mount is a member of a group, has this master, and shows this filesystem
pub record HasMember (w : WorldView) (group fs : ℕ) : Type 0 where
  pub mount : ℕ
  pub state : State
  pub there : state_at w.peering.peers mount ≡ Some state
  pub grouped : state.group ≡ Some group
  pub shows : fs_at w mount ≡ fs

-- a mount can have a state (`sharedsubtree`, mount states): an unbindable one has no group and no master, a group has one master and one filesystem, and a
-- master has a member, which shows that filesystem
pub record MayHave (w : WorldView) (mount : ℕ) (s : State) : Type 0 where
  pub alone : IsTrue s.unbindable → (s.group ≡ None) × (s.master ≡ None)
  pub group : (g : ℕ) → s.group ≡ Some g → (g < w.peering.next) × ((has_member w.peering.peers g ≡ false) ⊎ ((m : HasMember w g (fs_at w mount)) × (m.state.master ≡ s.master)))
  pub master : (g : ℕ) → s.master ≡ Some g → HasMember w g (fs_at w mount)

-- a mount that was private has another state, and all else stays
abbrev pub with_joined : WorldView → ℕ → State → WorldView
with_joined w mount s = record w { peering = record w.peering { peers = with_state mount s w.peering.peers } }

-- ---- the states of the rows that are kept

-- the mounts of the rows that are kept are there, one each
pub record AreThere (w : WorldView) (rows : List TableRow) (left : List (Option Misfit)) : Type 0 where
  pub there : (k : ℕ) (r : TableRow) → slice_get rows k ≡ Some r → keeps_row left k → (m : Mount) × (mount_at w.forest r.id ≡ Some m)
  pub apart : (j k : ℕ) (r s : TableRow) → slice_get rows j ≡ Some r → slice_get rows k ≡ Some s → keeps_row left j → keeps_row left k → r.id ≡ s.id → j ≡ k

-- each has the state that its row tells, or is private for a reason
pub record AreJoined (w : WorldView) (rows : List TableRow) (left lone : List (Option Misfit)) : Type 0 where
  pub well_formed : IsWellFormed w
  pub there : AreThere w rows left
  pub sized : length lone ≡ length rows
  pub joined : (k : ℕ) (r : TableRow) → slice_get rows k ≡ Some r → keeps_row left k → slice_get lone k ≡ Some None → state_of w r.id ≡ r.state
  pub private : (k : ℕ) (r : TableRow) (why : Misfit) → slice_get rows k ≡ Some r → keeps_row left k → slice_get lone k ≡ Some (Some why) → state_of w r.id ≡ private

-- only states changed
abbrev pub IsSameButStates : WorldView → WorldView → Type 0
IsSameButStates w v = v ≡ record w { peering = v.peering }

-- before any has a state, all of them are private, and wait for a master
abbrev pub ArePrivate : WorldView → List TableRow → List (Option Misfit) → Type 0
ArePrivate w rows left = (k : ℕ) (r : TableRow) → slice_get rows k ≡ Some r → keeps_row left k → state_of w r.id ≡ private

abbrev pub waits_if_kept : Option Misfit → Option Misfit
waits_if_kept None = Some NoMaster
waits_if_kept (Some why) = None
