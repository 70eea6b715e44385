-- What changed in a world since changes began to be noted.
-- A word with no source is this project's rule.
use Rattle.std.specs.Prelude.{◌≡◌, ℕ, false, List}
use Rattle.mt_skel.specs.Keyed.{among}
use Rattle.mt_mounts.specs.declared.mount.Mount.{Mount}
use Rattle.mt_mounts.specs.Forest.{mount_at}
use Rattle.mt_peers.specs.Peers.{Peer, state_at}
use Rattle.mt_propagate.specs.World.{WorldView}
use Rattle.mt_propagate.specs.FromGroup.{from_group}
use Rattle.mt_propagate.specs.declared.world.World.{World}

-- mounts by rising ID, and states by rising ID of the mount
pub record SinceView : Type 0 where
  pub forest : List Mount
  pub peers : List Peer

-- those that a world had when changes began to be noted
abbrev pub since_view : World → SinceView
since_view w = record { forest = w.forest.since; peers = w.peers.since }

-- those that a world has
abbrev pub since_of : WorldView → SinceView
since_of w = record { forest = w.forest; peers = w.peering.peers }

-- a list holds every mount that came, went or changed, and every mount whose state did so; it may hold more
pub record AreNoted (before after : WorldView) (ids : List ℕ) : Type 0 where
  pub mounts : (i : ℕ) → among ids i ≡ false → mount_at before.forest i ≡ mount_at after.forest i
  pub states : (i : ℕ) → among ids i ≡ false → state_at before.peering.peers i ≡ state_at after.peering.peers i

-- and every mount that tells another group above its master (proc_pid_mountinfo(5), propagate_from)
pub record IsTouched (before after : WorldView) (ids : List ℕ) : Type 0 where
  -- every other mount is as it was, or is in neither world
  pub mounts : (i : ℕ) → among ids i ≡ false → mount_at before.forest i ≡ mount_at after.forest i
  -- and so is its state
  pub states : (i : ℕ) → among ids i ≡ false → state_at before.peering.peers i ≡ state_at after.peering.peers i
  -- and what it tells of the groups above it
  pub tags : (i : ℕ) → among ids i ≡ false → from_group before i ≡ from_group after i
