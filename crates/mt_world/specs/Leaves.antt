-- A world with one mount more.
-- A word with no source is this project's rule.
use Rattle.std.specs.Prelude.{◌≡◌, ℕ, ◌<◌, ◌≤◌, List, ◌++◌, length, Some}
use Rattle.mt_skel.specs.Keyed.{put}
use Rattle.mt_skel.specs.Skeleton.{Skeleton, Directory, IsSkeleton}
use Rattle.mt_mounts.specs.declared.mount.Mount.{Mount}
use Rattle.mt_mounts.specs.Forest.{id_of, mount_at, roots}
use Rattle.mt_peers.specs.Peers.{mount_of}
use Rattle.mt_propagate.specs.World.{WorldView, private}
use Rattle.mt_propagate.specs.WellFormed.{IsWellFormed}

-- a world is in order: it is well-formed, and so are its directories
pub record IsSound (w : WorldView) : Type 0 where
  pub well_formed : IsWellFormed w
  pub skel : IsSkeleton w.skel

-- a mount has a number, a namespace and a directory that there are
pub record IsGiven (w : WorldView) (m : Mount) : Type 0 where
  pub id : (1 ≤ m.id) × (m.id < w.next_mount)
  pub space : (1 ≤ m.space) × (m.space < w.next_space)
  pub root : m.root < length w.skel.directories

-- one mount more, which is private (mount(2): a new mount, here with the number that it is given)
abbrev pub with_leaf : WorldView → Mount → WorldView
with_leaf w m = record w {
  forest = put id_of m w.forest;
  peering = record w.peering { peers = put mount_of (record { mount = m.id; state = private }) w.peering.peers };
}

-- the second skeleton has the same filesystems and the same room as the first one, and what directories it has more come behind those
pub record HasMore (s t : Skeleton) : Type 0 where
  pub more : List Directory
  pub filesystems : t.filesystems ≡ s.filesystems
  pub room : t.room ≡ s.room
  pub directories : t.directories ≡ s.directories ++ more

-- the second world has what the first one has: its mounts and directories as they are, and the same filesystems
pub record IsGrown (w v : WorldView) : Type 0 where
  pub skel : HasMore w.skel v.skel
  pub mounts : (i : ℕ) (m : Mount) → mount_at w.forest i ≡ Some m → mount_at v.forest i ≡ Some m
  pub count : length w.forest ≤ length v.forest
  pub spaces : length (roots w.forest) ≤ length (roots v.forest)

-- and has given out no numbers of mounts and namespaces
pub record HasSameNumbers (w v : WorldView) : Type 0 where
  pub next_mount : v.next_mount ≡ w.next_mount
  pub next_space : v.next_space ≡ w.next_space
