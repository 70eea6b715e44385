-- Copies of mounts in a namespace of their own, mount by mount, given the IDs of the mounts that are copied.
-- A word with no source is this project's rule.
use Rattle.std.specs.Prelude.{ℕ, ◌+◌, Bool, cond, List, ◌++◌, map, length, None, nat_eq}
use Rattle.std.specs.Option.{option_map, option_or}
use Rattle.mt_skel.specs.Keyed.{numbered}
use Rattle.mt_mounts.specs.declared.mount.Mount.{Mount}
use Rattle.mt_mounts.specs.Forest.{id_of}
use Rattle.mt_peers.specs.declared.state.State.{State}
use Rattle.mt_peers.specs.Peers.{Peer}
use Rattle.mt_propagate.specs.World.{WorldView, state_of}

-- a copy is a peer of its original or a slave of its master (`sharedsubtree`, clone namespace); in a less privileged
-- namespace a copy of a shared mount is a slave of its group (mount_namespaces(7), restrictions on mount namespaces)
abbrev pub state_of_copy : Bool → State → State
state_of_copy less s = cond less (record s { group = None; master = option_or s.group s.master }) s

module _ (w : WorldView) (ids : List ℕ) where
  -- copies are numbered in the order of the mounts
  abbrev pub copy_number : ℕ → ℕ
  copy_number i = numbered nat_eq w.next_mount ids i

  -- a copy stands in the new namespace at the corresponding place, with the same root and attributes (mount_namespaces(7): the
  -- mount list of the new namespace is a copy)
  abbrev pub copy_of : Mount → Mount
  copy_of m = record m { id = copy_number m.id; space = w.next_space; place = option_map (λ p. record { mount = copy_number p.mount; dir = p.dir }) m.place }

  -- the copy of a mount has the state that a copy of its state is (`sharedsubtree`, clone namespace)
  abbrev pub peer_of : Bool → Mount → Peer
  peer_of less m = record { mount = copy_number m.id; state = state_of_copy less (state_of w m.id) }

-- one namespace more, of copies of these mounts, which may be less privileged (`sharedsubtree`, clone namespace)
unfoldable pub with_copies : WorldView → List Mount → Bool → WorldView
with_copies w sources less = record w {
  forest = w.forest ++ map (copy_of w (map id_of sources)) sources;
  peering = record w.peering { peers = w.peering.peers ++ map (peer_of w (map id_of sources) less) sources };
  next_mount = w.next_mount + length sources;
  next_space = w.next_space + 1;
}
