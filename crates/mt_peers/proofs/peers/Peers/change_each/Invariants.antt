use Rattle.std.proofs.Common.{◌≡◌, ◌≤◌, ◌+◌, true, drop}
use Rattle.mt_skel.specs.Keyed.{among, rises}
use Rattle.mt_peers.specs.Peers.{mount_of, peering_of}
use Rattle.mt_peers.specs.Few.{unsettled}
use Rattle.mt_peers.proofs.peers.Peers.change_each.Given as goal

-- with the mounts that are still to come changed, the states are those that all would get
abbrev pub invariant-loop-id : goal.invariant-loop-id
invariant-loop-id l = record {
  told : unsettled l.kind (among (drop l.id-index l.ids)) (peering_of l.self) ≡ unsettled l.kind (among l.ids) (peering_of l.initial.self);
  rising : rises mount_of l.self.peers ≡ true;
  next : l.self.next ≤ l.initial.self.next + l.id-index;
  since : l.self.since ≡ l.initial.self.since;
  room : l.initial.self.room ≤ l.self.room + l.id-index;
}
