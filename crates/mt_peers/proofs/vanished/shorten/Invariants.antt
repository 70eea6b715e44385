use Rattle.std.proofs.Common.{◌≤◌, List, Some}
use Rattle.indexmap.specs.IndexMap.{spare}
use Rattle.mt_peers.specs.Peers.{Peer, has_member}
use Rattle.mt_peers.specs.Masters.{master_of}
use Rattle.mt_peers.specs.Ways.{IsAbove}
use Rattle.mt_peers.specs.Vanished.{IsVanished, AreNear}
use Rattle.mt_peers.proofs.vanished.shorten.Given as goal

-- the way's end is known above all groups passed, and above the one come to
abbrev pub invariant-passed : goal.invariant-passed
invariant-passed l = record {
  kept : (old new : List Peer) → IsVanished old new l.initial.vanished → IsAbove (has_member new) (master_of old) (Some l.group) l.end.up l.end.steps → IsVanished old new l.vanished;
  above : (old new : List Peer) → IsVanished old new l.initial.vanished → IsAbove (has_member new) (master_of old) (Some l.group) l.end.up l.end.steps → IsAbove (has_member new) (master_of old) (Some l.here) l.end.up l.rest;
  near : AreNear l.most l.vanished;
  within : l.rest ≤ l.most;
  room : spare l.initial.vanished ≤ spare l.vanished;
}

abbrev pub decreases-passed : goal.decreases-passed
decreases-passed l = l.rest
