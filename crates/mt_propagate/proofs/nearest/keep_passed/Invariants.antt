use Rattle.std.proofs.Common.{◌≤◌, length, Some}
use Rattle.mt_peers.specs.Masters.{master_of}
use Rattle.mt_peers.specs.Ways.{IsAbove}
use Rattle.mt_propagate.specs.Planned.{stands}
use Rattle.mt_propagate.specs.Nearest.{IsFound}
use Rattle.mt_propagate.proofs.nearest.keep_passed.Given as goal

-- the way's end is above the group come to, and what was kept is so
abbrev pub invariant-passed : goal.invariant-passed
invariant-passed l = record {
  found : IsFound (stands l.standing) l.world.peers.peers l.found;
  above : IsAbove (stands l.standing) (master_of l.world.peers.peers) (Some l.here) l.end.up l.rest;
  within : l.rest ≤ length l.world.peers.peers;
}

abbrev pub decreases-passed : goal.decreases-passed
decreases-passed l = l.rest
