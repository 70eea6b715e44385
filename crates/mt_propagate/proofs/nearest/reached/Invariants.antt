use Rattle.std.proofs.Common.{suc, ◌-◌, length, Some}
use Rattle.mt_peers.specs.Masters.{master_of}
use Rattle.mt_peers.specs.Ways.{IsAbove}
use Rattle.mt_propagate.specs.Planned.{stands}
use Rattle.mt_propagate.proofs.nearest.reached.Given as goal

-- at no group passed do copies stand
abbrev pub invariant-chain : goal.invariant-chain
invariant-chain l = IsAbove (stands l.standing) (master_of l.world.peers.peers) (Some l.group) l.here.up l.here.steps

abbrev pub decreases-chain : goal.decreases-chain
decreases-chain l = suc (length l.world.peers.peers) - l.here.steps
