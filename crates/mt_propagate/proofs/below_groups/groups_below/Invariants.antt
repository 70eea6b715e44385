use Rattle.std.proofs.Common.{suc, ◌-◌, take, length}
use Rattle.mt_peers.proofs.WorklistLaws.{IsWorklist}
use Rattle.mt_propagate.proofs.below_groups.groups_below.Given as goal

-- the slaves of the groups visited were gone over
abbrev pub invariant-groups : goal.invariant-groups
invariant-groups l = IsWorklist l.world.peers.peers l.group (take l.visited l.groups.items) l.groups.items

abbrev pub decreases-groups : goal.decreases-groups
decreases-groups l = suc (length l.world.peers.peers) - l.visited
