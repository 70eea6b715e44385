use Rattle.std.proofs.Common.{◌≡◌}
use Rattle.mt_mounts.specs.Forest.{top}
use Rattle.mt_mounts.proofs.Walks.{top_within}
use Rattle.mt_mounts.proofs.forest.Forest.top.Given as goal

-- the steps that are left lead from here to the top
abbrev pub invariant-stack : goal.invariant-stack
invariant-stack l = top_within l.self.mounts l.left l.here ≡ top l.self.mounts l.fn.place

abbrev pub decreases-stack : goal.decreases-stack
decreases-stack l = l.left
