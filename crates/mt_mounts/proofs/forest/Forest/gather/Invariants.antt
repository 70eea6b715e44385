use Rattle.std.proofs.Common.{suc, ◌-◌, take, length}
use Rattle.mt_mounts.proofs.SubtreeLaws.{IsGathering}
use Rattle.mt_mounts.proofs.forest.Forest.gather.Given as goal

-- the children of the mounts visited were gathered
abbrev pub invariant-mounts : goal.invariant-mounts
invariant-mounts l = IsGathering l.self.mounts l.id (take l.visited l.gathered.items) l.gathered.items

abbrev pub decreases-mounts : goal.decreases-mounts
decreases-mounts l = suc (length l.self.mounts) - l.visited
