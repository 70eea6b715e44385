use Rattle.std.proofs.Common.{◌≡◌, drop}
use Rattle.mt_mounts.specs.Walk.{walk_from}
use Rattle.mt_mounts.proofs.forest.Forest.walk.Given as goal

-- the walk of what is left from here is that of the whole path from the root
abbrev pub invariant-loop-name : goal.invariant-loop-name
invariant-loop-name l = walk_from l.skel l.self.mounts l.here (drop l.name-index l.path) ≡ walk_from l.skel l.self.mounts l.initial.here l.path
