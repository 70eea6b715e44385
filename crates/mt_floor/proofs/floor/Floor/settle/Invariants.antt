use Rattle.std.proofs.Common.{◌≡◌, length}
use Rattle.mt_floor.specs.Schedule.{settled}
use Rattle.mt_floor.proofs.floor.Floor.settle.Given as goal

-- what was sent was to be sent
abbrev pub invariant-posts : goal.invariant-posts
invariant-posts l = settled l.self ≡ settled l.initial.self

-- each round leaves fewer due
abbrev pub decreases-posts : goal.decreases-posts
decreases-posts l = length l.self.due
