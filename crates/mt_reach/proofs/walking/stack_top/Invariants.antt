use Rattle.std.proofs.Common.{length}
use Rattle.mt_reach.specs.Walking.{stacked_at}
use Rattle.mt_reach.proofs.WalkedLaws.{IsClimbing}
use Rattle.mt_reach.proofs.walking.stack_top.Given as goal

-- the steps that are left lead from the mount that is met to where all of them lead
abbrev pub invariant-stack : goal.invariant-stack
invariant-stack l = IsClimbing (stacked_at l.rows l.point) (length l.rows) l.fn.start l._step l.here
