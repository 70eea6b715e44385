use Rattle.mt_reach.proofs.WayLaws.{IsOnWay}
use Rattle.mt_reach.proofs.upward.Upward.go_up.Given as goal

-- the number that is met, and those passed, answer as the first
abbrev pub invariant-up : goal.invariant-up
invariant-up l = IsOnWay l.fn.self.rows l.fn.self.step l.fn.self.goal l.fn.number l._step l.here l.way.items
