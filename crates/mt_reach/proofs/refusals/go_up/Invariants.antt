use Rattle.mt_reach.proofs.DownLaws.{IsGoingUp}
use Rattle.mt_reach.proofs.refusals.go_up.Given as goal

-- the mounts passed, and those from the one that is met
abbrev pub invariant-up : goal.invariant-up
invariant-up l = IsGoingUp l.fn.rows l.fn.id l.fn.from l._step l.here l.way.items
