use Rattle.mt_reach.proofs.GroupsLaws.{IsPushing}
use Rattle.mt_reach.proofs.reason.push_groups.Given as goal

-- the groups passed, and those from the one that is met
abbrev pub invariant-up : goal.invariant-up
invariant-up l = IsPushing l.rows l.fn.step l.fn.group l._step l.here l.fn.groups.items l.groups.items
