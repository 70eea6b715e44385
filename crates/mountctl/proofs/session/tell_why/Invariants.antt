use Rattle.std.proofs.Common.{◌≡◌, []}
use Rattle.mountctl.proofs.session.tell_why.Given as goal

-- nothing is due on the floor
abbrev pub invariant-tries : goal.invariant-tries
invariant-tries g l = l.floor.due ≡ []
