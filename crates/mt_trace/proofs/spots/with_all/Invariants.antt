use Rattle.std.proofs.Common.{◌≡◌, ◌++◌, drop}
use Rattle.mt_trace.proofs.spots.with_all.Given as goal

abbrev pub invariant-each : goal.invariant-each
invariant-each l = l.names ++ drop l.name-index l.more ≡ l.fn.names ++ l.more
