use Rattle.std.proofs.Common.{◌≡◌, ◌++◌, drop}
use Rattle.mt_reach.proofs.path.Path.with_rest.Given as goal

abbrev pub invariant-rest : goal.invariant-rest
invariant-rest l = l.path ++ drop l.name-index l.name-items ≡ l.fn.self ++ l.name-items
