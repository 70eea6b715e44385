use Rattle.std.proofs.Common.{◌≡◌, ◌++◌, drop}
use Rattle.mt_reach.proofs.path.Path.copy.Given as goal

abbrev pub invariant-names : goal.invariant-names
invariant-names l = l.names.items ++ drop l.name-index l.name-items ≡ l.name-items
