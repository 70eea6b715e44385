use Rattle.std.proofs.Common.{◌≡◌, ◌++◌, drop}
use Rattle.mt_reach.proofs.path.Path.of.Given as goal

abbrev pub invariant-names : goal.invariant-names
invariant-names l = l.path ++ drop l.name-index l.name-items ≡ l.name-items
