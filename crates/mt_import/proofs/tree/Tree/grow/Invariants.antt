use Rattle.std.proofs.Common.{◌≡◌}
use Rattle.mt_import.proofs.tree.Tree.grow.Given as goal

abbrev pub invariant-turns : goal.invariant-turns
invariant-turns l = l.self.told ≡ l.initial.self.told
