use Rattle.std.proofs.Common.{◌≡◌}
use Rattle.mt_import.proofs.tree.ids_of.Given as goal

abbrev pub invariant-rows : goal.invariant-rows
invariant-rows l = l.tree.told ≡ l.initial.tree.told
