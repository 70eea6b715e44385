use Rattle.std.proofs.Common.{◌≡◌, ◌++◌, drop, map}
use Rattle.mt_import.proofs.import.trees_of.Given as goal

-- what the trees tell and what the other tables do are all
abbrev pub invariant-tables : goal.invariant-tables
invariant-tables l = map (λ tree. tree.told) l.trees.items ++ drop l.before l.tables ≡ l.tables
