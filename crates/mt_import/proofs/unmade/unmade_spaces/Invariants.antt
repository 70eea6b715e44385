use Rattle.std.proofs.Common.{◌≡◌, ◌++◌, drop, length, map}
use Rattle.mt_import.specs.Unmade.{AreUnmade}
use Rattle.mt_import.proofs.unmade.unmade_spaces.Given as goal

-- what those tell that are there and what the other tables do are all
abbrev pub invariant-tables : goal.invariant-tables
invariant-tables l = record {
  told : map (λ space. space.tree.told) l.spaces.items ++ drop l.before l.tables ≡ l.tables;
  unmade : AreUnmade 1 l.spaces.items;
  count : length l.spaces.items ≡ l.before;
}
