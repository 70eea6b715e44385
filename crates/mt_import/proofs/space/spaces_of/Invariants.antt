use Rattle.std.proofs.Common.{◌≡◌, ◌++◌, map}
use Rattle.std.specs.Vec.Iter.{into_iter_items}
use Rattle.mt_import.proofs.space.spaces_of.Given as goal

-- what the tables tell and what the other trees do are all
abbrev pub invariant-trees : goal.invariant-trees
invariant-trees l = map (λ space. space.tree.told) l.spaces.items ++ map (λ tree. tree.told) (into_iter_items l.tree-iterator) ≡ map (λ tree. tree.told) l.fn.trees.items
