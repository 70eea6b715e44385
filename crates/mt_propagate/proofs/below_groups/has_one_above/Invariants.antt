use Rattle.std.proofs.Common.{◌≡◌}
use Rattle.std.specs.Prelude.{nat_eq}
use Rattle.std.specs.List.{list_any}
use Rattle.mt_peers.specs.Above.{masters_to_come}
use Rattle.mt_propagate.proofs.below_groups.has_one_above.Given as goal

-- no group passed is one of them
abbrev pub invariant-loop-above : goal.invariant-loop-above
invariant-loop-above l = record {
  can_next : (goal.iterator-loop-above).can_next l.above-iterator;
  finite : (goal.iterator-loop-above).is_finite l.above-iterator;
  found : list_any (λ h. list_any (nat_eq h) l.groups) (masters_to_come l.above-iterator) ≡ list_any (λ h. list_any (nat_eq h) l.groups) (masters_to_come l.initial.above-iterator);
}
