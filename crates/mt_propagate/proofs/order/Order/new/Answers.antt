use Rattle.std.proofs.Common.{subst}
use Rattle.std.specs.List.Sorted.{IsNonDecreasing}
use Rattle.std.proofs.lemmas.List.Sorted.{non_decreasing_from_is_sorted}
use Rattle.mt_peers.proofs.ChosenLaws.{where_true}
use Rattle.mt_propagate.proofs.order.Order.new.Goals as goal

pub invariant_of-result : goal.invariant_of-result
invariant_of-result c sorted =
    subst IsNonDecreasing c.deref.ensures.value (where_true _ c.is_sorted-sorted.result (non_decreasing_from_is_sorted c.deref.result.now c.is_sorted-sorted.result c.is_sorted-sorted.ensures.cases) sorted)
