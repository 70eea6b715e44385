use Rattle.std.proofs.lemmas.List.Sorted.{non_decreasing_from_is_sorted}
use Rattle.mt_peers.proofs.ChosenLaws.{where_true}
use Rattle.mt_peers.proofs.chosen.Chosen.new.Goals as goal

pub invariant_of-result : goal.invariant_of-result
invariant_of-result c sorted = where_true _ c.is_sorted-sorted.result (non_decreasing_from_is_sorted c.args.ids.now c.is_sorted-sorted.result c.is_sorted-sorted.ensures.cases) sorted
