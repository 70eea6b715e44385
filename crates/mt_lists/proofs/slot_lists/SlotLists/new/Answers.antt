use Rattle.std.proofs.Common.{ap}
use Rattle.mt_lists.specs.Slots.{tie_in, rows_in}
use Rattle.mt_lists.proofs.SlotLaws.{rows-no-slots}
use Rattle.mt_lists.proofs.TiedLaws.{tied-none}
use Rattle.mt_lists.proofs.slot_lists.SlotLists.new.Goals as goal

pub invariant_of-result : goal.invariant_of-result
invariant_of-result c = tied-none (tie_in c.new.result.items) (rows_in c.new.result.items) c.new-2.result (λ k. ap (λ s. tie_in s k) c.new.ensures.items) (rows-no-slots c.new.result.items c.new.ensures.items) c.new-2.ensures.empty

pub returns-clause-rows : goal.returns-clause-rows
returns-clause-rows c = rows-no-slots c.new.result.items c.new.ensures.items
