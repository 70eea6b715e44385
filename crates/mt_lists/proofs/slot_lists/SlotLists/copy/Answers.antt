use Rattle.std.proofs.Common.{ap, ◌∙◌}
use Rattle.std.proofs.lemmas.List.Elements.{same_from_all_zip}
use Rattle.mt_lists.specs.Slots.{tie_in, ids_in, rows_in}
use Rattle.mt_lists.proofs.TiedLaws.{tied-same}
use Rattle.mt_lists.proofs.slot_lists.SlotLists.copy.Goals as goal

pub invariant_of-result : goal.invariant_of-result
invariant_of-result c =
    let same = c.in_ok-from_slice.ensures.items ∙ c.deref.ensures.value in
    tied-same (tie_in c.self.inside.ties.items) (tie_in c.in_ok-from_slice.field-0.items) (rows_in c.self.inside.ties.items) (rows_in c.in_ok-from_slice.field-0.items) c.self.inside.tops c.in_ok-clone.field-0
    (λ k. ap (λ s. tie_in s k) same) (ap rows_in same)
    (same_from_all_zip _ c.self.inside.tops.entries c.in_ok-clone.field-0.entries c.in_ok-clone.ensures.cases (λ x y e. λ i. (e.0 i, e.1 i)))
    c.self.invariant

pub returns-clause-rows : goal.returns-clause-rows
returns-clause-rows c = ap rows_in (c.in_ok-from_slice.ensures.items ∙ c.deref.ensures.value) ∙ ap (λ s. s.rows) c.self.view_is

pub returns-clause-slots : goal.returns-clause-slots
returns-clause-slots c = ap ids_in (c.in_ok-from_slice.ensures.items ∙ c.deref.ensures.value) ∙ ap (λ s. s.slots) c.self.view_is
