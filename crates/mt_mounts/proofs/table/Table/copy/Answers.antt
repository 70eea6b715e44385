use Rattle.std.proofs.Common.{inr, ap, ◌∙◌, arith}
use Rattle.std.proofs.lemmas.List.Elements.{same_from_all_zip}
use Rattle.mt_mounts.proofs.TableLaws.{slot_same, table_same}
use Rattle.mt_mounts.proofs.TableStepLaws.{table_wider}
use Rattle.mt_mounts.proofs.table.Table.copy.Goals as goal

pub invariant_of-result : goal.invariant_of-result
invariant_of-result c =
    table_wider _ _ _ _ c.self.invariant
    c.in_ok-slots.slots c.in_ok-clone.field-0 c.in_ok-copy_of.field-0 c.in_ok-copy_of-2.field-0 c.capacity.result c.capacity-2.result
    (same_from_all_zip _ _ _ c.in_ok-slots.ensures.cases.slots slot_same)
    (same_from_all_zip _ c.self.inside.keys.entries c.in_ok-clone.field-0.entries c.in_ok-clone.ensures.cases (λ x y e. λ i. (e.0 i, e.1 i)))
    c.in_ok-copy_of.ensures.rows c.in_ok-copy_of.ensures.slots (inr (omega (arith, c.capacity.ensures.value)))
    c.in_ok-copy_of-2.ensures.rows c.in_ok-copy_of-2.ensures.slots (inr (omega (arith, c.capacity-2.ensures.value)))

pub returns-clause-copy : goal.returns-clause-copy
returns-clause-copy c =
    table_same c.self.inside.slots c.in_ok-slots.slots (same_from_all_zip _ _ _ c.in_ok-slots.ensures.cases.slots slot_same) ∙ ap (λ t. t.mounts) c.self.view_is
