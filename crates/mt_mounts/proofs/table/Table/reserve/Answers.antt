use Rattle.std.proofs.Common.{inr, ap, ◌∙◌, arith}
use Rattle.mt_mounts.proofs.TableLaws.{table_same}
use Rattle.mt_mounts.proofs.TableStepLaws.{table_wider}
use Rattle.mt_mounts.proofs.table.Table.reserve.Goals as goal

pub invariant_of-self-then-capacity-len : goal.invariant_of-self-then-capacity-len
invariant_of-self-then-capacity-len c =
    table_wider _ _ _ _ c.self.invariant
    c.in_ok-slots.slots c.reserve.new.self c.reserve-then-capacity-len.new.self c.reserve-then-capacity-len-2.new.self c.capacity-then-capacity-len.result c.capacity-then-capacity-len-2.result
    c.in_ok-slots.ensures.slots c.reserve.ensures.entries
    c.reserve-then-capacity-len.ensures.rows c.in_ok-reserve-2.ensures.slots (inr (omega (arith, c.capacity-then-capacity-len.ensures.value)))
    c.reserve-then-capacity-len-2.ensures.rows c.in_ok-reserve-3.ensures.slots (inr (omega (arith, c.capacity-then-capacity-len-2.ensures.value)))

pub returns-then-capacity-len-clause-mounts : goal.returns-then-capacity-len-clause-mounts
returns-then-capacity-len-clause-mounts c = table_same c.self.inside.slots c.in_ok-slots.slots c.in_ok-slots.ensures.slots ∙ ap (λ t. t.mounts) c.self.view_is
