use Rattle.std.proofs.Common.{set, sym, ap, ◌∙◌, arith}
use Rattle.std.proofs.lemmas.List.Edits.{map_over_more}
use Rattle.mt_desk.specs.Places.{ended_slot}
use Rattle.mt_desk.proofs.places.end_all.Goals as goal

-- one row more has ended
pub slots-preserved : goal.slots-preserved
slots-preserved c =
    ap (set c.slots.slot-items c.slots.slot-index) (c.end.ensures ∙ ap ended_slot (sym c.slot-item.is))
    ∙ map_over_more ended_slot c.deref_mut-slot-items.result.now c.slots.slot-items c.slots.slot-index c.slot-item.result (omega arith) c.slots.invariant c.slot-item.is
