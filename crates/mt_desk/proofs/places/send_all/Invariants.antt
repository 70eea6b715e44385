use Rattle.std.proofs.Common.{◌≡◌, List}
use Rattle.std.specs.Vec.Iter.{into_iter_items, into_iter_len}
use Rattle.std.specs.Prelude.{length}
use Rattle.mt_desk.specs.declared.places.Slot.{Slot}
use Rattle.mt_desk.specs.Sending.{AreDue, SendsAll}
use Rattle.mt_desk.proofs.places.send_all.Given as goal

-- what is left may be sent, and leads from here to where all that was due leads
abbrev pub invariant-due : goal.invariant-due
invariant-due g l = record {
  left : into_iter_len l.next-iterator ≡ length (into_iter_items l.next-iterator);
  due : AreDue l.slots.items (into_iter_items l.next-iterator);
  leads : (after : List Slot) → SendsAll (into_iter_items l.next-iterator) l.slots.items after → SendsAll (into_iter_items l.initial.next-iterator) l.initial.slots.items after;
}
