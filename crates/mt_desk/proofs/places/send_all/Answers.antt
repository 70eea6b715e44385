use Rattle.std.proofs.Common.{◌≡◌, ◌∷◌, List, length, sym, ap, subst, arith}
use Rattle.std.specs.Vec.Iter.{into_iter_items}
use Rattle.mt_desk.specs.Sending.{PlaceDue, AreDue, SendsAll}
use Rattle.mt_desk.proofs.SendingLaws.{first_is_due, others_due}
use Rattle.mt_desk.proofs.places.send_all.Goals as goal

pub send_at-requires : goal.send_at-requires
send_at-requires g c = first_is_due _ _ _ (subst (AreDue c.due.slots.items) c.in-Some.ensures.steps.0 c.due.invariant.due)

pub due-preserved : goal.due-preserved
due-preserved g c =
    let at = c.due in
    let steps : into_iter_items at.next-iterator ≡ c.in-Some.next ∷ into_iter_items c.next.new.self = c.in-Some.ensures.steps.0 in
    record {
      left = omega (arith, at.invariant.left, c.in-Some.ensures.steps.1, ap length steps);
      due = others_due _ _ _ _ (subst (AreDue at.slots.items) steps at.invariant.due) c.send_at.ensures;
      leads = λ after more. at.invariant.leads after (subst (λ (l : List PlaceDue). SendsAll l at.slots.items after) (sym steps) (c.send_at.new.slots.items, c.send_at.ensures, more));
    }
