use Rattle.std.proofs.Common.{List, ap, ◌∙◌, sym, ◌∷◌, [], ◌++◌, length, arith, append_assoc, length-append}
use Rattle.std.specs.Arc.{arc_value}
use Rattle.mt_queue.specs.Halves.{TailView}
use Rattle.mt_queue.specs.PassViews.{Item, values}
use Rattle.mt_queue.proofs.ValueLaws.{values-append}
use Rattle.mt_desk.proofs.row.drain.Goals as goal

pub left-preserved : goal.left-preserved
left-preserved g c =
    let i = c.left.invariant in
    let some = c.in-Some-next.ensures.some in
    let start = c.args.tail.taken in
    let xs = c.left.left.items in
    let x = c.in-Some-next.post in
    let taken = ap (λ (t : TailView). t.taken) some.0 in
    let sent = ap (λ (t : TailView). t.sent) some.0 in
    let put = c.push_reserved.ensures.items in
    let after = some.1.1 ∙ ap (λ l. l ++ some.1.0) (sym taken) in
    record {
      line = ap (λ (t : TailView). t.line) some.0 ∙ i.line;
      capacity = ap (λ (t : TailView). t.capacity) some.0 ∙ i.capacity;
      sent = sent ∙ i.sent;
      out =
          ap (λ l. start ++ values l) put ∙ ap (λ l. start ++ l) (values-append xs (x ∷ [])) ∙ sym (append_assoc start (values xs) (arc_value x ∷ [])) ∙ ap (λ l. l ++ arc_value x ∷ []) i.out ∙ sym taken;
      room = (
        some.1.0,
        sent ∙ after,
        omega (
          arith,
          i.room.2,
          c.push_reserved.ensures.capacity,
          ap length (sym i.room.1 ∙ after),
          ap length taken,
          ap (λ (l : List Item). length l) put,
          length-append c.left.tail.taken i.room.0,
          length-append c.next-in-left.new.self.taken some.1.0,
          length-append c.left.tail.taken (arc_value x ∷ []),
          length-append xs (x ∷ []),
        ),
      );
    }
