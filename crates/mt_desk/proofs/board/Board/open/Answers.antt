use Rattle.std.proofs.Common.{◌≡◌, ◌∙◌, List, length, refl, sym, ap, subst, Some, arith, slice_get}
use Rattle.std.specs.List.{AllByRecursion}
use Rattle.std.proofs.lemmas.List.{length-map}
use Rattle.mt_book.specs.declared.command.Command.{Command}
use Rattle.mt_floor.specs.Schedule.{opening_refusal}
use Rattle.mt_desk.specs.declared.places.Slot.{Slot}
use Rattle.mt_desk.specs.Desk.{DeskView, floor_of_desk}
use Rattle.mt_desk.specs.Places.{IsParked, row_in}
use Rattle.mt_desk.proofs.DeskLaws.{opening_refused, room_for_one, not_all_used, parked_at, begun_kept}
use Rattle.mt_desk.proofs.board.Board.open.Goals as goal

pub returns-in-Some-clause-refused : goal.returns-in-Some-clause-refused
returns-in-Some-clause-refused g c = λ ne. opening_refused c.args.self.now c.args.scope (sym c.refuses.ensures ∙ c.in-Some.is)

pub unreachable-requires : goal.unreachable-requires
unreachable-requires g c =
    let i = c.self.inside in
    let none = sym c.refuses.ensures ∙ c.in_default.is in
    let used = subst (λ (l : List Slot). AllByRecursion (λ s. IsParked s → ⊥) l) c.deref.ensures.value c.in_default-parked_place.ensures.none in
    let rows = ap (λ (d : DeskView). length d.rows) c.self.view_is in
    absurd (omega (arith, not_all_used _ c.self.invariant used, room_for_one c.args.self.now c.args.scope none, rows, length-map i.order.items (row_in i.slots.items)))

pub open_at-half-requires-clause-parked : goal.open_at-half-requires-clause-parked
open_at-half-requires-clause-parked g c =
    let some = c.in-Some-parked_place.ensures.some in
    let there = subst (λ (l : List Slot). slice_get l c.in-Some-parked_place.place ≡ Some some.0) c.deref.ensures.value some.1 in
    parked_at _ c.self.invariant _ some.0 there some.2 c.in_ok-left.ensures.capacity

pub invariant_of-result : goal.invariant_of-result
invariant_of-result g c =
    let none = ap (λ (x : DeskView). opening_refusal (floor_of_desk x) c.args.scope) c.self.view_is ∙ sym c.refuses.ensures ∙ c.in_default.is in
    (begun_kept _ c.self.invariant none c.open_at-half.ensures refl (ap (λ (l : List Command). length l) c.journal-since.ensures.journal) c.in_ok-opening.ensures.opening c.push_reserved.ensures.items).2

pub invariant_of-self : goal.invariant_of-self
invariant_of-self g c =
    let none = ap (λ (x : DeskView). opening_refusal (floor_of_desk x) c.args.scope) c.self.view_is ∙ sym c.refuses.ensures ∙ c.in_default.is in
    rw c.push_reserved.ensures.capacity
    (begun_kept _ c.self.invariant none c.open_at-half.ensures refl (ap (λ (l : List Command). length l) c.journal-since.ensures.journal) c.in_ok-opening.ensures.opening c.push_reserved.ensures.items).0

pub returns-clause-done : goal.returns-clause-done
returns-clause-done g c =
    let none = ap (λ (x : DeskView). opening_refusal (floor_of_desk x) c.args.scope) c.self.view_is ∙ sym c.refuses.ensures ∙ c.in_default.is in
    rw (← c.self.view_is)
    (begun_kept _ c.self.invariant none c.open_at-half.ensures refl (ap (λ (l : List Command). length l) c.journal-since.ensures.journal) c.in_ok-opening.ensures.opening c.push_reserved.ensures.items).1

pub returns-clause-desk : goal.returns-clause-desk
returns-clause-desk g c =
    let none = ap (λ (x : DeskView). opening_refusal (floor_of_desk x) c.args.scope) c.self.view_is ∙ sym c.refuses.ensures ∙ c.in_default.is in
    rw (← c.self.view_is)
    (begun_kept _ c.self.invariant none c.open_at-half.ensures refl (ap (λ (l : List Command). length l) c.journal-since.ensures.journal) c.in_ok-opening.ensures.opening c.push_reserved.ensures.items).4
