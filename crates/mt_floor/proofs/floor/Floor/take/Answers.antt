use Rattle.std.proofs.Common.{◌∙◌, sym, ap, arith, Some, ◌+◌, ◌<◌, ◌^◌}
use Rattle.mt_floor.specs.Schedule.{nothing_left}
use Rattle.mt_floor.specs.Rows.{FloorRowView}
use Rattle.mt_floor.proofs.floor.Floor.take.Goals.{in-Some-take_at, in-None}
use Rattle.mt_floor.proofs.PlaceLaws.{sought, at_place}
use Rattle.mt_floor.proofs.KeptLaws.{with_answer, unsought, take_given, take_empty, few}
use Rattle.mt_floor.proofs.floor.Floor.take.Goals as goal

pub returns-in_default-clause-done : goal.returns-in_default-clause-done
returns-in_default-clause-done c = (unsought c.self.invariant c.self.view_is c.args.key c.deref.ensures.value c.place_of.ensures.value c.in_default.is).take

pub take_at-requires-clause-count : goal.take_at-requires-clause-count
take_at-requires-clause-count c =
    let f = sought c.args.key c.deref.ensures.value c.place_of.ensures.value c.in-Some.is in
    at_place f (λ (row : FloorRowView). row.taken + 1 < 2 ^ 64) (omega (arith, few c.self.invariant c.self.view_is f.at))

pub invariant_of-self : goal.invariant_of-self
invariant_of-self c =
    let f = sought c.args.key c.deref.ensures.value c.place_of.ensures.value c.in-Some.is in
    elim c.match-take_at.branch [
      | in-Some-take_at w ↦ (take_given c.self.invariant c.self.view_is f w.in-Some-take_at.ensures.rows (λ row got. ap (λ p. Some p) w.new.ensures ∙ w.in-Some-take_at.ensures.post row got)).kept
      | in-None w ↦ (take_empty c.self.invariant c.self.view_is f w.in-None.ensures.rows w.in-None.ensures.post w.index.ensures).kept
    ]

pub returns-clause-done : goal.returns-clause-done
returns-clause-done c =
    let f = sought c.args.key c.deref.ensures.value c.place_of.ensures.value c.in-Some.is in
    elim c.match-take_at.branch [
      | in-Some-take_at w ↦ with_answer (take_given c.self.invariant c.self.view_is f w.in-Some-take_at.ensures.rows (λ row got. ap (λ p. Some p) w.new.ensures ∙ w.in-Some-take_at.ensures.post row got)).step (sym w.result-is)
      | in-None w ↦ with_answer (take_empty c.self.invariant c.self.view_is f w.in-None.ensures.rows w.in-None.ensures.post w.index.ensures).step (ap nothing_left (sym w.phase.ensures) ∙ sym w.nothing_left.ensures ∙ sym w.result-is)
    ]
