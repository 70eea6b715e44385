use Rattle.std.proofs.Common.{◌≡◌, ◌++◌, ◌∷◌, [], length, sym, ap, ◌∙◌, append_assoc, length-append, arith, rules}
use Rattle.std.proofs.lemmas.Grind.{common_steps}
use Rattle.std.specs.Vec.Iter.{into_iter_items}
use Rattle.mt_floor.specs.Schedule.{run, done_events, done_answers}
use Rattle.mt_floor.proofs.RunningLaws.{run_next}
use Rattle.mt_floor.proofs.FollowLaws.{headline_holds}
use Rattle.mt_floor.proofs.floor.Floor.run.Goals as goal

pub events-preserved : goal.events-preserved
events-preserved c =
    let at = c.events in
    let x = c.in-Some.event in
    let steps : into_iter_items at.event-iterator ≡ x ∷ into_iter_items c.next.new.self = c.in-Some.ensures.steps.0 in
    let pushed : c.push.new.self.items ≡ at.answers.items ++ c.step-answer.result ∷ [] = grind arith in
    let s = c.step-answer in
    record {
      order = append_assoc at.yielded (x ∷ []) (into_iter_items c.next.new.self) ∙ ap (λ l. at.yielded ++ l) (sym steps) ∙ at.invariant.order;
      left = omega (arith, at.invariant.left, c.in-Some.ensures.steps.1, ap length steps);
      run = run_next c.args.self.now at.self s.new.self at.yielded at.answers.items c.push.new.self.items x s.result at.invariant.count at.invariant.run pushed s.ensures.done s.ensures.refused s.ensures.memory s.ensures.unchanged;
      room = search rules;
      count = omega (arith, at.invariant.count, ap length pushed, length-append at.yielded (x ∷ []), length-append at.answers.items (s.result ∷ []));
    }

pub returns-clause-headline : goal.returns-clause-headline
returns-clause-headline c =
    let es = done_events c.args.events.items c.events.answers.items in
    let told = done_answers c.args.events.items c.events.answers.items in
    let schedule : run c.args.self.now es ≡ (c.events.self, told) = grind (arith, common_steps) in
    headline_holds c.args.self.now c.events.self es told schedule
