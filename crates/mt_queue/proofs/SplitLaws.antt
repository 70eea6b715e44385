-- A pass that is cut in two keeps the rule.
use Rattle.std.proofs.Common.{◌≡◌, ℕ, true, false, List, [], length, set, refl, sym, ap, ◌∙◌, arith}
use Rattle.crossbeam_queue.specs.Fifo.{Forks}
use Rattle.mt_queue.specs.declared.rule.PassView.{PassView}
use Rattle.mt_queue.specs.declared.rule.TaggedOpening.{TaggedOpening}
use Rattle.mt_queue.specs.PassViews.{values, whole, sending, taking, spent}
use Rattle.mt_queue.specs.Rule.{KeepsRule}
use Rattle.mt_queue.proofs.ViewLaws.{off, Each, each_set, PushesOnly, with_reader}
use Rattle.mt_queue.proofs.ValueLaws.{nothing_held}
use Rattle.mt_queue.proofs.RunLaws.{run_none}

-- the pass is cut in two: the first keeps the right to push, and a new one has the right to pop
pub parts : (pass : ℕ) (v : PassView) → v.pushes ≡ true → v.pops ≡ true → Forks KeepsRule pass v (sending v) (taking v)
parts pass v may may' items views h at =
    let s = (h.each pass v at).0 may in
    let t = (h.each pass v at).1 may' in
    let vs : List PassView = set views pass (sending v) in
    let Only : ℕ → PassView → Type 0 = PushesOnly h.writer h.opening h.capacity h.sent h.taken in
    let old : Each Only vs = each_set Only views pass (sending v) ((λ _. (s.0, s.1, s.2, s.3, omega (arith, ap length t.2))), off)
    (λ j u other e. ((h.each j u e).0, (λ k. other (((h.each j u e).1 k).0 ∙ sym t.0)))) in
    record {
      writer = h.writer;
      reader = length vs;
      opening = h.opening;
      capacity = h.capacity;
      sent = h.sent;
      taken = h.taken;
      split = h.split;
      held = h.held;
      run = h.run;
      each = with_reader h.writer h.opening h.capacity h.sent h.taken vs (taking v) refl (refl, t.1, t.2, omega (arith, ap length s.3)) old;
    }

-- where all is taken, both lists begin anew
pub reopens : (o : TaggedOpening) (capacity pass : ℕ) (v : PassView) → v.pushes ≡ true → v.pops ≡ true → v.sent ≡ v.taken
    → Forks KeepsRule pass v (sending (whole o capacity)) (taking (whole o capacity))
reopens o capacity pass v may may' all items views h at =
    let s = (h.each pass v at).0 may in
    let t = (h.each pass v at).1 may' in
    let left : PassView = sending (whole o capacity) in
    let none : items ≡ [] = nothing_held h.taken items (sym (sym s.3 ∙ all ∙ t.2) ∙ h.split) in
    let vs : List PassView = set views pass left in
    let Only : ℕ → PassView → Type 0 = PushesOnly h.writer o capacity [] [] in
    let old : Each Only vs = each_set Only views pass left ((λ _. (s.0, refl, refl, refl, omega arith)), off)
    (λ j u other e. ((λ k. absurd (other (((h.each j u e).0 k).0 ∙ sym s.0))), (λ k. other (((h.each j u e).1 k).0 ∙ sym t.0)))) in
    record {
      writer = h.writer;
      reader = length vs;
      opening = o;
      capacity = capacity;
      sent = [];
      taken = [];
      split = ap values (sym none);
      held = omega (arith, ap length none);
      run = run_none o.opening;
      each = with_reader h.writer o capacity [] [] vs (taking (whole o capacity)) refl (refl, refl, refl, omega arith) old;
    }

-- what the receiver's pass knows goes to a new pass
pub hands_over : (pass : ℕ) (v : PassView) → v.pops ≡ true → v.pushes ≡ false → Forks KeepsRule pass v spent v
hands_over pass v may not_both items views h at =
    let t = (h.each pass v at).1 may in
    let vs : List PassView = set views pass spent in
    let Only : ℕ → PassView → Type 0 = PushesOnly h.writer h.opening h.capacity h.sent h.taken in
    let old : Each Only vs = each_set Only views pass spent ((λ k. absurd (off k)), off) (λ j u other e. ((h.each j u e).0, (λ k. other (((h.each j u e).1 k).0 ∙ sym t.0)))) in
    record {
      writer = h.writer;
      reader = length vs;
      opening = h.opening;
      capacity = h.capacity;
      sent = h.sent;
      taken = h.taken;
      split = h.split;
      held = h.held;
      run = h.run;
      each = with_reader h.writer h.opening h.capacity h.sent h.taken vs v not_both (refl, t.1, t.2, t.3) old;
    }
