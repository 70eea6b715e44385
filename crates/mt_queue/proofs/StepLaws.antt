-- A push and a pop keep the rule, and a look at it teaches.
use Rattle.std.proofs.Common.{◌≡◌, ℕ, zero, suc, true, List, [], ◌∷◌, ◌++◌, length, refl, sym, ap, ◌∙◌, subst, arith, append_assoc, length-append}
use mathlib.Core.Option.{some-ne-none, some-injective}
use Rattle.crossbeam_queue.specs.Fifo.{Pushes, Pops, Learns}
use Rattle.std.specs.Arc.{arc_value}
use Rattle.mt_events.specs.Posts.{PostView}
use Rattle.mt_events.specs.Following.{IsRun}
use Rattle.mt_queue.specs.declared.rule.PassView.{PassView}
use Rattle.mt_queue.specs.declared.rule.TaggedOpening.{TaggedOpening}
use Rattle.mt_queue.specs.Openings.{no_opening}
use Rattle.mt_queue.specs.PassViews.{Item, values, whole}
use Rattle.mt_queue.specs.Rule.{Fits, KeepsRule}
use Rattle.mt_queue.specs.Steps.{IsPushed, IsFilled, IsPopped, IsPoppedLeft, IsDrained, IsBalanced}
use Rattle.mt_queue.proofs.ViewLaws.{Each, each_set}
use Rattle.mt_queue.proofs.ValueLaws.{values-append, held_length}
use Rattle.mt_queue.proofs.RunLaws.{run_none, run_front}

-- the first pass of a new queue
pub begins : KeepsRule [] (whole no_opening 0 ∷ [])
begins = record {
  writer = 0;
  reader = 0;
  opening = no_opening;
  capacity = 0;
  sent = [];
  taken = [];
  split = refl;
  held = omega arith;
  run = run_none no_opening.opening;
  each = one;
}
  where
    one : Each (Fits 0 0 no_opening 0 [] []) (whole no_opening 0 ∷ [])
    one zero v e = subst (Fits 0 0 no_opening 0 [] [] 0) (some-injective _ _ e) ((λ _. (refl, refl, refl, refl, omega arith)), (λ _. (refl, refl, refl, omega arith)))
    one (suc j) v e = absurd (some-ne-none v (sym e))

-- a push adds the post at the end of what was sent, and keeps the rule where that stays a run
pub pushes : (n pass : ℕ) (v : PassView) (x : Item) → v.pushes ≡ true → v.capacity ≡ n → IsRun v.opening.opening (v.sent ++ arc_value x ∷ [])
    → Pushes KeepsRule n pass v x (IsPushed v x)
pushes n pass v x may cap run items views room h at =
    let p : PostView = arc_value x in
    let w : PassView = record v { sent = v.sent ++ p ∷ [] } in
    let mine = (h.each pass v at).0 may in
    let sent = h.sent ++ p ∷ [] in
    let longer = length-append h.sent (p ∷ []) in (
      w,
      record {
        writer = h.writer;
        reader = h.reader;
        opening = h.opening;
        capacity = h.capacity;
        sent = sent;
        taken = h.taken;
        split = ap (λ l. l ++ p ∷ []) h.split ∙ append_assoc h.taken (values items) (p ∷ []) ∙ ap (λ l. h.taken ++ l) (sym (values-append items (x ∷ [])));
        held = omega (arith, length-append items (x ∷ []), mine.2, cap);
        run = subst (λ (y : TaggedOpening × List PostView). IsRun y.0.opening (y.1 ++ p ∷ [])) (λ i. (mine.1 i, mine.3 i)) run;
        each = each_set (Fits h.writer h.reader h.opening h.capacity sent h.taken) views pass w
            ((λ _. (mine.0, mine.1, mine.2, ap (λ l. l ++ p ∷ []) mine.3, mine.4)), (λ t. let o = (h.each pass v at).1 t in (o.0, o.1, o.2, omega (arith, o.3, longer))))
            (λ j u other e.
            let old = h.each j u e in
            ((λ s. absurd (other ((old.0 s).0 ∙ sym mine.0))), (λ t. let o = old.1 t in (o.0, o.1, o.2, omega (arith, o.3, longer)))));
      },
      refl,
    )

-- a push refused as full teaches that more was sent than the last meeting said was taken, by as many at least as the queue holds
pub fills : (pass : ℕ) (v : PassView) → v.pushes ≡ true → Learns KeepsRule pass v (IsFilled v)
fills pass v may items views h at =
    let mine = (h.each pass v at).0 may in
    omega (arith, mine.4, ap length mine.3, held_length h.sent h.taken items h.split)

-- a pop adds the front to what was taken, which stays a run, and keeps the rule
pub pops : (pass : ℕ) (v : PassView) → v.pops ≡ true → Pops KeepsRule pass v (IsPopped v)
pops pass v may x items views h at =
    let p : PostView = arc_value x in
    let w : PassView = record v { taken = v.taken ++ p ∷ [] } in
    let mine = (h.each pass v at).1 may in
    let taken = h.taken ++ p ∷ [] in
    let longer = length-append h.taken (p ∷ []) in (
      w,
      record {
        writer = h.writer;
        reader = h.reader;
        opening = h.opening;
        capacity = h.capacity;
        sent = h.sent;
        taken = taken;
        split = h.split ∙ sym (append_assoc h.taken (p ∷ []) (values items));
        held = omega (arith, h.held);
        run = h.run;
        each = each_set (Fits h.writer h.reader h.opening h.capacity h.sent taken) views pass w
            ((λ s. let o = (h.each pass v at).0 s in (o.0, o.1, o.2, o.3, omega (arith, o.4, longer))), (λ _. (mine.0, mine.1, ap (λ l. l ++ p ∷ []) mine.2, mine.3)))
            (λ j u other e.
            let old = h.each j u e in
            ((λ s. let o = old.0 s in (o.0, o.1, o.2, o.3, omega (arith, o.4, longer))), (λ t. absurd (other ((old.1 t).0 ∙ sym mine.0)))));
      },
      (
        refl,
        subst (λ (y : TaggedOpening × List PostView). IsRun y.0.opening (y.1 ++ p ∷ [])) (λ i. (sym mine.1 i, sym mine.2 i))
            (run_front h.opening.opening (h.taken ++ p ∷ []) (values items) (subst (IsRun h.opening.opening) (h.split ∙ sym (append_assoc h.taken (p ∷ []) (values items))) h.run)),
      ),
    )

-- a pop of none teaches that the last meeting told of no more posts than were taken and the queue holds
pub drains : (pass : ℕ) (v : PassView) → v.pops ≡ true → Learns KeepsRule pass v (IsDrained v)
drains pass v may items views h at =
    let mine = (h.each pass v at).1 may in
    omega (arith, mine.3, ap length mine.2, held_length h.sent h.taken items h.split)

-- a look by the pass that may push and pop teaches the rule over both its lists
pub balances : (pass : ℕ) (v : PassView) → v.pushes ≡ true → v.pops ≡ true → Learns KeepsRule pass v (IsBalanced v)
balances pass v may may' items views h at =
    let s = (h.each pass v at).0 may in
    let t = (h.each pass v at).1 may' in
    record {
      opening = s.1 ∙ sym t.1;
      split = s.3 ∙ h.split ∙ ap (λ l. l ++ values items) (sym t.2);
      held = omega (arith, h.held, s.2);
      met = omega (arith, s.4, ap length t.2);
      told = omega (arith, t.3, ap length s.3);
      run = subst (λ (y : TaggedOpening × List PostView). IsRun y.0.opening y.1) (λ i. (sym s.1 i, sym s.3 i)) h.run;
    }

-- a pop by this pass takes the next of what was sent
pub pops_left : (pass : ℕ) (v : PassView) → v.pushes ≡ true → v.pops ≡ true → Pops KeepsRule pass v (IsPoppedLeft v)
pops_left pass v may may' x items views h at =
    let r = pops pass v may' x items views h at in
    let s = (h.each pass v at).0 may in
    let t = (h.each pass v at).1 may' in
    (r.0, r.1, (r.2.0, (values items, s.3 ∙ h.split ∙ ap (λ l. l ++ values (x ∷ items)) (sym t.2) ∙ sym (append_assoc v.taken (arc_value x ∷ []) (values items)))))
