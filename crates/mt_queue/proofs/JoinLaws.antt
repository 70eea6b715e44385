-- A pass that takes in what another knows keeps the rule.
use Rattle.std.proofs.Common.{◌≡◌, ◌≢◌, ℕ, true, List, length, set, refl, sym, ap, ◌∙◌, ⊎_elim, arith}
use mathlib.Core.Option.{some}
use lib.ListN.{get_elem?}
use Rattle.crossbeam_queue.proofs.Lists.{at_set}
use Rattle.crossbeam_queue.specs.Fifo.{Merges, Learns}
use Rattle.mt_queue.specs.declared.rule.PassView.{PassView}
use Rattle.mt_queue.specs.PassViews.{spent, joined, impossible}
use Rattle.mt_queue.specs.Rule.{Fits, KeepsRule}
use Rattle.mt_queue.proofs.ViewLaws.{off, Each, each_set}

-- the sender's pass takes the receiver's in
pub joins : (pass : ℕ) (v : PassView) (other : ℕ) (u : PassView) → v.pushes ≡ true → u.pops ≡ true → Merges KeepsRule pass v other u (joined v u) spent
joins pass v other u may may' items views h at two at' =
    let both : PassView = joined v u in
    let s = (h.each pass v at).0 may in
    let vs : List PassView = set views pass both in
    let was : get_elem? views other ≡ some u = ⊎_elim (λ x. absurd (two x.0)) (λ x. x.1) (at_set views pass other both u at') in
    let t = (h.each other u was).1 may' in
    let Now : ℕ → PassView → Type 0 = λ j y. j ≢ other → Fits h.writer pass h.opening h.capacity h.sent h.taken j y in
    let now : Each Now vs = each_set Now views pass both (λ _. ((λ _. s), λ _. (refl, t.1, t.2, t.3)))
    (λ j y apart e aside. ((λ k. absurd (apart (((h.each j y e).0 k).0 ∙ sym s.0))), λ k. absurd (aside (((h.each j y e).1 k).0 ∙ sym t.0)))) in
    record {
      writer = h.writer;
      reader = pass;
      opening = h.opening;
      capacity = h.capacity;
      sent = h.sent;
      taken = h.taken;
      split = h.split;
      held = h.held;
      run = h.run;
      each = each_set (Fits h.writer pass h.opening h.capacity h.sent h.taken) vs other spent ((λ k. absurd (off k)), λ k. absurd (off k)) (λ j y apart e. now j y e apart);
    }

-- two passes that may take are not of one line
pub clashes : (pass : ℕ) (v : PassView) (other : ℕ) (u : PassView) → v.pops ≡ true → u.pops ≡ true → Merges KeepsRule pass v other u impossible spent
clashes pass v other u may may' items views h at two at' =
    let t = (h.each pass v at).1 may in
    let was : get_elem? views other ≡ some u = ⊎_elim (λ x. absurd (two x.0)) (λ x. x.1) (at_set views pass other impossible u at') in
    let t' = (h.each other u was).1 may' in
    absurd (two (t'.0 ∙ sym t.0))

pub never : (pass : ℕ) → Learns KeepsRule pass impossible (λ items. ⊥)
never pass items views h at =
    let s = (h.each pass impossible at).0 refl in
    let t = (h.each pass impossible at).1 refl in
    absurd (omega (arith, t.3, ap length s.3))
