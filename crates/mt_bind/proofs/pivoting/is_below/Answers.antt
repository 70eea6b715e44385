use Rattle.std.proofs.Common.{◌≡◌, ℕ, ◌-◌, ◌+◌, ◌<◌, false, ◌||◌, eqb, length, sym, ap, ◌∙◌, arith}
use Rattle.std.proofs.lemmas.Bool.{ne_eqb}
use Rattle.std.proofs.lemmas.Bool.Decides.{nat_tests}
use Rattle.mt_mounts.proofs.Walks.{below_within, below_here, below_stop, below_step, fuel_step}
use Rattle.mt_bind.proofs.pivoting.is_below.Goals as goal

pub returns-then-here-top : goal.returns-then-here-top
returns-then-here-top c = sym (below_here c.args.forest.now.mounts c.args.top _ _ c.if-here-top.true) ∙ c.up.invariant.leads

pub returns-in_default : goal.returns-in_default
returns-in_default c =
    sym (below_stop c.args.forest.now.mounts c.args.top _ _ (sym c.parent.ensures ∙ c.in_default.is) ∙ ap (λ b. b || false) (ne_eqb c.args.top c.up.here (λ s. c.if-here-top.false (sym s))))
    ∙ c.up.invariant.leads

pub up-preserved : goal.up-preserved
up-preserved c =
    let ms = c.args.forest.now.mounts in
    let n = length ms in
    let more : c.up._step < n = omega (arith, c.up-test.true, c.len-step-end.ensures) in
    record {
      within = omega arith;
      leads = sym (below_step ms c.args.top (n - (c.up._step + 1)) c.up.here c.in-Some.parent c.if-here-top.false (sym c.parent.ensures ∙ c.in-Some.is))
          ∙ ap (λ k. below_within ms c.args.top k c.up.here) (sym (fuel_step n c.up._step more))
          ∙ c.up.invariant.leads;
    }

pub returns : goal.returns
returns c =
    let ms = c.args.forest.now.mounts in
    let none : length ms - c.up._step ≡ 0 = omega (arith, c.up-test.false, c.len-step-end.ensures) in
    turned c.args.top c.up.here ∙ ap (λ k. below_within ms c.args.top k c.up.here) (sym none) ∙ c.up.invariant.leads
  where
    turned : (a b : ℕ) → eqb b a ≡ (eqb a b || false)
    turned a b = grind (arith, nat_tests)
