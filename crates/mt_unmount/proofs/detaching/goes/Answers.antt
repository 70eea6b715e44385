use Rattle.std.proofs.Common.{◌≡◌, ℕ, suc, ◌-◌, ◌+◌, ◌<◌, Bool, true, false, not, ◌&&◌, ◌||◌, [], Option, Some, length, sym, ap, ◌∙◌, arith}
use Rattle.std.specs.Option.{option_map_or}
use Rattle.mt_skel.specs.Keyed.{among}
use Rattle.mt_skel.specs.Chain.{chain}
use Rattle.mt_mounts.specs.Forest.{parent}
use Rattle.mt_mounts.proofs.Walks.{fuel_step}
use Rattle.mt_unmount.specs.Detaching.{goes_up}
use Rattle.mt_unmount.proofs.detaching.goes.Goals as goal

-- a mount that may go, and not for itself, goes if the one on which it stands does
going_on : (may free : ℕ → Bool) (next : ℕ → Option ℕ) (n x y : ℕ) → may x ≡ true → free x ≡ false → next x ≡ Some y → goes_up may free (chain next (suc n) x) ≡ goes_up may free (chain next n y)
going_on may free next n x y m f e =
    ap (λ o. may x && (free x || goes_up may free (option_map_or (λ z. chain next n z) o []))) e ∙ (λ i. m i && (f i || goes_up may free (chain next n y)))

pub up-preserved : goal.up-preserved
up-preserved c =
    let ms = c.args.world.now.forest.mounts in
    let n = length ms in
    let may : ℕ → Bool = among c.args.loose.now in
    let free : ℕ → Bool = λ j. not (among c.args.bound.now j) in
    let more : c.up._step < n = omega (arith, c.up-test.true, c.len-step-end.ensures) in
    record {
      within = omega arith;
      tells = sym (going_on may free (parent ms) (n - (c.up._step + 1)) c.up.here c.in-Some.parent (sym c.has.ensures ∙ c.if-not-has.false) (ap not (sym c.has-in-up.ensures ∙ c.if-not-has-2.false)) (sym c.parent.ensures ∙ c.in-Some.is))
          ∙ ap (λ k. goes_up may free (chain (parent ms) k c.up.here)) (sym (fuel_step n c.up._step more))
          ∙ c.up.invariant.tells;
    }
