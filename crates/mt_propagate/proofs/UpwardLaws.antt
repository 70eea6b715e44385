-- Two chains along which the steps, and a test, agree.
use Rattle.std.proofs.Common.{◌≡◌, ℕ, zero, suc, Bool, true, cond, [], Option, Some, None, refl, sym, ap, ◌∙◌}
use Rattle.std.specs.List.{find}
use Rattle.std.specs.Option.{option_map_or, is_none}
use Rattle.mt_skel.specs.Chain.{chain, ends}
use Rattle.mt_skel.proofs.ChainLaws.{chain-last, chain-step}

module _ (old new : ℕ → Option ℕ) (s t : ℕ → Bool) (Here : ℕ → Type 0) (n : ℕ)
    (next : (x : ℕ) → Here x → old x ≡ new x) (test : (x : ℕ) → Here x → s x ≡ t x)
    (up : (x y : ℕ) → Here x → new x ≡ Some y → Here y) (ended : (x : ℕ) → ends new n x ≡ true) where
  -- the first that passes is the same
  pub find-chain : (f x : ℕ) → Here x → ends old f x ≡ true → find s (chain old f x) ≡ find t (chain new n x)
  find-chain zero x h e = by (old x) refl e
    where
      by : (a : Option ℕ) → old x ≡ a → is_none a ≡ true → cond (s x) (Some x) None ≡ find t (chain new n x)
      by None is o = ap (λ b. cond b (Some x) None) (test x h) ∙ ap (find t) (sym (chain-last new n x (sym (next x h) ∙ is)))
      by (Some y) is o = absurd (cc)
  find-chain (suc f) x h e = by (old x) refl e (λ y here o. find-chain f y here o)
    where
      by : (a : Option ℕ) → old x ≡ a → option_map_or (λ y. ends old f y) a true ≡ true → ((y : ℕ) → Here y → ends old f y ≡ true → find s (chain old f y) ≡ find t (chain new n y))
          → cond (s x) (Some x) (find s (option_map_or (λ y. chain old f y) a [])) ≡ find t (chain new n x)
      by None is o ih = ap (λ b. cond b (Some x) None) (test x h) ∙ ap (find t) (sym (chain-last new n x (sym (next x h) ∙ is)))
      by (Some y) is o ih =
          let u : new x ≡ Some y = sym (next x h) ∙ is in
          (λ j. cond (test x h j) (Some x) (ih y (up x y h u) o j)) ∙ ap (find t) (sym (chain-step new n x y u (ended x)))
