-- Mounts by their places, of which the first one at a place counts.
use Rattle.std.proofs.Common.{◌≡◌, ℕ, ◌+◌, ◌<◌, ◌≤◌, Bool, true, false, cond, List, drop, length, get_or, Option, Some, None, refl, sym, ap, ◌∙◌}
use Rattle.std.specs.Option.{option_or}
use Rattle.std.proofs.lemmas.List.{drop_more, drop_all}
use Rattle.mt_mounts.specs.declared.mount.Mount.{Mount}
use Rattle.mt_mounts.specs.declared.mount.Place.{Place}
use Rattle.mt_mounts.specs.Forest.{on, is_at}

or_none : (o : Option Mount) → o ≡ option_or o None
or_none None = refl
or_none (Some m) = refl

or_joined : (o rest : Option Mount) (b : Bool) (m : Mount) → option_or (option_or o (cond b (Some m) None)) rest ≡ option_or o (cond b (Some m) rest)
or_joined (Some y) rest b m = refl
or_joined None rest true m = refl
or_joined None rest false m = refl

-- what is known of places finds the mounts that stand there, except for those that are left: g before the next mount, n after it
module _ (ms : List Mount) (i : ℕ) (g : Place → Option Mount) (before : (p : Place) → option_or (g p) (on (drop i ms) p) ≡ on ms p) where
  pub standing-step : (x : Mount) (n : Place → Option Mount) → i < length ms → ((p : Place) → n p ≡ option_or (g p) (cond (is_at p (get_or ms i x)) (Some (get_or ms i x)) None))
      → (p : Place) → option_or (n p) (on (drop (i + 1) ms) p) ≡ on ms p
  standing-step x n l adds p =
      let rest : List Mount = drop (i + 1) ms in
      ap (λ o. option_or o (on rest p)) (adds p) ∙ or_joined (g p) (on rest p) (is_at p (get_or ms i x)) (get_or ms i x) ∙ ap (λ r. option_or (g p) (on r p)) (sym (drop_more ms i x l)) ∙ before p

  pub standing-all : length ms ≤ i → (p : Place) → g p ≡ on ms p
  standing-all l p = or_none (g p) ∙ ap (λ r. option_or (g p) (on r p)) (sym (drop_all i ms l)) ∙ before p
