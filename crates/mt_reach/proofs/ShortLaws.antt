-- Steps of a partial function that goes on from the numbers of a list alone, be it in a ring: what is met from a number is met in
-- as many steps as the list is long.
use Rattle.std.proofs.Common.{◌≡◌, ◌⊎◌, ℕ, zero, suc, ◌≤◌, ◌<◌, Bool, true, false, not, ◌||◌, ◌==◌, List, [], ◌∷◌, length, Option, Some, None, refl, sym, ap, ◌∙◌, inl, inr, arith}
use Rattle.std.specs.List.{list_all}
use Rattle.std.specs.Option.{option_map_or}
use Rattle.std.proofs.lemmas.Bool.Decides.{nat_tests}
use Rattle.mt_skel.specs.Keyed.{among}
use Rattle.mt_skel.specs.Counted.{count}
use Rattle.mt_skel.proofs.CountLaws.{count-length}
use Rattle.mt_skel.proofs.WorklistLaws.{within, within-suc, within-self, within-lift}

-- one test passes where the other does, and somewhere else too: so it counts more
module _ (p q : ℕ → Bool) (more : (x : ℕ) → p x ≡ true → q x ≡ true) where
  count-le : (xs : List ℕ) → count p xs ≤ count q xs
  count-le [] = omega arith
  count-le (x ∷ xs) = grind (arith, more x, count-le xs)

  count-less : (xs : List ℕ) → list_all (λ x. not (q x) || p x) xs ≡ false → count p xs < count q xs
  count-less [] some = absurd (cc)
  count-less (x ∷ xs) some = grind (arith, more x, count-le xs, count-less xs)

module _ (next : ℕ → Option ℕ) (g : ℕ) (ks : List ℕ) (known : (h m : ℕ) → next h ≡ Some m → among ks h ≡ true) where
  within-more : (n h : ℕ) → within next g n h ≡ true → within next g (suc n) h ≡ true
  within-more n h e = within-lift next g n (suc n) h (omega arith) e

  -- with one step more no number of the list meets g that did not before
  abbrev is_stable : ℕ → Bool
  is_stable n = list_all (λ h. not (within next g (suc n) h) || within next g n h) ks

  all_among : (p : ℕ → Bool) (xs : List ℕ) (h : ℕ) → list_all p xs ≡ true → among xs h ≡ true → p h ≡ true
  all_among p [] h all at = absurd (cc)
  all_among p (x ∷ xs) h all at = let same = λ (e : x ≡ h). ap p e in grind (arith, nat_tests, all_among p xs h, same)

  -- nor does any other number
  stable_all : (n h : ℕ) → is_stable n ≡ true → within next g (suc n) h ≡ true → within next g n h ≡ true
  stable_all n h all met = go (next h) refl (sym (within-suc next g n h) ∙ met)
    where
      go : (o : Option ℕ) → next h ≡ o → ((h == g) || option_map_or (λ m. within next g n m) o false) ≡ true → within next g n h ≡ true
      go None is e = within-self next g n h (grind arith)
      go (Some m) is e = let one = all_among (λ h. not (within next g (suc n) h) || within next g n h) ks h all (known h m is) in grind arith

  stable_more : (n h : ℕ) → is_stable n ≡ true → within next g (suc (suc n)) h ≡ true → within next g (suc n) h ≡ true
  stable_more n h all met = go (next h) refl (sym (within-suc next g (suc n) h) ∙ met) (within-suc next g n h)
    where
      go : (o : Option ℕ) → next h ≡ o → ((h == g) || option_map_or (λ m. within next g (suc n) m) o false) ≡ true
          → within next g (suc n) h ≡ ((h == g) || option_map_or (λ m. within next g n m) (next h) false) → within next g (suc n) h ≡ true
      go None is e s = s ∙ grind arith
      go (Some m) is e s = let one = stable_all n m all in s ∙ grind arith

  all_pass : (p : ℕ → Bool) (xs : List ℕ) → ((h : ℕ) → p h ≡ true) → list_all p xs ≡ true
  all_pass p [] each = refl
  all_pass p (x ∷ xs) each = grind (arith, each x, all_pass p xs each)

  stable_suc : (n : ℕ) → is_stable n ≡ true → is_stable (suc n) ≡ true
  stable_suc n all = all_pass _ ks (λ h. let one = stable_more n h all in grind arith)

  -- so long as numbers are met with each step more, there are as many as steps
  grown : (n : ℕ) → (is_stable n ≡ true) ⊎ (n < count (within next g (suc n)) ks)
  grown zero = go (is_stable zero) refl
    where
      go : (b : Bool) → is_stable zero ≡ b → (is_stable zero ≡ true) ⊎ (zero < count (within next g (suc zero)) ks)
      go true is = inl is
      go false is = let l = count-less (within next g zero) (within next g (suc zero)) (within-more zero) ks is in inr (omega arith)
  grown (suc n) = elim (grown n) [
    | inl is ↦ inl (stable_suc n is)
    | inr few ↦ go (is_stable (suc n)) refl few
  ]
    where
      go : (b : Bool) → is_stable (suc n) ≡ b → n < count (within next g (suc n)) ks → (is_stable (suc n) ≡ true) ⊎ (suc n < count (within next g (suc (suc n))) ks)
      go true is few = inl is
      go false is few = let l = count-less (within next g (suc n)) (within next g (suc (suc n))) (within-more (suc n)) ks is in inr (omega arith)

  all_stable : (n : ℕ) → length ks ≤ n → is_stable n ≡ true
  all_stable n l = elim (grown n) [ inl is ↦ is | inr few ↦ absurd (let most = count-length (within next g (suc n)) ks in omega arith) ]

  -- a number meets g if it is g, or if the next one meets it in as many steps
  pub meets-next : (n h : ℕ) → length ks ≤ n → within next g n h ≡ ((h == g) || option_map_or (λ m. within next g n m) (next h) false)
  meets-next n h l = let s = all_stable n l in same (within-more n h) (stable_all n h s) ∙ within-suc next g n h
    where
      same : (within next g n h ≡ true → within next g (suc n) h ≡ true) → (within next g (suc n) h ≡ true → within next g n h ≡ true) → within next g n h ≡ within next g (suc n) h
      same a b = grind arith
