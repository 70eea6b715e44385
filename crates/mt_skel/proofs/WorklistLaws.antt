-- A worklist begins with a number, goes over its numbers in their order, and enters those that have the one gone over as their
-- next. It finds exactly the numbers from which some steps lead to the first, each once.
use Rattle.std.proofs.Common.{◌≡◌, ℕ, zero, suc, ◌+◌, ◌-◌, ◌≤◌, ◌<◌, Bool, true, false, cond, not, ◌&&◌, ◌||◌, ◌==◌, eqb, List, [], ◌∷◌, ◌++◌, take, drop, length, get_or, Option, Some, None, refl, sym, ap, subst, ◌∙◌, arith, add-zero, add-suc}
use Rattle.std.specs.List.{list_any}
use Rattle.std.specs.Option.{option_map_or}
use Rattle.std.proofs.lemmas.Bool.Decides.{nat_tests}
use Rattle.std.proofs.lemmas.List.Folds.{list_any-append}
use Rattle.std.proofs.lemmas.List.{length-append, take-append-drop, take-append-le, take_all}
use Rattle.std.proofs.Math.Seq.{take-suc, drop-cons}
use Rattle.mt_skel.specs.Chain.{chain}
use Rattle.mt_skel.specs.Keyed.{among}
use Rattle.mt_skel.specs.Counted.{occ}
use Rattle.mt_skel.proofs.CountLaws.{is_next, count-length, count-append, any-is, any-some, any-zero}

-- an optional number is in the list
abbrev pub is_found : List ℕ → Option ℕ → Bool
is_found found o = option_map_or (among found) o false

pub is_found-snoc : (done : List ℕ) (m : ℕ) (o : Option ℕ) → is_found (done ++ m ∷ []) o ≡ (is_found done o || is_next o m)
is_found-snoc done m None = refl
is_found-snoc done m (Some k) = list_any-append (λ j. eqb j k) done (m ∷ []) ∙ ap (λ b. among done k || b) (grind (arith, nat_tests))

-- a number that was not gone over is the next of none whose next was
pub apart-new : (done : List ℕ) (m : ℕ) → occ m done ≡ 0 → (o : Option ℕ) → (is_found done o && is_next o m) ≡ false
apart-new done m new None = refl
apart-new done m new (Some k) = grind (arith, nat_tests, any-zero (λ j. eqb j m) done new)

module _ (next : ℕ → Option ℕ) (g : ℕ) where
  -- g is h, or is met from h by this many steps at most
  abbrev pub within : ℕ → ℕ → Bool
  within n h = list_any (λ k. k == g) (chain next n h)

  pub within-suc : (n h : ℕ) → within (suc n) h ≡ ((h == g) || option_map_or (λ m. within n m) (next h) false)
  within-suc n h = grind arith

  within-more : (n h : ℕ) → within n h ≡ true → within (suc n) h ≡ true
  within-more zero h e = within-suc zero h ∙ grind (arith, nat_tests)
  within-more (suc n) h e = let ih = λ (m : ℕ). within-more n m in grind (arith, within-suc (suc n) h, within-suc n h, ih)

  pub within-self : (n h : ℕ) → (h == g) ≡ true → within n h ≡ true
  within-self zero h e = grind (arith, nat_tests)
  within-self (suc n) h e = within-suc n h ∙ grind (arith, nat_tests)

  within-plus : (d n h : ℕ) → within n h ≡ true → within (n + d) h ≡ true
  within-plus zero n h e = ap (λ k. within k h) (add-zero n) ∙ e
  within-plus (suc d) n h e = ap (λ k. within k h) (add-suc n d) ∙ within-more (n + d) h (within-plus d n h e)

  pub within-lift : (n k h : ℕ) → n ≤ k → within n h ≡ true → within k h ≡ true
  within-lift n k h l e = let whole : n + (k - n) ≡ k = omega (arith, l) in ap (λ j. within j h) (sym whole) ∙ within-plus (k - n) n h e

  -- `found` holds g and, with a number, all that have it as their next: so it holds all from which g is met
  module _ (found : ℕ → Bool) (start : found g ≡ true) (closed : (h m : ℕ) → next h ≡ Some m → found m ≡ true → found h ≡ true) where
    pub found_all : (n : ℕ) (h : ℕ) → within n h ≡ true → found h ≡ true
    found_all zero h e = let s : h ≡ g = grind (arith, nat_tests) in rw s start
    found_all (suc n) h e = let ih = λ (m : ℕ). found_all n m in grind (arith, nat_tests, within-suc n h, ih, start, closed h)

  -- those that have one of `done` as their next were entered after g, and make up `all` with it
  pub record IsGathered (done all : List ℕ) : Type 0 where
    pub once : (h : ℕ) → occ h all ≡ cond ((h == g) || is_found done (next h)) 1 0
    pub sound : (h : ℕ) → among all h ≡ true → within (length all - 1) h ≡ true

  pub gathered-start : IsGathered [] (g ∷ [])
  gathered-start = record {
    once = λ h. grind (arith, nat_tests);
    sound = λ h e. within-self 0 h (grind (arith, nat_tests));
  }

  module _ (done all : List ℕ) (w : IsGathered done all) where
    -- what was entered is g, or has a number that was gone over as its next
    pub there : (h : ℕ) → among all h ≡ ((h == g) || is_found done (next h))
    there h = any-is (λ j. eqb j h) all ((h == g) || is_found done (next h)) (w.once h)

    -- one number more was gone over
    module _ (m : ℕ) (more : List ℕ) (right : (h : ℕ) → occ h more ≡ cond (not (h == g) && is_next (next h) m) 1 0) (new : occ m done ≡ 0) (entered : among all m ≡ true) where
      step-once : (h : ℕ) → occ h (all ++ more) ≡ cond ((h == g) || is_found (done ++ m ∷ []) (next h)) 1 0
      step-once h =
          grind (arith, count-append (λ j. j == h) all more, w.once h, right h, apart-new done m new (next h), is_found-snoc done m (next h))

      -- a number that is new has its next among the old ones
      fresh : (h : ℕ) → (h == g) ≡ false → is_next (next h) m ≡ true → within (length (all ++ more) - 1) h ≡ true
      fresh h off is =
          let one : occ h more ≡ 1 = grind (arith, right h) in
          let longer : length all < length (all ++ more) = omega (arith, one, count-length (λ j. j == h) more, length-append all more) in
          let some : 1 ≤ length all = omega (arith, any-some (λ j. eqb j m) all entered, count-length (λ j. eqb j m) all) in
          let step : within (suc (length all - 1)) h ≡ true = grind (arith, nat_tests, within-suc (length all - 1) h, w.sound m entered) in
          within-lift (suc (length all - 1)) (length (all ++ more) - 1) h (omega (arith, longer, some)) step

      step-sound : (h : ℕ) → ((h == g) || is_found (done ++ m ∷ []) (next h)) ≡ true → within (length (all ++ more) - 1) h ≡ true
      step-sound h e =
          let end = length (all ++ more) - 1 in
          let old = λ (s : among all h ≡ true). within-lift (length all - 1) end h (omega (arith, length-append all more)) (w.sound h s) in
          grind (arith, is_found-snoc done m (next h), there h, within-self end h, old, fresh h)

      pub gathered-step : IsGathered (done ++ m ∷ []) (all ++ more)
      gathered-step = record {
        once = step-once;
        sound = λ h e. step-sound h (sym (any-is (λ j. eqb j h) (all ++ more) _ (step-once h)) ∙ e);
      }

  -- once all were gone over, these are all from which g is met
  pub gathered-all : (all : List ℕ) (n : ℕ) → IsGathered all all → length all ≤ suc n → (h : ℕ) → among all h ≡ within n h
  gathered-all all n w few h =
      let sound = λ (e : among all h ≡ true). within-lift (length all - 1) n h (omega (arith, few)) (w.sound h e) in
      let complete = found_all (among all) (there all all w g ∙ grind (arith, nat_tests)) (λ k m e f. grind (arith, there all all w k)) n h in
      grind (arith, sound, complete)

  -- one number more of the list is gone over: it is new, and it was entered
  module _ (i d : ℕ) (all : List ℕ) (w : IsGathered (take i all) all) (in_all : i < length all) where
    pub next-new : (occ (get_or all i d) (take i all) ≡ 0) × (among all (get_or all i d) ≡ true)
    next-new =
        let m = get_or all i d in
        let later = drop (suc i) all in
        let self : occ m (m ∷ later) ≡ suc (occ m later) = grind (arith, nat_tests) in
        let parts = ap (occ m) (sym (take-append-drop i all) ∙ ap (λ l. take i all ++ l) (drop-cons all i d in_all)) ∙ count-append (λ j. j == m) (take i all) (m ∷ later) in
        let both = one _ (occ m all) (occ m (take i all)) (occ m later) (w.once m) (omega (arith, self, parts)) in
        (both.0, any-is (λ j. eqb j m) all true both.1)
      where
        one : (b : Bool) (n before after : ℕ) → n ≡ cond b 1 0 → n ≡ before + suc after → (before ≡ 0) × (n ≡ 1)
        one b n before after e f = grind arith

    pub front-next : (more : List ℕ) → take (i + 1) (all ++ more) ≡ take i all ++ get_or all i d ∷ []
    front-next more =
        let one : i + 1 ≡ suc i = omega arith in
        ap (λ k. take k (all ++ more)) one ∙ take-append-le (suc i) all more (omega arith) ∙ take-suc all i d in_all

    pub gathered-next : (more : List ℕ) → ((h : ℕ) → occ h more ≡ cond (not (h == g) && is_next (next h) (get_or all i d)) 1 0) → IsGathered (take (i + 1) (all ++ more)) (all ++ more)
    gathered-next more right = subst (λ done. IsGathered done (all ++ more)) (sym (front-next more)) (gathered-step (take i all) all w (get_or all i d) more right next-new.0 next-new.1)

  -- at the end of the list
  pub gathered-end : (i : ℕ) (all : List ℕ) → IsGathered (take i all) all → length all ≤ i → IsGathered all all
  gathered-end i all w l = subst (λ done. IsGathered done all) (take_all i all l) w
