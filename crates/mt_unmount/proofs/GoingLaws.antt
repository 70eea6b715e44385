-- Which of the mounts that may go do: told by the mounts from each of them up.
use Rattle.std.proofs.Common.{◌≡◌, ◌⊎◌, ℕ, zero, suc, Bool, true, false, not, ◌&&◌, ◌||◌, List, [], ◌∷◌, length, Option, Some, None, refl, sym, ap, subst, ◌∙◌, inl, inr}
use Rattle.std.specs.List.{list_any}
use Rattle.std.specs.Option.{option_map_or, is_none}
use Rattle.std.proofs.lemmas.Bool.{true≢false, and_parts, and_from, or_left, or_right}
use Rattle.std.proofs.Math.Bool.{or-false}
use Rattle.mt_skel.specs.Chain.{chain, ends}
use Rattle.mt_skel.proofs.ChainLaws.{chain-step, chain-last}
use Rattle.mt_mounts.specs.Forest.{parent, parents_up}
use Rattle.mt_propagate.specs.World.{WorldView, space_of}
use Rattle.mt_propagate.specs.WellFormed.{IsWellFormed}
use Rattle.mt_propagate.specs.Contained.{IsContained}
use Rattle.mt_unmount.specs.Sliding.{place_of, stands_inside, is_inside, CanGo}
use Rattle.mt_unmount.specs.Detaching.{is_candidate, is_detached, is_free, goes_up, is_taken}
use Rattle.mt_unmount.specs.Laws.{RevealsNothing}
use Rattle.mt_unmount.proofs.CandidateLaws.{detached-inside, detached-most, detached-can-go}
use Rattle.mt_unmount.proofs.StandingLaws.{within-place, parent-place}

module _ (w : WorldView) (h : IsWellFormed w) where
  -- what is told by the mount itself, and by the one on which it stands
  going-step : (may free : ℕ → Bool) (j k : ℕ) → parent w.forest j ≡ Some k → goes_up may free (parents_up w.forest j) ≡ (may j && (free j || goes_up may free (parents_up w.forest k)))
  going-step may free j k up = ap (goes_up may free) (chain-step (parent w.forest) (length w.forest) j k up (h.forest.no_cycle j))

  going-last : (may free : ℕ → Bool) (j : ℕ) → parent w.forest j ≡ None → goes_up may free (parents_up w.forest j) ≡ (may j && free j)
  going-last may free j none = ap (goes_up may free) (chain-last (parent w.forest) (length w.forest) j none) ∙ ap (λ b. may j && b) (or-false (free j))

  -- a mount that goes may go
  going-may : (may free : ℕ → Bool) (j : ℕ) → goes_up may free (parents_up w.forest j) ≡ true → may j ≡ true
  going-may may free j e = go (parent w.forest j) refl
    where
      go : (o : Option ℕ) → parent w.forest j ≡ o → may j ≡ true
      go None up = (and_parts (may j) (free j) (sym (going-last may free j up) ∙ e)).0
      go (Some k) up = (and_parts (may j) (free j || goes_up may free (parents_up w.forest k)) (sym (going-step may free j k up) ∙ e)).0

  -- one that may go and goes for itself does, and one that may go with a mount that goes
  going-free : (may free : ℕ → Bool) (j : ℕ) → may j ≡ true → free j ≡ true → goes_up may free (parents_up w.forest j) ≡ true
  going-free may free j m f = go (parent w.forest j) refl
    where
      go : (o : Option ℕ) → parent w.forest j ≡ o → goes_up may free (parents_up w.forest j) ≡ true
      go None up = going-last may free j up ∙ and_from (may j) (free j) m f
      go (Some k) up = going-step may free j k up ∙ and_from (may j) _ m (or_left (free j) _ f)

  going-with : (may free : ℕ → Bool) (j k : ℕ) → parent w.forest j ≡ Some k → may j ≡ true → goes_up may free (parents_up w.forest k) ≡ true → goes_up may free (parents_up w.forest j) ≡ true
  going-with may free j k up m g = going-step may free j k up ∙ and_from (may j) _ m (or_right (free j) _ g)

  module _ (i : ℕ) where
    pub taken-detached : (j : ℕ) → is_taken w i j ≡ true → is_detached w i j ≡ true
    taken-detached j e = going-may (is_detached w i) (is_free w i) j e

    pub taken-inside : (family : ℕ → Bool) → IsContained family w → family (space_of w i) ≡ true → (j : ℕ) → is_taken w i j ≡ true → family (space_of w j) ≡ true
    taken-inside family c here j e = detached-inside w h i family c here j (taken-detached j e)

    -- what goes reveals nothing
    pub taken-reveals : RevealsNothing w i (is_taken w i)
    taken-reveals j e = go (parent w.forest j) refl
      where
        either : (b : Bool) → is_free w i j ≡ b → (k : ℕ) → parent w.forest j ≡ Some k → (b || is_taken w i k) ≡ true → (is_free w i j ≡ true) ⊎ ((k : ℕ) × (parent w.forest j ≡ Some k) × (is_taken w i k ≡ true))
        either true f k up t = inl f
        either false f k up t = inr (k, up, t)

        go : (o : Option ℕ) → parent w.forest j ≡ o → (is_free w i j ≡ true) ⊎ ((k : ℕ) × (parent w.forest j ≡ Some k) × (is_taken w i k ≡ true))
        go None up = inl (and_parts (is_detached w i j) (is_free w i j) (sym (going-last (is_detached w i) (is_free w i) j up) ∙ e)).1
        go (Some k) up = either (is_free w i j) refl k up (and_parts (is_detached w i j) (is_free w i j || is_taken w i k) (sym (going-step (is_detached w i) (is_free w i) j k up) ∙ e)).1

    -- candidates that can go and reveal nothing are among those that go
    pub taken-most : (goes : ℕ → Bool) → ((j : ℕ) → goes j ≡ true → is_candidate w i j ≡ true) → CanGo w goes → RevealsNothing w i goes → (j : ℕ) → goes j ≡ true → is_taken w i j ≡ true
    taken-most goes within can reveals j e = climb (length w.forest) j (h.forest.no_cycle j) e
      where
        may : (x : ℕ) → goes x ≡ true → is_detached w i x ≡ true
        may x g = detached-most w h i goes within can x g

        by : (x : ℕ) → goes x ≡ true → (is_free w i x ≡ true) ⊎ ((k : ℕ) × (parent w.forest x ≡ Some k) × (goes k ≡ true)) → ((k : ℕ) → parent w.forest x ≡ Some k → goes k ≡ true → is_taken w i k ≡ true) → is_taken w i x ≡ true
        by x g (inl f) above = going-free (is_detached w i) (is_free w i) x (may x g) f
        by x g (inr up) above = going-with (is_detached w i) (is_free w i) x up.0 up.1 (may x g) (above up.0 up.1 up.2)

        climb : (n : ℕ) (x : ℕ) → ends (parent w.forest) n x ≡ true → goes x ≡ true → is_taken w i x ≡ true
        climb zero x last g = by x g (reveals x g) (λ k up more. absurd (true≢false (sym last ∙ ap is_none up)))
        climb (suc n) x last g = by x g (reveals x g) (λ k up more. climb n k (sym (ap (λ o. option_map_or (λ y. ends (parent w.forest) n y) o true) up) ∙ last) more)

    module _ (rooted : is_none (place_of w i) ≡ false) where
      -- what is inside one that goes may go, and so may each mount between: so it goes with that one
      pub taken-can-go : CanGo w (is_taken w i)
      taken-can-go = record {
        placed = λ j m e at. (detached-can-go w h i rooted).placed j m (taken-detached j e) at;
        inside = λ k j e is. below k e (length w.forest) j is is;
      }
        where
          stands : (k j : ℕ) → is_taken w i k ≡ true → is_inside w k j ≡ true → stands_inside w k j ≡ true → is_taken w i j ≡ true
          stands k j e is on =
              let p = within-place w k j on in
              going-with (is_detached w i) (is_free w i) j k (parent-place w j p.0 p.1 ∙ ap (λ x. Some x) p.2) ((detached-can-go w h i rooted).inside k j (taken-detached k e) is) e

          -- it stands inside the mount itself, or the one on which it stands is inside
          by : (k : ℕ) → is_taken w i k ≡ true → (n j : ℕ) → is_inside w k j ≡ true
              → ((y : ℕ) → is_inside w k y ≡ true → list_any (stands_inside w k) (chain (parent w.forest) n y) ≡ true → is_taken w i y ≡ true)
              → (b : Bool) → stands_inside w k j ≡ b → (o : Option ℕ) → parent w.forest j ≡ o
              → (b || list_any (stands_inside w k) (option_map_or (λ y. chain (parent w.forest) n y) o [])) ≡ true → is_taken w i j ≡ true
          by k e n j is above true on o up rest = stands k j e is on
          by k e n j is above false off None up rest = absurd (true≢false (sym rest))
          by k e n j is above false off (Some y) up rest =
              let inside_y : is_inside w k y ≡ true =
              ap (λ b. b || is_inside w k y) (sym off) ∙ sym (ap (list_any (stands_inside w k)) (chain-step (parent w.forest) (length w.forest) j y up (h.forest.no_cycle j))) ∙ is in
              going-with (is_detached w i) (is_free w i) j y up ((detached-can-go w h i rooted).inside k j (taken-detached k e) is) (above y inside_y rest)

          below : (k : ℕ) → is_taken w i k ≡ true → (n : ℕ) (j : ℕ) → is_inside w k j ≡ true → list_any (stands_inside w k) (chain (parent w.forest) n j) ≡ true → is_taken w i j ≡ true
          below k e zero j is any = stands k j e is (sym (or-false (stands_inside w k j)) ∙ any)
          below k e (suc n) j is any = by k e n j is (λ y. below k e n y) (stands_inside w k j) refl (parent w.forest j) refl any
