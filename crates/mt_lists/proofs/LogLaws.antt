-- What stays alike where more IDs are noted.
use Rattle.std.proofs.Common.{◌≡◌, ◌≢◌, ℕ, false, ◌||◌, eqb, eq-eqb, List, [], ◌∷◌, ◌++◌, sym, ap, ◌∙◌}
use Rattle.std.proofs.lemmas.Bool.{false≢true, or_parts}
use Rattle.std.proofs.lemmas.List.Folds.{list_any-append}
use Rattle.mt_skel.specs.Keyed.{among}
use Rattle.mt_lists.specs.Log.{AreAlikeBut}

-- an ID that is not among two lists is in neither
pub not-first : (xs ys : List ℕ) (i : ℕ) → among (xs ++ ys) i ≡ false → among xs i ≡ false
not-first xs ys i e = (or_parts (among xs i) (among ys i) (sym (list_any-append (λ k. eqb k i) xs ys) ∙ e)).0

pub not-second : (xs ys : List ℕ) (i : ℕ) → among (xs ++ ys) i ≡ false → among ys i ≡ false
not-second xs ys i e = (or_parts (among xs i) (among ys i) (sym (list_any-append (λ k. eqb k i) xs ys) ∙ e)).1

-- an ID that is not the one of a list is another
pub not-only : (k i : ℕ) → among (k ∷ []) i ≡ false → i ≢ k
not-only k i e h = false≢true (sym e ∙ ap (λ b. b || false) (eq-eqb k i (sym h)))

module _ {A : Type 0} where
  -- what was alike except for some is so except for these and more, where more changed
  pub alike-more : (xs ys : List ℕ) (f g h : ℕ → A) → AreAlikeBut xs f g → AreAlikeBut ys g h → AreAlikeBut (xs ++ ys) f h
  alike-more xs ys f g h a b i e = a i (not-first xs ys i e) ∙ b i (not-second xs ys i e)

  -- and with what was noted
  pub alike-noted : (xs ys all : List ℕ) (f g h : ℕ → A) → all ≡ xs ++ ys → AreAlikeBut xs f g → AreAlikeBut ys g h → AreAlikeBut all f h
  alike-noted xs ys all f g h n a b i e = alike-more xs ys f g h a b i (ap (λ l. among l i) (sym n) ∙ e)

  -- a change of what is looked up with no ID noted
  pub alike-as : (xs : List ℕ) (f g h : ℕ → A) → AreAlikeBut xs f g → ((i : ℕ) → g i ≡ h i) → AreAlikeBut xs f h
  alike-as xs f g h a s i e = a i e ∙ s i
