-- Where a namespace stands among some by rising number.
use Rattle.std.proofs.Common.{◌≡◌, ℕ, zero, suc, ◌<◌, Bool, true, false, ◌==◌, eqb, eq-eqb, List, [], ◌∷◌, length, Some, None, refl, sym, ap, ◌∙◌, arith}
use Rattle.std.specs.Prelude.{nat_lt}
use Rattle.std.specs.List.{list_all, HoldsAt}
use Rattle.std.specs.Ordering.{nat_cmp}
use Rattle.std.specs.declared.cmp.Ordering.TheVariants.{Equal}
use Rattle.std.proofs.lemmas.Bool.Decides.{nat_tests}
use Rattle.std.proofs.lemmas.Cmp.{ranked}
use Rattle.mt_skel.specs.Keyed.{row_at, rises}
use Rattle.mt_skel.proofs.MiddleLaws.{and_first, and_second}
use Rattle.mt_book.specs.Book.{space_in}
use Rattle.mt_book.specs.Parts.{space_at, is_position}

pub above_at : (n : ℕ) (rs : List (ℕ × ℕ)) (j : ℕ) → list_all (λ r. nat_lt n (space_in r)) rs ≡ true → j < length rs → n < space_at rs j
above_at n [] j all l = absurd (omega (arith, l))
above_at n (r ∷ rs) zero all l = grind (arith, nat_tests)
above_at n (r ∷ rs) (suc j) all l = above_at n rs j (and_second _ _ all) (omega (arith, l))

rows_apart : (rs : List (ℕ × ℕ)) → rises space_in rs ≡ true → (i j : ℕ) → i < j → j < length rs → space_at rs i < space_at rs j
rows_apart [] up i j b l = absurd (omega (arith, l))
rows_apart (r ∷ rs) up zero zero b l = absurd (omega (arith, b))
rows_apart (r ∷ rs) up zero (suc j) b l = above_at (space_in r) rs j (and_first _ _ up) (omega (arith, l))
rows_apart (r ∷ rs) up (suc i) zero b l = absurd (omega (arith, b))
rows_apart (r ∷ rs) up (suc i) (suc j) b l = rows_apart rs (and_second _ _ up) i j (omega (arith, b)) (omega (arith, l))

-- the one place of a namespace that is there
pub place_found : (n : ℕ) (rs : List (ℕ × ℕ)) (at k : ℕ) → rises space_in rs ≡ true → at < length rs → HoldsAt (λ r. nat_cmp (space_in r) n ≡ Equal) rs at → k < length rs → (n == space_at rs k) ≡ is_position (Some at) k
place_found n rs at k up within equal low = by (eqb at k) refl
  where
    here : space_at rs at ≡ n
    here = ranked _ n _ (sym (equal (0, 0)))

    by : (b : Bool) → eqb at k ≡ b → (n == space_at rs k) ≡ eqb at k
    by true e =
        let same : at ≡ k = grind (arith, nat_tests) in
        eq-eqb n (space_at rs k) (sym here ∙ ap (space_at rs) same) ∙ sym e
    by false e =
        let before : at < k → space_at rs at < space_at rs k = λ l. rows_apart rs up at k l low in
        let behind : k < at → space_at rs k < space_at rs at = λ l. rows_apart rs up k at l within in
        let off : (n == space_at rs k) ≡ false = grind (arith, nat_tests, before, behind, here) in
        off ∙ sym e

-- and one that is not there has none
pub place_absent : (n : ℕ) (rs : List (ℕ × ℕ)) (k : ℕ) → row_at space_in n rs ≡ None → k < length rs → (n == space_at rs k) ≡ is_position None k
place_absent n [] k none low = absurd (omega (arith, low))
place_absent n (r ∷ rs) zero none low = grind (arith, nat_tests)
place_absent n (r ∷ rs) (suc k) none low = let ih = place_absent n rs k in grind (arith, nat_tests)
