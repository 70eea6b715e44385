-- Rows by ID of which two have one ID.
use Rattle.std.proofs.Common.{◌≡◌, ◌↔◌, ℕ, suc, ◌<◌, ◌≤◌, Bool, true, false, nat_eq, List, [], ◌∷◌, ◌++◌, length, Option, None, IsSome, IsTrue, refl, sym, ap, subst, arith, IsPermutation}
use Rattle.std.specs.List.Sorted.{IsNonDecreasingBy}
use Rattle.std.proofs.lemmas.Bool.Decides.{nat_tests}
use Rattle.std.proofs.lemmas.List.Sorted.{IsPermutation-trans, IsPermutation-middle, IsPermutation-cons}
use Rattle.mt_skel.specs.Keyed.{rises}
use Rattle.mt_skel.proofs.KeyedLaws.{all-lower}
use Rattle.mt_reach.specs.declared.row.SeenRow.{SeenRow}
use Rattle.mt_reach.specs.Rows.{seen_id}
use Rattle.mt_questions.specs.Seeing.{HaveTwice}

-- two rows side by side that have one ID
record IsBeside (rows : List SeenRow) : Type 0 where
  front : List SeenRow
  one : SeenRow
  other : SeenRow
  back : List SeenRow
  is : rows ≡ front ++ one ∷ other ∷ back
  same : one.id ≡ other.id

later : (x : SeenRow) (xs : List SeenRow) → IsNonDecreasingBy seen_id (x ∷ xs) → IsNonDecreasingBy seen_id xs
later x xs h i j d le lt = h (suc i) (suc j) d (omega (arith, le)) (omega (arith, lt))

rises_on : (x y : SeenRow) (ys : List SeenRow) → x.id < y.id → rises seen_id (y ∷ ys) ≡ true → rises seen_id (x ∷ y ∷ ys) ≡ true
rises_on x y ys less up = grind (arith, nat_tests, all-lower seen_id x.id y.id ys)

further : (x : SeenRow) (xs : List SeenRow) → IsBeside xs → IsBeside (x ∷ xs)
further x xs b = record { front = x ∷ b.front; one = b.one; other = b.other; back = b.back; is = ap (λ l. x ∷ l) b.is; same = b.same }

-- of two rows that do not fall, and of which the second rises on, the first has the ID of the second, or all rise
first_two : (x y : SeenRow) (ys : List SeenRow) (b : Bool) → nat_eq x.id y.id ≡ b → x.id ≤ y.id → rises seen_id (y ∷ ys) ≡ true → rises seen_id (x ∷ y ∷ ys) ≡ false → IsBeside (x ∷ y ∷ ys)
first_two x y ys true is most up e = record { front = []; one = x; other = y; back = ys; is = refl; same = grind (arith, nat_tests) }
first_two x y ys false is most up e = let less : x.id < y.id = grind (arith, nat_tests) in let risen = rises_on x y ys less up in absurd (cc)

by_rest : (x y : SeenRow) (ys : List SeenRow) (b : Bool) → rises seen_id (y ∷ ys) ≡ b → x.id ≤ y.id → rises seen_id (x ∷ y ∷ ys) ≡ false → (rises seen_id (y ∷ ys) ≡ false → IsBeside (y ∷ ys)) → IsBeside (x ∷ y ∷ ys)
by_rest x y ys true up most e ih = first_two x y ys (nat_eq x.id y.id) refl most up e
by_rest x y ys false up most e ih = further x (y ∷ ys) (ih up)

beside : (rows : List SeenRow) → IsNonDecreasingBy seen_id rows → rises seen_id rows ≡ false → IsBeside rows
beside [] h e = absurd (cc)
beside (x ∷ []) h e = absurd (cc)
beside (x ∷ y ∷ ys) h e = by_rest x y ys (rises seen_id (y ∷ ys)) refl (h 0 1 x (omega arith) (omega arith)) e (beside (y ∷ ys) (later x (y ∷ ys) h))

falls : {X : Type 0} (b : Bool) (o : Option X) → o ≡ None → (IsSome o ↔ IsTrue b) → b ≡ false
falls true o is h = let some = subst (λ k. IsSome k) is (h.1 refl) in absurd (cc)
falls false o is h = refl

-- where rows in order do not rise, two have one ID
pub twice_of : {X : Type 0} (rows sorted : List SeenRow) (o : Option X) → IsPermutation rows sorted → IsNonDecreasingBy seen_id sorted → o ≡ None → (IsSome o ↔ IsTrue (rises seen_id sorted)) → HaveTwice rows
twice_of rows sorted o moved order is h =
    let b = beside sorted order (falls (rises seen_id sorted) o is h) in
    let two : IsPermutation (b.front ++ b.one ∷ b.other ∷ b.back) (b.one ∷ b.other ∷ (b.front ++ b.back)) =
    IsPermutation-trans _ _ _ (IsPermutation-middle b.front b.one (b.other ∷ b.back)) (IsPermutation-cons b.one _ _ (IsPermutation-middle b.front b.other b.back)) in
    record {
      one = b.one;
      other = b.other;
      others = b.front ++ b.back;
      all = IsPermutation-trans rows sorted _ moved (subst (λ l. IsPermutation l (b.one ∷ b.other ∷ (b.front ++ b.back))) (sym b.is) two);
      same = b.same;
    }
