-- A sorted list in which each number stands as often as in a list that rises is that list.
use Rattle.std.proofs.Common.{◌≡◌, ℕ, suc, ◌+◌, ◌≤◌, ◌<◌, true, false, cond, ◌==◌, eqb, List, [], ◌∷◌, map, refl, sym, ◌∙◌, subst, arith, IsPermutation}
use Rattle.std.specs.Prelude.{nat_lt, slice_index}
use Rattle.std.specs.List.{list_all, AllByRecursion, IsDistinct, sum_by}
use Rattle.std.specs.List.Sorted.{IsSorted, IsStrictlyIncreasing}
use Rattle.std.specs.Option.{option_map_or}
use Rattle.std.specs.Ordering.{nat_cmp}
use Rattle.std.proofs.lemmas.Bool.Decides.{nat_tests}
use Rattle.std.proofs.lemmas.List.Sums.{sum_by-cons}
use Rattle.std.proofs.lemmas.List.Sorted.{sum_by-IsPermutation, IsNonDecreasingBy-from_sort}
use Rattle.std.proofs.lemmas.Map.Keys.{IsStrictlyIncreasing-from_distinct}
use Rattle.mt_skel.specs.Keyed.{row_at, rises}
use Rattle.mt_skel.specs.Counted.{occ}
use Rattle.mt_skel.proofs.CountLaws.{count-same, count-row}
use Rattle.mt_skel.proofs.KeyedLaws.{row_at-key, all-lower, same_rows}

-- a list that strictly increases passes the test that it rises
pub rises_of : (xs : List ℕ) → IsStrictlyIncreasing xs → rises (λ n. n) xs ≡ true
rises_of [] h = refl
rises_of (x ∷ []) h = refl
rises_of (x ∷ y ∷ ys) h =
    let ih = rises_of (y ∷ ys) (λ k l. subst (λ n. slice_index (y ∷ ys) k < slice_index (x ∷ y ∷ ys) n) {x = suc k + 1} {y = suc (k + 1)} (omega arith) (h (suc k) (omega arith))) in
    let lt : x < y = h 0 (omega arith) in
    grind (arith, nat_tests, all-lower (λ n. n) x y ys)

occ-sum : (q : ℕ) (xs : List ℕ) → sum_by (λ j. cond (j == q) 1 0) xs ≡ occ q xs
occ-sum q [] = refl
occ-sum q (x ∷ xs) = grind (arith, sum_by-cons (λ j. cond (j == q) 1 0) x xs, occ-sum q xs)

-- a number stands as often in a permutation of a list as in the list
pub occ-permutation : (q : ℕ) (xs ys : List ℕ) → IsPermutation xs ys → occ q ys ≡ occ q xs
occ-permutation q xs ys p = sym (occ-sum q ys) ∙ sum_by-IsPermutation (λ j. cond (j == q) 1 0) xs ys p ∙ occ-sum q xs

apart : (x : ℕ) (ys : List ℕ) → occ x ys ≡ 0 → AllByRecursion (λ y. eqb x y ≡ false) ys
apart x [] z = tt
apart x (y ∷ ys) z = (grind (arith, nat_tests), apart x ys (grind (arith, nat_tests)))

distinct : (xs : List ℕ) → ((q : ℕ) → occ q xs ≤ 1) → IsDistinct eqb xs
unfolding IsDistinct
distinct [] once = tt
distinct (x ∷ xs) once = (apart x xs (grind (arith, nat_tests, once x)), distinct xs (λ q. grind (arith, once q)))

-- in a list that rises a number stands once where it is found, and otherwise never
found-once : (q : ℕ) (xs : List ℕ) → rises (λ n. n) xs ≡ true → occ q xs ≡ option_map_or (λ n. 1) (row_at (λ n. n) q xs) 0
found-once q xs up = count-same (λ n. n == q) _ (λ n. grind arith) xs ∙ count-row (λ n. n) (λ n. true) q xs up

pub sorted-is : (ws vs ts : List ℕ) → IsPermutation ws vs → IsSorted nat_cmp vs → ((q : ℕ) → occ q ws ≡ occ q ts) → rises (λ n. n) ts ≡ true → vs ≡ ts
sorted-is ws vs ts p sorted same up =
    let often : (q : ℕ) → occ q vs ≡ occ q ts = λ q. occ-permutation q ws vs p ∙ same q in
    let rise = rises_of vs (IsStrictlyIncreasing-from_distinct vs (IsNonDecreasingBy-from_sort (λ x. x) vs sorted) (distinct vs (λ q. grind (arith, often q, found-once q ts up)))) in
    same_rows (λ n. n) vs ts rise up (λ q. grind (arith, often q, found-once q vs rise, found-once q ts up, row_at-key (λ n. n) q vs, row_at-key (λ n. n) q ts))

above-keys : {X : Type 0} (key : X → ℕ) (k : ℕ) (xs : List X) → list_all (λ z. nat_lt k z) (map key xs) ≡ list_all (λ x. nat_lt k (key x)) xs
above-keys key k [] = refl
above-keys key k (x ∷ xs) = rw (above-keys key k xs) refl

-- the keys of rows that rise
pub rises-keys : {X : Type 0} (key : X → ℕ) (xs : List X) → rises (λ n. n) (map key xs) ≡ rises key xs
rises-keys key [] = refl
rises-keys key (x ∷ xs) = rw (above-keys key (key x) xs, rises-keys key xs) refl
