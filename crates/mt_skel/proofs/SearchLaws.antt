-- Rows that are found by halving a list that rises.
use Rattle.std.proofs.Common.{◌≡◌, ◌≢◌, ℕ, zero, suc, ◌<◌, ◌≤◌, true, List, [], ◌∷◌, length, get_or, Some, None, refl, sym, ap, ◌∙◌, arith}
use Rattle.std.specs.Prelude.{nat_lt}
use Rattle.std.specs.List.{list_all, HoldsAt}
use Rattle.std.specs.List.Sorted.{IsNonDecreasingBy, IsPartitionPoint}
use Rattle.std.specs.Ordering.{nat_cmp, ordering_index}
use Rattle.std.specs.declared.cmp.Ordering.TheVariants.{Less, Equal, Greater}
use Rattle.std.proofs.lemmas.Bool.Decides.{nat_tests}
use Rattle.std.proofs.lemmas.Cmp.{ranked}
use Rattle.std.proofs.lemmas.Option.{slice_get-get_or}
use Rattle.mt_skel.specs.Keyed.{row_at, rises}
use Rattle.mt_skel.proofs.ElementLaws.{in_row, get_in}
use Rattle.mt_skel.proofs.MiddleLaws.{and_first, and_second}

module _ {X : Type 0} (key : X → ℕ) where
  above_at : (k : ℕ) (xs : List X) (j : ℕ) (d : X) → list_all (λ y. nat_lt k (key y)) xs ≡ true → j < length xs → k < key (get_or xs j d)
  above_at k [] j d all l = absurd (omega (arith, l))
  above_at k (x ∷ xs) zero d all l = grind (arith, nat_tests)
  above_at k (x ∷ xs) (suc j) d all l = above_at k xs j d (and_second _ _ all) (omega (arith, l))

  rises_at : (xs : List X) → rises key xs ≡ true → (i j : ℕ) (d : X) → i < j → j < length xs → key (get_or xs i d) < key (get_or xs j d)
  rises_at xs r i zero d b l = absurd (omega (arith, b))
  rises_at [] r i (suc j) d b l = absurd (omega (arith, l))
  rises_at (x ∷ xs) r zero (suc j) d b l = above_at (key x) xs j d (and_first _ _ r) (omega (arith, l))
  rises_at (x ∷ xs) r (suc i) (suc j) d b l = rises_at xs (and_second _ _ r) i j d (omega (arith, b)) (omega (arith, l))

  compared : (k : ℕ) (xs : List X) → rises key xs ≡ true → IsNonDecreasingBy (λ y. ordering_index (nat_cmp (key y) k)) xs
  compared k xs r =
      λ i j d le l.
      let low : key (get_or xs i d) ≤ key (get_or xs j d) = grind (arith, rises_at xs r i j d, λ (same : i ≡ j). ap (λ n. key (get_or xs n d)) same) in
      grind (arith, nat_tests)

  nowhere : (k : ℕ) (xs : List X) → ((i : ℕ) (d : X) → i < length xs → key (get_or xs i d) ≢ k) → row_at key k xs ≡ None
  nowhere k [] h = refl
  nowhere k (x ∷ xs) h = grind (arith, nat_tests, h 0 x, nowhere k xs (λ i d l. h (suc i) d (omega (arith, l))))

  -- where no key is the one that is sought
  pub not_found : (k i : ℕ) (xs : List X) → rises key xs ≡ true
      → (IsNonDecreasingBy (λ y. ordering_index (nat_cmp (key y) k)) xs → IsPartitionPoint (λ y. nat_cmp (key y) k ≡ Less) (λ y. nat_cmp (key y) k ≡ Greater) xs i)
      → row_at key k xs ≡ None
  not_found k i xs r parted =
      let p = parted (compared k xs r) in
      nowhere k xs (λ j d l e.
      let low : j < i → key (get_or xs j d) < k = λ lt. ranked _ k _ (sym (p.0 j d (omega arith) lt)) in
      let high : i ≤ j → k < key (get_or xs j d) = λ le. ranked _ k _ (sym (p.1 j d le l)) in
      grind (arith, low, high))

  -- where one is
  pub found_at : (k i : ℕ) (xs : List X) (d : X) → rises key xs ≡ true → i < length xs → HoldsAt (λ y. nat_cmp (key y) k ≡ Equal) xs i → Some (get_or xs i d) ≡ row_at key k xs
  found_at k i xs d r l at =
      let same : key (get_or xs i d) ≡ k = ranked _ k _ (sym (at d)) in
      sym (ap (λ n. row_at key n xs) (sym same) ∙ in_row key xs (get_or xs i d) r (get_in xs i (get_or xs i d) (slice_get-get_or xs i d l)))
