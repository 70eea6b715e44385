-- Numbers that are sorted, each once.
use Rattle.std.proofs.Common.{◌≡◌, ℕ, true, ◌||◌, eqb, List, [], ◌∷◌, refl, sym, ap, subst, ◌∙◌, arith, IsPermutation}
use Rattle.std.specs.Prelude.{nat_eq}
use Rattle.std.specs.List.{dedup, dedup_from}
use Rattle.std.specs.List.Retain.{IsFiltered, DiffersFromLast}
use Rattle.std.specs.List.Sorted.{IsSorted, IsStrictlyIncreasing}
use Rattle.std.specs.Ordering.{nat_cmp}
use Rattle.std.proofs.lemmas.Bool.Decides.{nat_tests}
use Rattle.std.proofs.lemmas.List.Filters.{dedup_is}
use Rattle.std.proofs.lemmas.List.Sorted.{list_any-IsPermutation}
use Rattle.std.proofs.lemmas.Map.Keys.{IsStrictlyIncreasing-dedup}
use Rattle.mt_skel.specs.Keyed.{among, rises}
use Rattle.mt_skel.proofs.SortedLaws.{rises_of}

-- each once
among-from : (j k : ℕ) (xs : List ℕ) → among (dedup_from eqb k xs) j ≡ (nat_eq k j || among xs j)
among-from j k [] = refl
among-from j k (x ∷ xs) =
    let stays = among-from j k xs in
    let next = among-from j x xs in
    grind (arith, nat_tests)

among-dedup : (j : ℕ) (xs : List ℕ) → among (dedup eqb xs) j ≡ among xs j
among-dedup j [] = refl
among-dedup j (x ∷ xs) = among-from j x xs

module _ (ids vs us : List ℕ) (sorted : IsSorted nat_cmp vs) (once : IsFiltered (DiffersFromLast eqb) [] vs us) where
  pub each-increases : IsStrictlyIncreasing us
  each-increases = subst IsStrictlyIncreasing (sym (dedup_is eqb vs us once)) (IsStrictlyIncreasing-dedup vs sorted)

  pub each-rises : rises (λ n. n) us ≡ true
  each-rises = rises_of us each-increases

  pub each-among : IsPermutation ids vs → (j : ℕ) → among us j ≡ among ids j
  each-among moved j = ap (λ l. among l j) (dedup_is eqb vs us once) ∙ among-dedup j vs ∙ sym (list_any-IsPermutation (λ k. nat_eq k j) ids vs moved)
