-- IDs that are found by halving a list in which none is below the one before it.
use Rattle.std.proofs.Common.{◌≡◌, ◌≢◌, ℕ, ◌<◌, ◌≤◌, true, false, List, length, get_or, sym, arith}
use Rattle.std.specs.Prelude.{nat_eq, nat_lt}
use Rattle.std.specs.List.{position_or_len}
use Rattle.std.specs.List.Sorted.{IsNonDecreasing, IsPartitionPoint}
use Rattle.std.proofs.lemmas.Bool.Decides.{nat_tests}
use Rattle.std.proofs.lemmas.List.Sums.{position_or_len_is}

module _ (ids : List ℕ) (id at : ℕ) (rise : IsNonDecreasing ids) (bound : at ≤ length ids) (parted : IsPartitionPoint (λ y. nat_lt y id ≡ true) (λ y. nat_lt y id ≡ false) ids at) where
  below : (k d : ℕ) → k < at → nat_eq id (get_or ids k d) ≡ false
  below k d l =
      let low = parted.0 k d (omega arith) l in
      grind (arith, nat_tests)

  -- where it is found
  pub halved_found : (d : ℕ) → at < length ids → id ≡ get_or ids at d → at ≡ position_or_len (nat_eq id) ids
  halved_found d l e = sym (position_or_len_is (nat_eq id) ids at d bound (λ k b. below k d b) (λ b. grind (arith, nat_tests)))

  -- and where it is not
  pub halved_ended : length ids ≤ at → length ids ≡ position_or_len (nat_eq id) ids
  halved_ended l = sym (position_or_len_is (nat_eq id) ids (length ids) 0 (omega arith) (λ k b. below k 0 (omega (arith, b, l))) (λ b. absurd (omega (arith, b))))

  pub halved_absent : (d : ℕ) → at < length ids → id ≢ get_or ids at d → length ids ≡ position_or_len (nat_eq id) ids
  halved_absent d l e = sym (position_or_len_is (nat_eq id) ids (length ids) d (omega arith) each (λ b. absurd (omega (arith, b))))
    where
      each : (k : ℕ) → k < length ids → nat_eq id (get_or ids k d) ≡ false
      each k b =
          let low : k < at → nat_eq id (get_or ids k d) ≡ false = below k d in
          let high : at ≤ k → get_or ids at d ≤ get_or ids k d = λ le. rise at k d le b in
          let here = parted.1 at d (omega arith) l in
          let apart : id ≢ get_or ids k d = λ same. e (grind (arith, nat_tests)) in
          grind (arith, nat_tests)
