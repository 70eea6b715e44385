-- IDs that are found by halving a list in which none is below the one before it.
use Rattle.std.proofs.Common.{◌≡◌, ◌≢◌, refl, ℕ, zero, suc, ◌<◌, ◌≤◌, true, false, ◌||◌, List, [], ◌∷◌, length, get_or, sym, ap, ◌∙◌, arith, Bool, MatchBool, HoldsAt, Less, Equal, Greater}
use Rattle.std.specs.List.Sorted.{IsNonDecreasing, IsNonDecreasingBy, IsPartitionPoint}
use Rattle.std.specs.Ordering.{nat_cmp, ordering_index}
use Rattle.std.proofs.lemmas.Bool.{ne_eqb}
use Rattle.std.proofs.lemmas.Bool.Decides.{nat_tests}
use Rattle.std.proofs.lemmas.Cmp.{ranked}
use Rattle.mt_skel.specs.Keyed.{among}

among_at : (ids : List ℕ) (id at d : ℕ) → at < length ids → get_or ids at d ≡ id → among ids id ≡ true
among_at [] id at d l e = absurd (omega (arith, l))
among_at (x ∷ xs) id zero d l e = grind (arith, nat_tests)
among_at (x ∷ xs) id (suc at) d l e = let ih = among_at xs id at d (omega (arith, l)) e in grind (arith, nat_tests)

among_nowhere : (ids : List ℕ) (id : ℕ) → ((i d : ℕ) → i < length ids → get_or ids i d ≢ id) → among ids id ≡ false
among_nowhere [] id h = refl
among_nowhere (x ∷ xs) id h = ap (λ b. b || among xs id) (ne_eqb x id (h 0 x (omega arith))) ∙ among_nowhere xs id (λ i d l. h (suc i) d (omega (arith, l)))

-- an ID that is found is one of the list, and one that only parts it into lower and higher ones is not
pub halved_found : (ids : List ℕ) (id at : ℕ) → at < length ids → HoldsAt (λ y. nat_cmp y id ≡ Equal) ids at → true ≡ among ids id
halved_found ids id at l h = sym (among_at ids id at 0 l (ranked _ id _ (sym (h 0))))

pub halved_absent : (ids : List ℕ) (id at : ℕ) → IsNonDecreasing ids
    → (IsNonDecreasingBy (λ y. ordering_index (nat_cmp y id)) ids → IsPartitionPoint (λ y. nat_cmp y id ≡ Less) (λ y. nat_cmp y id ≡ Greater) ids at) → false ≡ among ids id
halved_absent ids id at up parted =
    let p = parted (λ i j d le l. let low = up i j d le l in grind (arith, nat_tests)) in
    sym (among_nowhere ids id (λ j d l e.
    let low : j < at → get_or ids j d < id = λ lt. ranked _ id _ (sym (p.0 j d (omega arith) lt)) in
    let high : at ≤ j → id < get_or ids j d = λ le. ranked _ id _ (sym (p.1 j d le l)) in
    grind (arith, low, high)))

-- what holds at the answer true
pub where_true : {P : Type 0} (Q : Type 0) (b : Bool) → MatchBool b P Q → b ≡ true → P
where_true Q true m e = m
where_true Q false m e = absurd (cc)
