-- Groups by rising number, and the place of each.
use Rattle.std.proofs.Common.{◌≡◌, ℕ, zero, suc, ◌<◌, true, cond, List, [], ◌∷◌, length, get_or, Some, None, refl, sym, ◌∙◌, arith}
use Rattle.std.specs.Prelude.{nat_eq, nat_lt}
use Rattle.std.specs.List.{list_all, position_or_len}
use Rattle.std.proofs.lemmas.Bool.Decides.{nat_tests}
use Rattle.mt_skel.specs.Keyed.{row_at, put, rises, among}
use Rattle.mt_skel.proofs.KeyedLaws.{row_at-put, rises-put, same_rows}
use Rattle.mt_render.specs.Groups.{ordered}

-- a number is found in a list of numbers where it is one of them
at_itself : (q : ℕ) (ns : List ℕ) → row_at (λ k. k) q ns ≡ cond (among ns q) (Some q) None
at_itself q [] = refl
at_itself q (n ∷ ns) = grind (arith, nat_tests, at_itself q ns)

ordered_rise : (ns : List ℕ) → rises (λ k. k) (ordered ns) ≡ true
ordered_rise [] = refl
ordered_rise (n ∷ ns) = rises-put (λ k. k) n (ordered ns) (ordered_rise ns)

ordered_has : (q : ℕ) (ns : List ℕ) → row_at (λ k. k) q (ordered ns) ≡ cond (among ns q) (Some q) None
ordered_has q [] = refl
ordered_has q (n ∷ ns) = grind (arith, nat_tests, row_at-put (λ k. k) q n (ordered ns), ordered_has q ns)

-- numbers that rise, each of a list and no other, are the list in order
pub ordered_is : (ns rs : List ℕ) → rises (λ k. k) rs ≡ true → ((j : ℕ) → among rs j ≡ among ns j) → rs ≡ ordered ns
ordered_is ns rs up same =
    same_rows (λ k. k) rs (ordered ns) up (ordered_rise ns) (λ q. at_itself q rs ∙ (λ i. cond (same q i) (Some q) None) ∙ sym (ordered_has q ns))

above_at : (k : ℕ) (ns : List ℕ) (at d : ℕ) → list_all (λ n. nat_lt k n) ns ≡ true → at < length ns → k < get_or ns at d
above_at k [] at d all low = absurd (omega (arith, low))
above_at k (n ∷ ns) zero d all low = grind (arith, nat_tests)
above_at k (n ∷ ns) (suc at) d all low = grind (arith, nat_tests, above_at k ns at d, low)

-- the place of a number that was found, and of one that is not there
pub place_at : (g at : ℕ) (ns : List ℕ) (d : ℕ) → rises (λ k. k) ns ≡ true → at < length ns → get_or ns at d ≡ g → at ≡ position_or_len (nat_eq g) ns
place_at g at [] d up low e = absurd (omega (arith, low))
place_at g zero (n ∷ ns) d up low e = grind (arith, nat_tests)
place_at g (suc at) (n ∷ ns) d up low e = grind (arith, nat_tests, low, e, above_at n ns at d, place_at g at ns d)

pub no_place : (g : ℕ) (ns : List ℕ) → row_at (λ k. k) g ns ≡ None → length ns ≡ position_or_len (nat_eq g) ns
no_place g [] e = refl
no_place g (n ∷ ns) e = grind (arith, nat_tests, no_place g ns)
