-- All numbers are among those of the turns, whatever their order.
use Rattle.std.proofs.Common.{◌≡◌, ℕ, zero, suc, ◌+◌, ◌<◌, ◌≤◌, true, nat_eq, List, [], ◌∷◌, ◌++◌, map, sym, ap, ◌∙◌, arith, IsPermutation}
use Rattle.std.specs.List.{range_with_len}
use Rattle.std.proofs.lemmas.Bool.Decides.{nat_tests}
use Rattle.std.proofs.lemmas.List.{map-append}
use Rattle.std.proofs.lemmas.List.Sorted.{list_any-IsPermutation, IsPermutation-map}
use Rattle.mt_skel.specs.Keyed.{among}
use Rattle.mt_world.specs.declared.order.Turn.{Turn}

among_range : (a n k : ℕ) → a ≤ k → k < a + n → among (range_with_len a n) k ≡ true
among_range a zero k l m = absurd (omega (arith, l, m))
among_range a (suc n) k l m = grind (arith, nat_tests, among_range (a + 1) n k)

range_more : (a n : ℕ) → range_with_len a (suc n) ≡ range_with_len a n ++ (a + n) ∷ []
range_more a zero = grind arith
range_more a (suc n) = grind (arith, range_more (a + 1) n)

-- one turn more
pub turn_more : (turns : List Turn) (n : ℕ) (t : Turn) → map (λ (t : Turn). t.number) turns ≡ range_with_len 0 n → t.number ≡ n → map (λ (t : Turn). t.number) (turns ++ t ∷ []) ≡ range_with_len 0 (n + 1)
turn_more turns n t e is =
    let last : t.number ≡ 0 + n = omega (arith, is) in
    let one : suc n ≡ n + 1 = omega arith in
    map-append (λ (t : Turn). t.number) turns (t ∷ []) ∙ ap (λ (l : List ℕ). l ++ t.number ∷ []) e ∙ ap (λ (k : ℕ). range_with_len 0 n ++ k ∷ []) last ∙ sym (range_more 0 n) ∙ ap (range_with_len 0) one

pub ordered : (count k : ℕ) (olds news : List Turn) (numbers : List ℕ) → k < count → map (λ (t : Turn). t.number) olds ≡ range_with_len 0 count → IsPermutation olds news → numbers ≡ map (λ (t : Turn). t.number) news → among numbers k ≡ true
ordered count k olds news numbers l ranged moved is =
    ap (λ ns. among ns k) is
    ∙ sym (list_any-IsPermutation (λ j. nat_eq j k) (map (λ (t : Turn). t.number) olds) (map (λ (t : Turn). t.number) news) (IsPermutation-map (λ (t : Turn). t.number) olds news moved))
    ∙ ap (λ ns. among ns k) ranged ∙ among_range 0 count k (omega arith) (omega (arith, l))
