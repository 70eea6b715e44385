-- The groups on the way of masters, as far as one.
use Rattle.std.proofs.Common.{◌≡◌, ◌∙◌, ℕ, suc, ◌+◌, ◌<◌, Bool, true, cond, List, [], ◌∷◌, ◌++◌, length, get_or, drop, ap, sym, append_assoc, arith}
use Rattle.std.proofs.Math.Seq.{drop-cons}
use Rattle.std.proofs.lemmas.List.Sums.{take_while-cons}
use Rattle.std.specs.List.{take_while}

-- one group further, which passes the test
pub one_further : (p : ℕ → Bool) (before new groups : List ℕ) (i d : ℕ) (b : Bool) → i < length groups → new ≡ before ++ get_or groups i d ∷ [] → b ≡ p (get_or groups i d) → b ≡ true
    → new ++ take_while p (drop (i + 1) groups) ≡ before ++ take_while p (drop i groups)
one_further p before new groups i d b within pushed is passes =
    let next : suc i ≡ i + 1 = omega arith in
    let x = get_or groups i d in
    let rest = drop (i + 1) groups in
    let split : drop i groups ≡ x ∷ rest = drop-cons groups i d within ∙ ap (λ k. x ∷ drop k groups) next in
    let one : take_while p (x ∷ rest) ≡ x ∷ take_while p rest = take_while-cons p x rest ∙ ap (λ c. cond c (x ∷ take_while p rest) []) (sym is ∙ passes) in
    ap (λ l. l ++ take_while p rest) pushed ∙ append_assoc before (x ∷ []) (take_while p rest) ∙ ap (λ l. before ++ l) (sym one) ∙ ap (λ l. before ++ take_while p l) (sym split)
