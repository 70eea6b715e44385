-- Whether names begin with others, name by name.
use Rattle.std.proofs.Common.{◌≡◌, ℕ, suc, ◌+◌, ◌<◌, ◌&&◌, Bool, nat_eq, List, [], ◌∷◌, length, get_or, drop, refl, sym, ap, ◌∙◌, arith}
use Rattle.std.proofs.lemmas.Bool.Decides.{nat_tests}
use Rattle.std.proofs.lemmas.List.{take_all}
use Rattle.std.proofs.Math.Seq.{drop-cons}
use Rattle.std.specs.Cmp.Lexicographic.{pointwise}
use Rattle.std.specs.List.{starts_with}
use Rattle.std.specs.Str.{bytes_eq}
use Rattle.mt_skel.specs.Skeleton.{path_eq}

begins-cons : (xs ys : List (List ℕ)) (x y : List ℕ) → starts_with bytes_eq (x ∷ xs) (y ∷ ys) ≡ (bytes_eq y x && starts_with bytes_eq xs ys)
begins-cons xs ys x y = refl

-- it does not matter which of two lists comes first
turned : {X : Type 0} (eq : X → X → Bool) → ((x y : X) → eq x y ≡ eq y x) → (a b : List X) → pointwise eq a b ≡ pointwise eq b a
turned eq s [] [] = refl
turned eq s [] (y ∷ ys) = refl
turned eq s (x ∷ xs) [] = refl
turned eq s (x ∷ xs) (y ∷ ys) = let e = s x y in let ih = turned eq s xs ys in grind arith

-- names that begin with as many others are these
pub same_names : (a b : List (List ℕ)) → length a ≡ length b → starts_with bytes_eq a b ≡ path_eq a b
same_names a b e =
    ap (pointwise bytes_eq b) (take_all (length b) a (omega (arith, e)))
    ∙ turned bytes_eq (λ x y. turned nat_eq (λ m n. grind (arith, nat_tests)) x y) b a

-- one name further
pub begins_step : (all below rest : List (List ℕ)) (i : ℕ) (x y d : List ℕ) → i < length all → y ≡ get_or all i d → below ≡ x ∷ rest
    → starts_with bytes_eq below (drop i all) ≡ (bytes_eq y x && starts_with bytes_eq rest (drop (i + 1) all))
begins_step all below rest i x y d within at more =
    let next : suc i ≡ i + 1 = omega arith in
    let split : drop i all ≡ y ∷ drop (i + 1) all = drop-cons all i d within ∙ (λ k. sym at k ∷ drop (next k) all) in
    (λ k. starts_with bytes_eq (more k) (split k)) ∙ begins-cons rest (drop (i + 1) all) x y
