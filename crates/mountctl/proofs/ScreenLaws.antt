-- What a terminal is given of lines, one after the other.
use Rattle.std.proofs.Common.{◌≡◌, ℕ, List, [], ◌∷◌, ◌++◌, map, append-nil, sym, ap}
use Rattle.std.specs.List.{flat_map, join_with_byte}

-- the pieces behind the first one, each behind a byte
pub joined : (c : ℕ) (f : List ℕ → List ℕ) (x : List ℕ) (xs : List (List ℕ)) → join_with_byte c (map f (x ∷ xs)) ≡ f x ++ flat_map (λ p. c ∷ f p) xs
joined c f x [] = sym (append-nil (f x))
joined c f x (y ∷ ys) = ap (λ t. f x ++ (c ∷ t)) (joined c f y ys)
