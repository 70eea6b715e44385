-- How many of a list pass a test, and how often a number stands in one.
-- A word with no source is this project's rule.
use Rattle.std.specs.Prelude.{ℕ, suc, Bool, cond, ◌==◌, List, [], ◌∷◌}

-- how many pass the test
abbrev pub count : {X : Type 0} → (X → Bool) → List X → ℕ
count t [] = 0
count t (x ∷ xs) = cond (t x) (suc (count t xs)) (count t xs)

-- how often a number stands in a list
abbrev pub occ : ℕ → List ℕ → ℕ
occ q xs = count (λ j. j == q) xs
