-- Arguments with commas between them.
use Rattle.std.proofs.Common.{◌≡◌, ℕ, List, [], ◌∷◌, ◌++◌, ap, sym, append-nil}
use Rattle.std.specs.List.{flat_map}
use Rattle.mt_strace.specs.Printed.{arguments_text}

-- each but the first stands behind a comma and a space
pub arguments_behind : (first : List ℕ) (rest : List (List ℕ)) → arguments_text (first ∷ rest) ≡ first ++ flat_map (λ argument. 44 ∷ 32 ∷ argument) rest
arguments_behind first [] = sym (append-nil first)
arguments_behind first (next ∷ rest) = ap (λ text. first ++ 44 ∷ 32 ∷ text) (arguments_behind next rest)
