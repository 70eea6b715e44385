-- A character takes no more bytes than there are.
use Rattle.std.proofs.Common.{◌≤◌, List, [], ◌∷◌, ℕ, length, slice_index, arith}
use Rattle.bstr.specs.Utf8.{decoded}
use Rattle.bstr.proofs.lemmas.PieceLemmas.{size-bounds}

pub size_within : (bytes : List ℕ) → (decoded bytes).size ≤ length bytes
size_within [] = omega arith
size_within (b ∷ bs) = (size-bounds (length (b ∷ bs)) b (slice_index (b ∷ bs) 1) (slice_index (b ∷ bs) 2) (slice_index (b ∷ bs) 3) (omega arith)).2
