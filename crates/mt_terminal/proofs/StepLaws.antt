-- One character more of a text.
use Rattle.std.proofs.Common.{◌≡◌, ℕ, ◌+◌, ◌<◌, List, ◌++◌, Option, length, take, drop, sym, ap, ◌∙◌, append_assoc, arith}
use Rattle.std.proofs.lemmas.List.{at_drop_more}
use Rattle.bstr.specs.Utf8.{decoded}
use Rattle.mt_terminal.specs.Terminal.{text_by, character_cells, cells_by}

-- what is appended for a character, and what is to come
pub text_step : (piece : Option ℕ → List ℕ → List ℕ) (text bytes rest : List ℕ) (i size : ℕ) (character : Option ℕ) → i < length bytes → character ≡ (decoded rest).char → size ≡ (decoded rest).size
    → (text ++ piece character (take size rest)) ++ text_by piece (drop (i + 1) bytes) (drop size rest) ≡ text ++ text_by piece (drop i bytes) rest
text_step piece text bytes rest i size character within char_is size_is =
    append_assoc text (piece character (take size rest)) (text_by piece (drop (i + 1) bytes) (drop size rest))
    ∙ ap (λ c. text ++ (piece c (take size rest) ++ text_by piece (drop (i + 1) bytes) (drop size rest))) char_is
    ∙ ap (λ n. text ++ (piece (decoded rest).char (take n rest) ++ text_by piece (drop (i + 1) bytes) (drop n rest))) size_is
    ∙ ap (λ t. text ++ t) (sym (at_drop_more (λ fs. text_by piece fs rest) bytes i 0 within))

-- the cells of a character, and those to come
pub cells_step : (bytes rest : List ℕ) (count i size : ℕ) (character : Option ℕ) → i < length bytes → character ≡ (decoded rest).char → size ≡ (decoded rest).size
    → (count + character_cells character) + cells_by (drop (i + 1) bytes) (drop size rest) ≡ count + cells_by (drop i bytes) rest
cells_step bytes rest count i size character within char_is size_is =
    sums count (character_cells character) (cells_by (drop (i + 1) bytes) (drop size rest))
    ∙ ap (λ c. count + (character_cells c + cells_by (drop (i + 1) bytes) (drop size rest))) char_is
    ∙ ap (λ n. count + (character_cells (decoded rest).char + cells_by (drop (i + 1) bytes) (drop n rest))) size_is
    ∙ ap (λ n. count + n) (sym (at_drop_more (λ fs. cells_by fs rest) bytes i 0 within))
  where
    sums : (a b c : ℕ) → (a + b) + c ≡ a + (b + c)
    sums a b c = omega arith
