-- How many cells of a line a text takes behind characters that end where it begins.
use Rattle.std.proofs.Common.{◌≡◌, ℕ, zero, suc, ◌+◌, ◌-◌, ◌*◌, ◌≤◌, ◌<◌, Bool, true, false, ◌==◌, nat_lt, List, [], ◌∷◌, ◌++◌, length, drop, Option, Some, None, refl, sym, ap, ◌∙◌, slice_index, length-drop, arith}
use Rattle.std.proofs.lemmas.Bool.Decides.{nat_tests}
use Rattle.bstr.specs.Utf8.{Decoded, decoded, decoded_by, good, continues, code_of_3}
use Rattle.bstr.proofs.lemmas.PieceLemmas.{size-bounds}
use Rattle.mt_terminal.specs.Terminal.{character_cells, cells_by, cells_of_text}

-- behind the end of a text nothing takes a cell
none_left : (fs : List ℕ) → cells_by fs [] ≡ 0
none_left [] = refl
none_left (f ∷ fs) = omega (arith, none_left fs)

size_of : (b : ℕ) (bs : List ℕ) → (1 ≤ (decoded (b ∷ bs)).size) × ((decoded (b ∷ bs)).size ≤ suc (length bs))
size_of b bs = let s = size-bounds (length (b ∷ bs)) b (slice_index (b ∷ bs) 1) (slice_index (b ∷ bs) 2) (slice_index (b ∷ bs) 3) (omega arith) in (s.0, s.2)

-- it is enough to ask for as many characters as there are bytes
enough : (fs gs bytes : List ℕ) → length bytes ≤ length fs → length bytes ≤ length gs → cells_by fs bytes ≡ cells_by gs bytes
enough fs gs [] h k = none_left fs ∙ sym (none_left gs)
enough [] gs (b ∷ bs) h k = absurd (omega (arith, h))
enough (f ∷ fs) [] (b ∷ bs) h k = absurd (omega (arith, k))
enough (f ∷ fs) (g ∷ gs) (b ∷ bs) h k =
    let n = (decoded (b ∷ bs)).size in
    let s = size_of b bs in
    let l = length-drop n (b ∷ bs) in
    ap (λ m. character_cells (decoded (b ∷ bs)).char + m) (enough fs gs (drop n (b ∷ bs)) (omega (arith, h, s.0, l)) (omega (arith, k, s.0, l)))

-- the first character of a text, and the rest
first_cells : (b : ℕ) (bs : List ℕ) (c : Option ℕ) (n : ℕ) (rest : List ℕ) → decoded (b ∷ bs) ≡ record { char = c; size = n } → rest ≡ drop n (b ∷ bs) → cells_of_text (b ∷ bs) ≡ character_cells c + cells_of_text rest
unfolding cells_of_text
first_cells b bs c n rest e r =
    let s = size_of b bs in
    let size : (decoded (b ∷ bs)).size ≡ n = ap (λ d. d.size) e in
    let l = length-drop (decoded (b ∷ bs)).size (b ∷ bs) in
    let behind : drop (decoded (b ∷ bs)).size (b ∷ bs) ≡ rest = ap (λ k. drop k (b ∷ bs)) size ∙ sym r in
    ap (λ d. character_cells d.char + cells_by bs (drop (decoded (b ∷ bs)).size (b ∷ bs))) e
    ∙ ap (λ m. character_cells c + m) (enough bs (drop (decoded (b ∷ bs)).size (b ∷ bs)) (drop (decoded (b ∷ bs)).size (b ∷ bs)) (omega (arith, s.0, l)) (omega arith))
    ∙ ap (λ t. character_cells c + cells_by t t) behind

-- a byte of ASCII
pub ascii_cells : (b : ℕ) (t : List ℕ) → nat_lt b 128 ≡ true → cells_of_text (b ∷ t) ≡ character_cells (Some b) + cells_of_text t
ascii_cells b t low = first_cells b t (Some b) 1 t (is_one (suc (length t)) (slice_index (b ∷ t) 1) (slice_index (b ∷ t) 2) (slice_index (b ∷ t) 3) (omega arith)) refl
  where
    is_one : (n x y z : ℕ) → 0 < n → decoded_by n b x y z ≡ good b 1
    is_one n x y z some =
        let there : (n == 0) ≡ false = grind (arith, nat_tests) in
        rw (there, low) refl

-- a character for drawing boxes
pub box_cells : (x : ℕ) (t : List ℕ) → continues x ≡ true → cells_of_text (226 ∷ 148 ∷ x ∷ t) ≡ character_cells (Some (code_of_3 226 148 x)) + cells_of_text t
box_cells x t more = first_cells 226 (148 ∷ x ∷ t) (Some (code_of_3 226 148 x)) 3 t (is_three (suc (suc (suc (length t)))) (slice_index (226 ∷ 148 ∷ x ∷ t) 3) (omega arith)) refl
  where
    is_three : (n z : ℕ) → 3 ≤ n → decoded_by n 226 148 x z ≡ good (code_of_3 226 148 x) 3
    is_three n z some =
        let there : (n == 0) ≡ false = grind (arith, nat_tests) in
        let two : nat_lt n 2 ≡ false = grind (arith, nat_tests) in
        let three : nat_lt n 3 ≡ false = grind (arith, nat_tests) in
        rw (there, two, three, more) refl

-- a text takes two cells at most for each byte
pub few_cells : (t : List ℕ) → cells_of_text t ≤ 2 * length t
unfolding cells_of_text
few_cells t = go t t
  where
    two : (o : Option ℕ) → character_cells o ≤ 2
    two None = omega arith
    two (Some c) = omega arith

    go : (fs bytes : List ℕ) → cells_by fs bytes ≤ 2 * length fs
    go [] bytes = omega arith
    go (f ∷ fs) bytes = omega (arith, two (decoded bytes).char, go fs (drop (decoded bytes).size bytes))
