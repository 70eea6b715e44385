-- Words that are joined by a byte that they lack are the pieces of the text.
use Rattle.std.proofs.Common.{◌≡◌, ℕ, ◌==◌, not, List, [], ◌∷◌, ◌++◌, Bool, true, false, refl, ap, ◌∙◌, arith}
use Rattle.std.specs.List.{list_all, join_with_byte, onto_first}
use Rattle.std.proofs.lemmas.List.Splits.{join_with_byte-slice_split}
use Rattle.std.proofs.lemmas.Bool.{and_parts}
use Rattle.std.proofs.lemmas.Bool.Decides.{nat_tests}
use Rattle.mt_lines.specs.Words.{pieces}

abbrev pub lacks_byte : ℕ → List ℕ → Bool
lacks_byte c w = list_all (λ b. not (b == c)) w

other_byte : (b c : ℕ) → not (b == c) ≡ true → (b == c) ≡ false
other_byte b c h = go (b == c) h
  where
    go : (t : Bool) → not t ≡ true → t ≡ false
    go true h = cc
    go false h = refl

pieces_one : (c : ℕ) (w : List ℕ) → lacks_byte c w ≡ true → pieces c w ≡ w ∷ []
pieces_one c [] h = refl
pieces_one c (b ∷ w) h =
    let e = other_byte b c (and_parts (not (b == c)) (lacks_byte c w) h).0 in
    rw e (ap (onto_first b) (pieces_one c w (and_parts (not (b == c)) (lacks_byte c w) h).1))

pieces_more : (c : ℕ) (w rest : List ℕ) → lacks_byte c w ≡ true → pieces c (w ++ c ∷ rest) ≡ w ∷ pieces c rest
pieces_more c [] rest h = let e : (c == c) ≡ true = grind (arith, nat_tests) in rw e refl
pieces_more c (b ∷ w) rest h =
    let e = other_byte b c (and_parts (not (b == c)) (lacks_byte c w) h).0 in
    rw e (ap (onto_first b) (pieces_more c w rest (and_parts (not (b == c)) (lacks_byte c w) h).1))

-- the pieces of joined words are the words
pub pieces_joined : (c : ℕ) (w : List ℕ) (ws : List (List ℕ)) → list_all (lacks_byte c) (w ∷ ws) ≡ true → pieces c (join_with_byte c (w ∷ ws)) ≡ w ∷ ws
pieces_joined c w [] h = pieces_one c w (and_parts (lacks_byte c w) true h).0
pieces_joined c w (v ∷ ws) h =
    pieces_more c w (join_with_byte c (v ∷ ws)) (and_parts (lacks_byte c w) (list_all (lacks_byte c) (v ∷ ws)) h).0
    ∙ ap (λ vs. w ∷ vs) (pieces_joined c v ws (and_parts (lacks_byte c w) (list_all (lacks_byte c) (v ∷ ws)) h).1)

-- joined pieces are the text
pub joined_pieces : (c : ℕ) (text : List ℕ) → join_with_byte c (pieces c text) ≡ text
joined_pieces c text = join_with_byte-slice_split c text
