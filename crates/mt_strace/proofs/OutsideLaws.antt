-- Pieces between bytes that stand outside, found from the front.
use Rattle.std.proofs.Common.{◌≡◌, ℕ, ◌+◌, ◌<◌, ◌≤◌, ◌==◌, ◌&&◌, nat_lt, cond, List, [], ◌∷◌, ◌++◌, length, take, drop, get_or, Bool, true, false, Option, Some, None, refl, sym, ap, ◌∙◌, arith, append_assoc}
use Rattle.std.specs.List.{onto_first}
use Rattle.std.proofs.lemmas.Bool.{lt-ltb, le-ltb}
use Rattle.std.proofs.lemmas.List.{append-nil, drop_more, take_more, length-take-le, take_all, drop_all}
use Rattle.mt_strace.specs.declared.scan.Scan.{Scan}
use Rattle.mt_strace.specs.Outside.{scan_start, scan_after, is_outside, pieces_from, pieces_outside, until_outside, cut_outside}

-- pieces of which the first has more in front
abbrev pub onto_all : List ℕ → List (List ℕ) → List (List ℕ)
onto_all front [] = front ∷ []
onto_all front (piece ∷ pieces) = (front ++ piece) ∷ pieces

-- one byte more in front of the first piece
onto_one_more : (front : List ℕ) (b : ℕ) (ps : List (List ℕ)) → onto_all front (onto_first b ps) ≡ onto_all (front ++ b ∷ []) ps
onto_one_more front b [] = refl
onto_one_more front b (piece ∷ pieces) = ap (λ p. p ∷ pieces) (sym (append_assoc front (b ∷ []) piece))

-- nothing in front of the first piece
pub onto_nothing : (c : ℕ) (s : Scan) (text : List ℕ) → onto_all [] (pieces_from c s text) ≡ pieces_from c s text
onto_nothing c s [] = refl
onto_nothing c s (b ∷ text) = go (b == c && is_outside s) (pieces_from c (scan_after s b) text)
  where
    go : (t : Bool) (later : List (List ℕ)) → onto_all [] (cond t ([] ∷ pieces_from c scan_start text) (onto_first b later)) ≡ cond t ([] ∷ pieces_from c scan_start text) (onto_first b later)
    go true later = refl
    go false [] = refl
    go false (piece ∷ pieces) = refl

-- a byte at which the text is not cut
pub one_passed : (c : ℕ) (s : Scan) (text : List ℕ) (i b : ℕ) → i < length text → b ≡ get_or text i 0 → (b == c && is_outside s) ≡ false
    → onto_all (take (i + 1) text) (pieces_from c (scan_after s b) (drop (i + 1) text)) ≡ onto_all (take i text) (pieces_from c s (drop i text))
one_passed c s text i b lt is passed =
    let later = pieces_from c (scan_after s b) (drop (i + 1) text) in
    let first : drop i text ≡ b ∷ drop (i + 1) text = drop_more text i 0 lt ∙ ap (λ x. x ∷ drop (i + 1) text) (sym is) in
    let front : take (i + 1) text ≡ take i text ++ b ∷ [] = take_more text i 0 lt ∙ ap (λ x. take i text ++ x ∷ []) (sym is) in
    ap (λ x. onto_all x later) front
    ∙ sym (onto_one_more (take i text) b later)
    ∙ ap (λ t. onto_all (take i text) (cond t ([] ∷ pieces_from c scan_start (drop (i + 1) text)) (onto_first b later))) (sym passed)
    ∙ ap (λ rest. onto_all (take i text) (pieces_from c s rest)) (sym first)

-- the byte at which it is cut
pub one_cut : (c : ℕ) (s : Scan) (text : List ℕ) (i b : ℕ) → i < length text → b ≡ get_or text i 0 → (b == c && is_outside s) ≡ true
    → onto_all (take i text) (pieces_from c s (drop i text)) ≡ take i text ∷ pieces_outside c (drop (i + 1) text)
one_cut c s text i b lt is cuts =
    let later = pieces_from c (scan_after s b) (drop (i + 1) text) in
    let first : drop i text ≡ b ∷ drop (i + 1) text = drop_more text i 0 lt ∙ ap (λ x. x ∷ drop (i + 1) text) (sym is) in
    ap (λ rest. onto_all (take i text) (pieces_from c s rest)) first
    ∙ ap (λ t. onto_all (take i text) (cond t ([] ∷ pieces_from c scan_start (drop (i + 1) text)) (onto_first b later))) cuts
    ∙ ap (λ piece. piece ∷ pieces_outside c (drop (i + 1) text)) (append-nil (take i text))

-- a text in which it is cut nowhere
pub none_cut : (c : ℕ) (s : Scan) (text : List ℕ) (i : ℕ) → length text ≤ i → onto_all (take i text) (pieces_from c s (drop i text)) ≡ text ∷ []
none_cut c s text i le =
    ap (λ rest. onto_all (take i text) (pieces_from c s rest)) (drop_all i text le)
    ∙ ap (λ piece. piece ∷ []) (append-nil (take i text) ∙ take_all i text le)

-- a text cut at a place
cut_with : (text front : List ℕ) (k : ℕ) → front ≡ take k text → k < length text
    → cond {A = Option (List ℕ × List ℕ)} (nat_lt (length front) (length text)) (Some (front, drop (length front + 1) text)) None ≡ Some (take k text, drop (k + 1) text)
cut_with text front k is lt =
    let n : length front ≡ k = ap length is ∙ length-take-le k text (omega arith) in
    ap (λ x. cond {A = Option (List ℕ × List ℕ)} (nat_lt x (length text)) (Some (front, drop (x + 1) text)) None) n
    ∙ ap (λ t. cond {A = Option (List ℕ × List ℕ)} t (Some (front, drop (k + 1) text)) None) (lt-ltb k (length text) lt)
    ∙ ap (λ x. Some (x, drop (k + 1) text)) is

pub cut_at_place : (c : ℕ) (text : List ℕ) (k : ℕ) → k < length text → pieces_outside c text ≡ take k text ∷ pieces_outside c (drop (k + 1) text)
    → cut_outside c text ≡ Some (take k text, drop (k + 1) text)
cut_at_place c text k lt h = cut_with text (until_outside c text) k (ap (λ ps. get_or ps 0 []) h) lt

pub cut_nowhere : (c : ℕ) (text : List ℕ) → pieces_outside c text ≡ text ∷ [] → cut_outside c text ≡ None
cut_nowhere c text h =
    let is : until_outside c text ≡ text = ap (λ ps. get_or ps 0 []) h in
    ap (λ front. cond {A = Option (List ℕ × List ℕ)} (nat_lt (length front) (length text)) (Some (front, drop (length front + 1) text)) None) is
    ∙ ap (λ t. cond {A = Option (List ℕ × List ℕ)} t (Some (text, drop (length text + 1) text)) None) (le-ltb (length text) (length text) (omega arith))
