-- Texts that are cut at a byte.
use Rattle.std.proofs.Common.{◌≡◌, ℕ, suc, ◌+◌, ◌≤◌, ◌==◌, nat_lt, not, cond, List, [], ◌∷◌, ◌++◌, length, drop, get_or, Bool, true, false, Option, Some, None, refl, sym, ap, ◌∙◌, arith, append_assoc, length-append, eq-eqb}
use Rattle.std.specs.List.{slice_split, onto_first}
use Rattle.std.proofs.lemmas.Bool.{and_parts, not-true, lt-ltb, le-ltb}
use Rattle.std.proofs.lemmas.List.{drop_at, length_push}
use Rattle.mt_lines.specs.Words.{pieces}
use Rattle.mt_strace.specs.Printed.{lacks}
use Rattle.mt_strace.specs.Cuts.{until_byte, cut_at}

abbrev first : List (List ℕ) → List ℕ
first parts = get_or parts 0 []

onto_shorter : (b : ℕ) (parts : List (List ℕ)) (n : ℕ) → length (first parts) ≤ n → length (first (onto_first b parts)) ≤ n + 1
onto_shorter b [] n h = omega arith
onto_shorter b (part ∷ parts) n h = omega (arith, h)

pub until_shorter : (c : ℕ) (text : List ℕ) → length (until_byte c text) ≤ length text
until_shorter c [] = omega arith
until_shorter c (b ∷ text) = go (b == c) (until_shorter c text)
  where
    go : (t : Bool) → length (first (slice_split (λ x. x == c) text)) ≤ length text
        → length (first (cond t ([] ∷ slice_split (λ x. x == c) text) (onto_first b (slice_split (λ x. x == c) text)))) ≤ length (b ∷ text)
    go true h = omega arith
    go false h = let r = onto_shorter b (slice_split (λ x. x == c) text) (length text) h in omega (arith, r)

-- a text in which the first of a byte stands behind a word without it
pub split_more : (c : ℕ) (w rest : List ℕ) → lacks c w ≡ true → pieces c (w ++ c ∷ rest) ≡ w ∷ pieces c rest
split_more c [] rest h = let e : (c == c) ≡ true = eq-eqb c c refl in rw e refl
split_more c (b ∷ w) rest h =
    let parts = and_parts (not (b == c)) (lacks c w) h in
    let e = not-true (b == c) parts.0 in
    rw e (ap (onto_first b) (split_more c w rest parts.1))

pub split_none : (c : ℕ) (w : List ℕ) → lacks c w ≡ true → pieces c w ≡ w ∷ []
split_none c [] h = refl
split_none c (b ∷ w) h =
    let parts = and_parts (not (b == c)) (lacks c w) h in
    let e = not-true (b == c) parts.0 in
    rw e (ap (onto_first b) (split_none c w parts.1))

pub cut_front : (text front behind word : List ℕ) (c : ℕ) → word ≡ front → text ≡ front ++ c ∷ behind
    → cond {A = Option (List ℕ × List ℕ)} (nat_lt (length word) (length text)) (Some (word, drop (length word + 1) text)) None ≡ Some (front, behind)
cut_front text front behind word c same is =
    let n : length text ≡ length front + suc (length behind) = ap length is ∙ length-append front (c ∷ behind) in
    let lt : nat_lt (length front) (length text) ≡ true = lt-ltb (length front) (length text) (omega (arith, n)) in
    let rest : drop (length front + 1) text ≡ behind =
    ap (drop (length front + 1)) (is ∙ sym (append_assoc front (c ∷ []) behind))
    ∙ drop_at (front ++ c ∷ []) behind (length front + 1) (length_push front c) in
    ap (λ x. cond {A = Option (List ℕ × List ℕ)} (nat_lt (length x) (length text)) (Some (x, drop (length x + 1) text)) None) same
    ∙ ap (λ t. cond {A = Option (List ℕ × List ℕ)} t (Some (front, drop (length front + 1) text)) None) lt
    ∙ ap (λ x. Some (front, x)) rest

pub cut_found : (c : ℕ) (front behind : List ℕ) → lacks c front ≡ true → cut_at c (front ++ c ∷ behind) ≡ Some (front, behind)
cut_found c front behind h =
    cut_front (front ++ c ∷ behind) front behind (until_byte c (front ++ c ∷ behind)) c (ap (λ ps. get_or ps 0 []) (split_more c front behind h)) refl

cut_whole : (text word : List ℕ) → word ≡ text → cond {A = Option (List ℕ × List ℕ)} (nat_lt (length word) (length text)) (Some (word, drop (length word + 1) text)) None ≡ None
cut_whole text word same =
    ap (λ x. cond {A = Option (List ℕ × List ℕ)} (nat_lt (length x) (length text)) (Some (x, drop (length x + 1) text)) None) same
    ∙ ap (λ t. cond {A = Option (List ℕ × List ℕ)} t (Some (text, drop (length text + 1) text)) None) (le-ltb (length text) (length text) (omega arith))

pub cut_missing : (c : ℕ) (text : List ℕ) → lacks c text ≡ true → cut_at c text ≡ None
cut_missing c text h = cut_whole text (until_byte c text) (ap (λ ps. get_or ps 0 []) (split_none c text h))
