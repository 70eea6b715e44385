-- A text with escapes: its first byte, and the way back from the bytes that it stands for.
use Rattle.std.proofs.lemmas.Grind.{flat_map-append}
use Rattle.std.proofs.lemmas.List.{take_all, take_more, append-nil, append_assoc}
use Rattle.std.proofs.Common.{get_or, ◌-◌, ◌≡◌, ◌≢◌, ℕ, ◌+◌, ◌<◌, ◌≤◌, ◌==◌, List, [], ◌∷◌, ◌++◌, length, take, drop, Option, Some, None, true, false, refl, ap, sym, ◌∙◌, arith}
use Rattle.std.proofs.lemmas.Bool.{ne_eqb, eqb-false}
use Rattle.std.proofs.lemmas.Bool.Decides.{nat_tests}
use Rattle.std.specs.Option.{option_map}
use Rattle.std.specs.List.{list_any}
use Rattle.mt_skel.specs.Escapes.{has_escape, is_backslash, escaped, escaped_byte, unescaped, cons_to, byte_of_digits}

pub unescaped-plain : (x : ℕ) (xs : List ℕ) → x ≢ 92 → unescaped (x ∷ xs) ≡ cons_to (Some x) (unescaped xs)
unfolding unescaped
unescaped-plain x [] h = rw (ne_eqb x 92 h) refl
unescaped-plain x (a ∷ []) h = rw (ne_eqb x 92 h) refl
unescaped-plain x (a ∷ b ∷ []) h = rw (ne_eqb x 92 h) refl
unescaped-plain x (a ∷ b ∷ c ∷ rest) h = rw (ne_eqb x 92 h) refl

-- a backslash with fewer than three characters after it begins no escape
pub unescaped-short : (xs : List ℕ) → length xs < 3 → unescaped (92 ∷ xs) ≡ None
unfolding unescaped
unescaped-short [] h = refl
unescaped-short (a ∷ []) h = refl
unescaped-short (a ∷ b ∷ []) h = refl
unescaped-short (a ∷ b ∷ c ∷ rest) h = absurd (omega arith)

-- a text that begins with a backslash and three more characters
pub unescaped-code : (rest : List ℕ) → 3 ≤ length rest → unescaped (92 ∷ rest) ≡ cons_to (byte_of_digits (get_or rest 0 0) (get_or rest 1 0) (get_or rest 2 0)) (unescaped (take (length rest - 3) (drop 3 rest)))
unfolding unescaped
unescaped-code [] h = absurd (omega arith)
unescaped-code (a ∷ []) h = absurd (omega arith)
unescaped-code (a ∷ b ∷ []) h = absurd (omega arith)
unescaped-code (a ∷ b ∷ c ∷ rest) h =
    let e : take (length (a ∷ b ∷ c ∷ rest) - 3) rest ≡ rest = take_all (length (a ∷ b ∷ c ∷ rest) - 3) rest (omega arith) in
    ap (λ x. cons_to (byte_of_digits a b c) (unescaped x)) (sym e)

-- the rest of a text after its first byte, as a slice has it
abbrev pub rest_of : List ℕ → List ℕ
rest_of text = take (length text - 1) (drop 1 text)

pub rest_of-cons : (x : ℕ) (xs : List ℕ) → rest_of (x ∷ xs) ≡ xs
rest_of-cons x xs = take_all (length (x ∷ xs) - 1) xs (omega arith)

-- a text by its first byte: one that is no backslash, and a backslash with too few characters after it or with three
pub first_plain : (text : List ℕ) → 0 < length text → get_or text 0 0 ≢ 92 → unescaped text ≡ cons_to (Some (get_or text 0 0)) (unescaped (rest_of text))
first_plain [] h ne = absurd (omega arith)
first_plain (x ∷ xs) h ne = rw (rest_of-cons x xs) (unescaped-plain x xs ne)

pub first_short : (text : List ℕ) → 0 < length text → get_or text 0 0 ≡ 92 → length (rest_of text) < 3 → unescaped text ≡ None
first_short [] h e lt = absurd (omega arith)
first_short (x ∷ xs) h e lt = rw e (unescaped-short xs (rw (rest_of-cons x xs) at lt))

pub first_code : (text : List ℕ) (o : Option ℕ) → 0 < length text → get_or text 0 0 ≡ 92 → 3 ≤ length (rest_of text) → o ≡ byte_of_digits (get_or (rest_of text) 0 0) (get_or (rest_of text) 1 0) (get_or (rest_of text) 2 0) → unescaped text ≡ cons_to o (unescaped (take (length (rest_of text) - 3) (drop 3 (rest_of text))))
first_code [] o h e le k = absurd (omega arith)
first_code (x ∷ xs) o h e le k =
    let r = rest_of-cons x xs in
    rw (e, k, r) (unescaped-code xs (rw r at le))

-- an empty text stands for no bytes
pub unescaped-nil : (text : List ℕ) → length text ≡ 0 → unescaped text ≡ Some []
unfolding unescaped
unescaped-nil [] h = refl
unescaped-nil (x ∷ xs) h = absurd (omega arith)

-- bytes before what is to come
abbrev pub before_all : List ℕ → Option (List ℕ) → Option (List ℕ)
before_all out rest = option_map (λ r. out ++ r) rest

-- how many bytes there are, with n before those to come
abbrev pub count_from : ℕ → Option (List ℕ) → Option ℕ
count_from n rest = option_map (λ r. n + length r) rest

pub unescaped-escape : (d e f : ℕ) (rest : List ℕ) → unescaped (92 ∷ d ∷ e ∷ f ∷ rest) ≡ cons_to (byte_of_digits d e f) (unescaped rest)
unfolding unescaped
unescaped-escape d e f rest = refl

-- what holds of the four escapes, and of each other byte, holds of the text of any byte
pub each_escape : (P : ℕ → List ℕ → Type 0) → P 32 (92 ∷ 48 ∷ 52 ∷ 48 ∷ []) → P 9 (92 ∷ 48 ∷ 49 ∷ 49 ∷ []) → P 10 (92 ∷ 48 ∷ 49 ∷ 50 ∷ []) → P 92 (92 ∷ 49 ∷ 51 ∷ 52 ∷ [])
    → ((b : ℕ) → (b == 32) ≡ false → (b == 9) ≡ false → (b == 10) ≡ false → (b == 92) ≡ false → P b (b ∷ [])) → (b : ℕ) → P b (escaped_byte b)
each_escape P of_space of_tab of_newline of_backslash plain b = grind (arith, nat_tests, of_space, of_tab, of_newline, of_backslash, plain b)

-- the text of a byte stands for that byte
unescaped-escaped_byte : (b : ℕ) (rest : List ℕ) → unescaped (escaped_byte b ++ rest) ≡ cons_to (Some b) (unescaped rest)
unescaped-escaped_byte b rest =
    each_escape (λ x text. unescaped (text ++ rest) ≡ cons_to (Some x) (unescaped rest)) (unescaped-escape 48 52 48 rest) (unescaped-escape 48 49 49 rest) (unescaped-escape 48 49 50 rest) (unescaped-escape 49 51 52 rest)
    (λ x _ _ _ other. unescaped-plain x rest (eqb-false x 92 other)) b

-- the text of bytes stands for those bytes
pub unescaped-escaped : (bytes : List ℕ) → unescaped (escaped bytes) ≡ Some bytes
unescaped-escaped [] = unescaped-nil [] refl
unescaped-escaped (b ∷ bytes) =
    unescaped-escaped_byte b (escaped bytes) ∙ ap (cons_to (Some b)) (unescaped-escaped bytes)

pub stands_for : (text bytes : List ℕ) → text ≡ escaped bytes → unescaped text ≡ Some bytes
stands_for text bytes e = rw e (unescaped-escaped bytes)

pub not_empty : (text : List ℕ) → false ≡ (length text == 0) → 0 < length text
not_empty text e = grind (arith, nat_tests)

-- bytes of which none has an escape are their own text
pub bare_escaped : (bytes : List ℕ) → list_any has_escape bytes ≡ false → escaped bytes ≡ bytes
bare_escaped [] h = refl
bare_escaped (b ∷ bytes) h = grind (arith, nat_tests, bare_escaped bytes)

-- one byte more of those that were written
pub escaped_more : {old new : List ℕ} (start bytes : List ℕ) (i : ℕ) → i < length bytes → old ≡ start ++ escaped (take i bytes) → new ≡ old ++ escaped_byte (get_or bytes i 0) → new ≡ start ++ escaped (take (i + 1) bytes)
escaped_more start bytes i l e f =
    let b = get_or bytes i 0 in
    let longer = ap escaped (take_more bytes i 0 l) ∙ flat_map-append escaped_byte (take i bytes) (b ∷ []) ∙ ap (λ t. escaped (take i bytes) ++ t) (append-nil (escaped_byte b)) in
    f ∙ ap (λ t. t ++ escaped_byte b) e ∙ append_assoc start (escaped (take i bytes)) (escaped_byte b) ∙ ap (λ t. start ++ t) (sym longer)

-- a text without a backslash stands for itself
pub bare_unescaped : (text : List ℕ) → list_any is_backslash text ≡ false → unescaped text ≡ Some text
bare_unescaped [] h = unescaped-nil [] refl
bare_unescaped (b ∷ text) h = grind (arith, nat_tests, unescaped-plain b text, bare_unescaped text)

-- what was counted is all, once nothing is left
pub all_counted : (n : ℕ) (rest text : List ℕ) → count_from n (unescaped rest) ≡ count_from 0 (unescaped text) → true ≡ (length rest == 0) → Some n ≡ option_map (λ r. length r) (unescaped text)
all_counted n rest text h e = grind (arith, nat_tests, unescaped-nil rest)

-- what was read is all, once no byte is left to read
pub all_read : (out rest text : List ℕ) (n : ℕ) → before_all out (unescaped rest) ≡ unescaped text → Some n ≡ option_map (λ r. length r) (unescaped text) → (0 < length rest → unescaped rest ≡ None) → unescaped text ≡ Some out
all_read out rest text n h is none = grind (arith, unescaped-nil rest, append-nil out)
