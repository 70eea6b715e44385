-- The pieces of a path word, and the names that they stand for.
use Rattle.std.proofs.Common.{◌≡◌, ◌≢◌, ℕ, ◌<◌, ◌==◌, ◌&&◌, ◌||◌, not, nat_eq, nat_lt, nat_le, List, [], ◌∷◌, map, length, get_or, codes, Bool, true, false, Option, Some, None, IsSome, refl, ap, sym, subst, ◌∙◌, arith}
use Rattle.std.proofs.Math.Dec.{eqb-suc-zero}
use Rattle.std.proofs.lemmas.Bool.{ne_eqb, eqb-true, eqb-false, and_parts, or_parts}
use Rattle.std.proofs.lemmas.Bool.Decides.{nat_tests}
use Rattle.std.specs.Option.{option_map_or}
use Rattle.std.specs.List.{list_all, list_any, starts_with, onto_first}
use Rattle.std.specs.Str.{bytes_eq}
use Rattle.mt_skel.specs.declared.fault.Fault.TheVariants.{BadLine, TooLong, BadPath}
use Rattle.mt_skel.specs.Outcome.{refuse_if, first_fault}
use Rattle.mt_skel.specs.Names.{is_name}
use Rattle.mt_skel.specs.Escapes.{unescaped, cons_to, byte_of_digits}
use Rattle.mt_skel.proofs.EscapeLaws.{bare_unescaped, unescaped-plain, unescaped-nil, unescaped-escape, rest_of, rest_of-cons}
use Rattle.mt_lines.specs.Words.{pieces}
use Rattle.mt_requests.specs.Requests.{text_length, label_bytes, components, is_path, has_long_piece, path_fault, path_names}
use Rattle.mt_skel.proofs.UnescapeLaws.{IsKept, all_kept, after_first}
use Rattle.mt_requests.proofs.TextLaws.{IsText, is_nonzero, text, label_bytes-is, length_same}

-- each piece of a word stands for a piece of the bytes
abbrev pub StandFor : List (List ℕ) → List (List ℕ) → Type 0
StandFor [] [] = Unit {0}
StandFor (p ∷ ps) (q ∷ qs) = (unescaped p ≡ Some q) × StandFor ps qs
StandFor [] (q ∷ qs) = ⊥
StandFor (p ∷ ps) [] = ⊥

plain_onto : (x : ℕ) (ps qs : List (List ℕ)) → x ≢ 92 → StandFor ps qs → StandFor (onto_first x ps) (onto_first x qs)
plain_onto x [] [] ne h = (unescaped-plain x [] ne ∙ ap (cons_to (Some x)) (unescaped-nil [] refl), tt)
plain_onto x (p ∷ ps) (q ∷ qs) ne h = (unescaped-plain x p ne ∙ ap (cons_to (Some x)) h.0, h.1)
plain_onto x [] (q ∷ qs) ne h = absurd h
plain_onto x (p ∷ ps) [] ne h = absurd h

escape_onto : (d e f y : ℕ) (ps qs : List (List ℕ)) → byte_of_digits d e f ≡ Some y → StandFor ps qs → StandFor (onto_first 92 (onto_first d (onto_first e (onto_first f ps)))) (onto_first y qs)
escape_onto d e f y [] [] is h =
    (unescaped-escape d e f [] ∙ ap (λ o. cons_to o (unescaped [])) is ∙ ap (cons_to (Some y)) (unescaped-nil [] refl), tt)
escape_onto d e f y (p ∷ ps) (q ∷ qs) is h =
    (unescaped-escape d e f p ∙ ap (λ o. cons_to o (unescaped p)) is ∙ ap (cons_to (Some y)) h.0, h.1)
escape_onto d e f y [] (q ∷ qs) is h = absurd h
escape_onto d e f y (p ∷ ps) [] is h = absurd h

abbrev KeepsPieces : List ℕ → List ℕ → Type 0
KeepsPieces w b = StandFor (pieces 47 w) (pieces 47 b)

-- no escape stands for a slash
pieces_kept : IsKept KeepsPieces
pieces_kept = record {
  nil = (unescaped-nil [] refl, tt);
  plain = λ x w b ne ih. plain_piece x w b ne ih (x == 47) refl;
  space = λ w b ih. escape_onto 48 52 48 32 (pieces 47 w) (pieces 47 b) refl ih;
  tab = λ w b ih. escape_onto 48 49 49 9 (pieces 47 w) (pieces 47 b) refl ih;
  newline = λ w b ih. escape_onto 48 49 50 10 (pieces 47 w) (pieces 47 b) refl ih;
  backslash = λ w b ih. escape_onto 49 51 52 92 (pieces 47 w) (pieces 47 b) refl ih;
}
  where
    plain_piece : (x : ℕ) (w b : List ℕ) → x ≢ 92 → StandFor (pieces 47 w) (pieces 47 b) → (t : Bool) → (x == 47) ≡ t → StandFor (pieces 47 (x ∷ w)) (pieces 47 (x ∷ b))
    plain_piece x w b ne ih true is = rw is (unescaped-nil [] refl, ih)
    plain_piece x w b ne ih false is = rw is (plain_onto x (pieces 47 w) (pieces 47 b) ne ih)

-- the pieces of a word stand for those of its bytes
pub pieces_stand : (w b : List ℕ) → unescaped w ≡ Some b → StandFor (pieces 47 w) (pieces 47 b)
pieces_stand = all_kept KeepsPieces pieces_kept

-- a word and its bytes are alike as dots
pub record AreAlike (p q : List ℕ) : Type 0 where
  pub empty : nat_eq (length p) 0 ≡ nat_eq (length q) 0
  pub none : bytes_eq p [] ≡ bytes_eq q []
  pub one : bytes_eq p (codes ".") ≡ bytes_eq q (codes ".")
  pub two : bytes_eq p (codes "..") ≡ bytes_eq q (codes "..")

unlike : (x y d e f : ℕ) (w b : List ℕ) → (x == 46) ≡ false → (y == 46) ≡ false → AreAlike (x ∷ d ∷ e ∷ f ∷ w) (y ∷ b)
unlike x y d e f w b h k = record {
  empty = eqb-suc-zero _ ∙ sym (eqb-suc-zero (length b));
  none = refl;
  one = rw (h, k) refl;
  two = rw (h, k) refl;
}

-- no escape stands for a dot
dots_kept : IsKept AreAlike
dots_kept = record {
  nil = record { empty = refl; none = refl; one = refl; two = refl };
  plain = λ x w b ne ih. record {
    empty = eqb-suc-zero (length w) ∙ sym (eqb-suc-zero (length b));
    none = refl;
    one = ap (λ t. (x == 46) && t) ih.none;
    two = ap (λ t. (x == 46) && t) ih.one;
  };
  space = λ w b ih. unlike 92 32 48 52 48 w b refl refl;
  tab = λ w b ih. unlike 92 9 48 49 49 w b refl refl;
  newline = λ w b ih. unlike 92 10 48 49 50 w b refl refl;
  backslash = λ w b ih. unlike 92 92 49 51 52 w b refl refl;
}

-- a piece that is neither empty nor dots
abbrev pub is_component : List ℕ → Bool
is_component p = not (nat_eq (length p) 0) && not (bytes_eq p (codes ".")) && not (bytes_eq p (codes ".."))

abbrev pub is_long : List ℕ → Bool
is_long q = nat_lt 255 (length q)

abbrev is_slashless : List ℕ → Bool
is_slashless = list_all (λ b. not (b == 47))

flat : (n d e : Bool) → (n && d && e) ≡ (n && true && true && true && d && e)
flat true d e = refl
flat false d e = refl

joined : (n m d f e g a b z s : Bool) → n ≡ m → d ≡ f → e ≡ g → a ≡ not m → b ≡ true → z ≡ true → s ≡ true → (not n && not d && not e) ≡ (a && b && z && s && not f && not g)
joined n m d f e g a b z s hn hd he ha hb hz hs = rw (hn, hd, he, ha, hb, hz, hs) (flat (not m) (not f) (not g))

component_is : (p q : List ℕ) → unescaped p ≡ Some q → is_nonzero q ≡ true → is_slashless q ≡ true → is_long q ≡ false → is_component p ≡ is_name q
component_is p q h nonzero slashless short =
    let like = all_kept AreAlike dots_kept p q h in
    let low : nat_le 1 (length q) ≡ not (nat_eq (length q) 0) = grind (arith, nat_tests) in
    let high : nat_le (length q) 255 ≡ true = grind (arith, nat_tests) in
    joined _ _ _ _ _ _ _ _ _ _ like.empty like.one like.two low high nonzero slashless

components_are : (ps qs : List (List ℕ)) → StandFor ps qs → list_all is_nonzero qs ≡ true → list_all is_slashless qs ≡ true → list_any is_long qs ≡ false → list_all is_component ps ≡ list_all is_name qs
components_are [] [] h nz ns lt = refl
components_are (p ∷ ps) (q ∷ qs) h nz ns lt =
    let z = and_parts (is_nonzero q) (list_all is_nonzero qs) nz in
    let s = and_parts (is_slashless q) (list_all is_slashless qs) ns in
    let l = or_parts (is_long q) (list_any is_long qs) lt in
    let first : is_component p ≡ is_name q = component_is p q h.0 z.0 s.0 l.0 in
    let later : list_all is_component ps ≡ list_all is_name qs = components_are ps qs h.1 z.1 s.1 l.1 in
    ap (λ t. t && list_all is_component ps) first ∙ ap (λ t. is_name q && t) later
components_are [] (q ∷ qs) h nz ns lt = absurd h
components_are (p ∷ ps) [] h nz ns lt = absurd h

-- the pieces of bytes without zeros have none, and no piece has a slash
onto_all : (test : ℕ → Bool) (x : ℕ) (qs : List (List ℕ)) → test x ≡ true → list_all (list_all test) qs ≡ true → list_all (list_all test) (onto_first x qs) ≡ true
onto_all test x [] h all = rw h refl
onto_all test x (q ∷ qs) h all = rw h all

pieces_nonzero : (b : List ℕ) → is_nonzero b ≡ true → list_all is_nonzero (pieces 47 b) ≡ true
pieces_nonzero [] h = refl
pieces_nonzero (x ∷ b) h =
    let parts = and_parts (not (x == 0)) (is_nonzero b) h in go (x == 47) refl parts.0 (pieces_nonzero b parts.1)
  where
    go : (t : Bool) → (x == 47) ≡ t → not (x == 0) ≡ true → list_all is_nonzero (pieces 47 b) ≡ true → list_all is_nonzero (pieces 47 (x ∷ b)) ≡ true
    go true is first later = rw is later
    go false is first later = rw is (onto_all (λ b. not (b == 0)) x (pieces 47 b) first later)

pieces_slashless : (b : List ℕ) → list_all is_slashless (pieces 47 b) ≡ true
pieces_slashless [] = refl
pieces_slashless (x ∷ b) = go (x == 47) refl (pieces_slashless b)
  where
    go : (t : Bool) → (x == 47) ≡ t → list_all is_slashless (pieces 47 b) ≡ true → list_all is_slashless (pieces 47 (x ∷ b)) ≡ true
    go true is later = rw is later
    go false is later = rw is (onto_all (λ b. not (b == 47)) x (pieces 47 b) (ap not is) later)

-- the length that a piece of a word stands for
abbrev pub is_long_word : List ℕ → Bool
is_long_word p = option_map_or is_long (unescaped p) false

long_words : (ps qs : List (List ℕ)) → StandFor ps qs → list_any is_long_word ps ≡ list_any is_long qs
long_words [] [] h = refl
long_words (p ∷ ps) (q ∷ qs) h =
    ap (λ o. option_map_or is_long o false || list_any is_long_word ps) h.0 ∙ ap (λ t. is_long q || t) (long_words ps qs h.1)
long_words [] (q ∷ qs) h = absurd h
long_words (p ∷ ps) [] h = absurd h

pub long_pieces : (w : List ℕ) (n : ℕ) → text_length w ≡ Some n → list_any is_long_word (pieces 47 w) ≡ has_long_piece (label_bytes w)
long_pieces w n h =
    let r = text w n h in
    long_words (pieces 47 w) (pieces 47 r.0) (pieces_stand w r.0 r.1.stands) ∙ ap has_long_piece (sym (label_bytes-is w r.0 r.1.stands))

-- a name, as a piece of a word says it
abbrev pub is_name_word : List ℕ → Bool
is_name_word p = option_map_or is_name (unescaped p) false

name_words : (ps qs : List (List ℕ)) → StandFor ps qs → list_all is_name_word ps ≡ list_all is_name qs
name_words [] [] h = refl
name_words (p ∷ ps) (q ∷ qs) h =
    ap (λ o. option_map_or is_name o false && list_all is_name_word ps) h.0 ∙ ap (λ t. is_name q && t) (name_words ps qs h.1)
name_words [] (q ∷ qs) h = absurd h
name_words (p ∷ ps) [] h = absurd h

word_bytes : (ps qs : List (List ℕ)) → StandFor ps qs → map label_bytes ps ≡ qs
word_bytes [] [] h = refl
word_bytes (p ∷ ps) (q ∷ qs) h = rw (label_bytes-is p q h.0, word_bytes ps qs h.1) refl
word_bytes [] (q ∷ qs) h = absurd h
word_bytes (p ∷ ps) [] h = absurd h

abbrev KeepsSlash : List ℕ → List ℕ → Type 0
KeepsSlash w b = starts_with nat_eq w (codes "/") ≡ starts_with nat_eq b (codes "/")

slash_kept : IsKept KeepsSlash
slash_kept = record {
  nil = refl;
  plain = λ x w b ne ih. refl;
  space = λ w b ih. refl;
  tab = λ w b ih. refl;
  newline = λ w b ih. refl;
  backslash = λ w b ih. refl;
}

some_text : (w : List ℕ) → IsSome (text_length w) → (b : List ℕ) × IsText w b
some_text w h = go (text_length w) refl h
  where
    go : (o : Option ℕ) → text_length w ≡ o → IsSome o → (b : List ℕ) × IsText w b
    go None is some = cc
    go (Some n) is some = let r = text w n is in (r.0, r.1)

-- a word that stands for a text has a first byte
pub has_first : (w : List ℕ) → IsSome (text_length w) → 0 < length w
has_first w h =
    let r = some_text w h in
    let t = r.1 in
    let some : nat_eq (length w) 0 ≡ false = length_same w r.0 t.stands ∙ t.nonempty in grind (arith, nat_tests)

-- a word that does not begin with a slash stands for no path
pub unrooted : (w : List ℕ) → IsSome (text_length w) → get_or w 0 0 ≢ 47 → is_path (label_bytes w) ≡ false
unrooted w h ne =
    let r = some_text w h in
    let t = r.1 in
    let same : starts_with nat_eq w (codes "/") ≡ starts_with nat_eq r.0 (codes "/") = all_kept KeepsSlash slash_kept w r.0 t.stands in
    ap is_path (label_bytes-is w r.0 t.stands) ∙ ap (λ s. s && list_all is_name (components r.0)) (sym same ∙ other w ne)
  where
    other : (w : List ℕ) → get_or w 0 0 ≢ 47 → starts_with nat_eq w (codes "/") ≡ false
    other [] ne = refl
    other (x ∷ xs) ne = let e : (47 == x) ≡ false = ne_eqb 47 x (λ is. ne (sym is)) in rw e refl

-- a word that begins with a slash and goes on
pub record IsRooted (w : List ℕ) : Type 0 where
  pub first : ℕ
  pub others : List ℕ
  pub stands : unescaped (rest_of w) ≡ Some (first ∷ others)
  pub label : label_bytes w ≡ 47 ∷ first ∷ others
  pub nonzero : is_nonzero (first ∷ others) ≡ true

slash_plain : ◌≢◌ {A = ℕ} 47 92
slash_plain e = omega arith

root_bytes : (xs bytes : List ℕ) → unescaped (47 ∷ xs) ≡ Some bytes → (more : List ℕ) × (unescaped xs ≡ Some more) × (bytes ≡ 47 ∷ more)
root_bytes xs bytes h =
    let r = after_first (Some 47) (unescaped xs) bytes (sym (unescaped-plain 47 xs slash_plain) ∙ h) in
    let both : bytes ≡ 47 ∷ r.bytes = cc in (r.bytes, r.later, both)

rooted_more : (x y : ℕ) (ys more : List ℕ) → x ≡ 47 → unescaped (x ∷ y ∷ ys) ≡ Some (47 ∷ more) → unescaped (y ∷ ys) ≡ Some more → is_nonzero more ≡ true → IsRooted (x ∷ y ∷ ys)
rooted_more x y ys [] e h later nonzero =
    let no_length : nat_eq (length (y ∷ ys)) 0 ≡ true = length_same (y ∷ ys) [] later in
    let some : nat_eq (length (y ∷ ys)) 0 ≡ false = eqb-suc-zero (length ys) in cc
rooted_more x y ys (z ∷ zs) e h later nonzero = record {
  first = z;
  others = zs;
  stands = rw (rest_of-cons x (y ∷ ys)) later;
  label = label_bytes-is (x ∷ y ∷ ys) (47 ∷ z ∷ zs) h;
  nonzero = nonzero;
}

rooted_text : (x y : ℕ) (ys bytes : List ℕ) → x ≡ 47 → IsText (x ∷ y ∷ ys) bytes → IsRooted (x ∷ y ∷ ys)
rooted_text x y ys bytes e t =
    let m = root_bytes (y ∷ ys) bytes (subst (λ (v : ℕ). unescaped (v ∷ y ∷ ys) ≡ Some bytes) e t.stands) in
    let is : unescaped (x ∷ y ∷ ys) ≡ Some (47 ∷ m.0) = t.stands ∙ ap Some m.2 in
    let nonzero : is_nonzero (47 ∷ m.0) ≡ true = sym (ap is_nonzero m.2) ∙ t.nonzero in
    rooted_more x y ys m.0 e is m.1 nonzero

-- a word that begins with a slash and is longer stands for a slash and bytes after it
pub rooted_word : (w : List ℕ) → IsSome (text_length w) → get_or w 0 0 ≡ 47 → (length w ≡ 1 → ⊥) → IsRooted w
rooted_word [] h e long = let some : 0 < 0 = has_first [] h in absurd (omega arith)
rooted_word (x ∷ []) h e long = absurd (long refl)
rooted_word (x ∷ y ∷ ys) h e long =
    let r = some_text (x ∷ y ∷ ys) h in rooted_text x y ys r.0 e r.1

-- a word that is a slash alone stands for the root
pub root_is : (w : List ℕ) → IsSome (text_length w) → get_or w 0 0 ≡ 47 → length w ≡ 1 → label_bytes w ≡ codes "/"
root_is [] h e one = absurd (omega arith)
root_is (x ∷ []) h e one =
    let plain : unescaped (47 ∷ []) ≡ Some (47 ∷ []) = unescaped-plain 47 [] slash_plain ∙ ap (cons_to (Some 47)) (unescaped-nil [] refl) in
    label_bytes-is (x ∷ []) (47 ∷ []) (rw e plain)
root_is (x ∷ y ∷ ys) h e one = absurd (omega arith)

-- the components of a word that begins with a slash and goes on
pub rooted : (w : List ℕ) → IsRooted w → has_long_piece (label_bytes w) ≡ false → list_all is_component (pieces 47 (rest_of w)) ≡ is_path (label_bytes w)
rooted w r short =
    let bytes = r.first ∷ r.others in
    let none : has_long_piece (47 ∷ r.first ∷ r.others) ≡ false = rw r.label at short in
    let all : list_all is_component (pieces 47 (rest_of w)) ≡ list_all is_name (pieces 47 (r.first ∷ r.others)) = components_are (pieces 47 (rest_of w)) (pieces 47 (r.first ∷ r.others)) (pieces_stand (rest_of w) (r.first ∷ r.others) r.stands) (pieces_nonzero (r.first ∷ r.others) r.nonzero) (pieces_slashless (r.first ∷ r.others)) none in
    all ∙ ap is_path (sym r.label)

-- what a word without a fault is
pub record IsPathWord (w : List ℕ) : Type 0 where
  pub some : IsSome (text_length w)
  pub path : is_path (label_bytes w) ≡ true
  pub slash : get_or w 0 0 ≡ 47

no_fault : (a b : Bool) → first_fault (refuse_if a TooLong ∷ refuse_if (not b) BadPath ∷ []) ≡ None → b ≡ true
no_fault true b h = cc
no_fault false true h = refl
no_fault false false h = cc

pub good_path : (w : List ℕ) → path_fault w ≡ None → IsPathWord w
good_path w h = go (text_length w) refl h
  where
    by_slash : (t : Bool) → (get_or w 0 0 == 47) ≡ t → IsSome (text_length w) → is_path (label_bytes w) ≡ true → IsPathWord w
    by_slash true is some path = record { some = some; path = path; slash = eqb-true (get_or w 0 0) 47 is }
    by_slash false is some path =
        let other : is_path (label_bytes w) ≡ false = unrooted w some (eqb-false (get_or w 0 0) 47 is) in cc

    go : (o : Option ℕ) → text_length w ≡ o → option_map_or (λ n. first_fault (refuse_if (nat_lt 4095 n || has_long_piece (label_bytes w)) TooLong ∷ refuse_if (not (is_path (label_bytes w))) BadPath ∷ [])) o (Some BadLine) ≡ None → IsPathWord w
    go None is none = cc
    go (Some n) is none =
        by_slash (get_or w 0 0 == 47) refl (rw is refl) (no_fault (nat_lt 4095 n || has_long_piece (label_bytes w)) (is_path (label_bytes w)) none)

-- the names of a path that is a slash alone, and of one that goes on
pub no_names : (w : List ℕ) → path_fault w ≡ None → length w ≡ 1 → path_names w ≡ []
no_names w h one = let p = good_path w h in ap components (root_is w p.some p.slash one)

pub good_names : (w : List ℕ) → path_fault w ≡ None → (length w ≡ 1 → ⊥) → list_all is_name_word (pieces 47 (rest_of w)) ≡ true
good_names w h long =
    let p = good_path w h in
    let r = rooted_word w p.some p.slash long in
    name_words (pieces 47 (rest_of w)) (pieces 47 (r.first ∷ r.others)) (pieces_stand (rest_of w) (r.first ∷ r.others) r.stands) ∙ (sym (ap is_path r.label) ∙ p.path)

pub made_names : (w : List ℕ) → path_fault w ≡ None → (length w ≡ 1 → ⊥) → map label_bytes (pieces 47 (rest_of w)) ≡ path_names w
made_names w h long =
    let p = good_path w h in
    let r = rooted_word w p.some p.slash long in
    word_bytes (pieces 47 (rest_of w)) (pieces 47 (r.first ∷ r.others)) (pieces_stand (rest_of w) (r.first ∷ r.others) r.stands) ∙ ap components (sym r.label)

-- a text without an escape, and its pieces, stand for themselves
module _ (text : List ℕ) (bare : list_any (λ b. b == 92) text ≡ false) where
  pub bare_valid : list_all is_name_word (pieces 47 text) ≡ list_all is_name (pieces 47 text)
  bare_valid = name_words (pieces 47 text) (pieces 47 text) (pieces_stand text text (bare_unescaped text bare))

  pub bare_names : map label_bytes (pieces 47 text) ≡ pieces 47 text
  bare_names = word_bytes (pieces 47 text) (pieces 47 text) (pieces_stand text text (bare_unescaped text bare))
