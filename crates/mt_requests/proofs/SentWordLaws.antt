-- Labels, paths and numbers as they stand in a line are read as what they are.
use Rattle.std.proofs.Common.{◌≡◌, ◌≢◌, ℕ, ◌<◌, ◌≤◌, ◌^◌, ◌==◌, ◌&&◌, ◌||◌, not, nat_eq, nat_lt, nat_le, cond, if◌then◌else◌, Bool, true, false, List, [], ◌∷◌, ◌++◌, length, drop, codes, decimal, Option, Some, None, is_some, unwrap_or, refl, sym, ap, ◌∙◌, arith}
use Rattle.std.proofs.Math.Dec.{eqb-suc-zero}
use Rattle.std.proofs.lemmas.Bool.{and_parts}
use Rattle.std.proofs.lemmas.Bool.Decides.{nat_tests}
use Rattle.std.proofs.lemmas.List.Folds.{list_all-append}
use Rattle.std.specs.Option.{option_map, option_map_or}
use Rattle.std.specs.List.{list_all, list_any, starts_with}
use Rattle.std.specs.Str.{bytes_eq}
use Rattle.mt_skel.specs.declared.fault.Fault.TheVariants.{BadLine, TooLong, BadPath}
use Rattle.mt_skel.specs.Outcome.{refuse_if, first_fault}
use Rattle.mt_skel.specs.Names.{is_label, is_name, names_text, names_in}
use Rattle.mt_skel.specs.Escapes.{unescaped}
use Rattle.mt_skel.proofs.MiddleLaws.{and-true, and_first, and_second}
use Rattle.mt_skel.proofs.NamesLaws.{names_of_text}
use Rattle.mt_lines.specs.Words.{pieces, number_in_text}
use Rattle.mt_lines.proofs.PieceLaws.{lacks_byte}
use Rattle.mt_lines.proofs.NumberLaws.{number_decimal}
use Rattle.mt_requests.specs.Requests.{text_length, label_fault, label_bytes, components, is_path, has_long_piece, path_fault, path_names, bad_unless, number_said}
use Rattle.mt_requests.specs.Printed.{sent, bytes_of_path, sent_path}
use Rattle.mt_requests.proofs.TextLaws.{length_same}
use Rattle.mt_requests.proofs.SentLaws.{unescaped-sent, sent-lacks-zero}

no_zero : (bytes : List ℕ) → lacks_byte 0 bytes ≡ true → list_any (λ b. b == 0) bytes ≡ false
no_zero [] h = refl
no_zero (b ∷ bytes) h = grind (arith, nat_tests, no_zero bytes)

-- bytes that are there and have no zero
pub sent_length : (bytes : List ℕ) → nat_eq (length bytes) 0 ≡ false → lacks_byte 0 bytes ≡ true → text_length (sent bytes) ≡ Some (length bytes)
sent_length bytes some nonzero =
    let u = unescaped-sent bytes in
    let full : nat_eq (length (sent bytes)) 0 ≡ false = length_same (sent bytes) bytes u ∙ some in
    let none : list_any (λ b. b == 0) (sent bytes) ≡ false = no_zero (sent bytes) (sent-lacks-zero bytes nonzero) in
    λ i. if full i || none i then None else option_map (λ b. length b) (u i)

pub bytes_back : (bytes : List ℕ) → label_bytes (sent bytes) ≡ bytes
bytes_back bytes = ap (λ o. unwrap_or o []) (unescaped-sent bytes)

-- labels
pub record IsLabelled (l : List ℕ) : Type 0 where
  pub some : nat_eq (length l) 0 ≡ false
  pub short : nat_lt 255 (length l) ≡ false
  pub nonzero : lacks_byte 0 l ≡ true

pub labelled : (l : List ℕ) → is_label l ≡ true → IsLabelled l
labelled l h =
    let parts = and_parts (nat_le 1 (length l) && nat_le (length l) 255) (lacks_byte 0 l) h in
    let both = and_parts (nat_le 1 (length l)) (nat_le (length l) 255) parts.0 in
    let low = both.0 in
    let high = both.1 in
    record { some = grind (arith, nat_tests, low); short = grind (arith, nat_tests, high); nonzero = parts.1 }

pub label_fine : (l : List ℕ) → is_label l ≡ true → label_fault (sent l) ≡ None
label_fine l h =
    let p = labelled l h in
    ap (λ o. option_map_or (λ n. refuse_if (nat_lt 255 n) TooLong) o (Some BadLine)) (sent_length l p.some p.nonzero) ∙ ap (λ b. refuse_if b TooLong) p.short

-- paths
pub record IsGoodPath (names : List (List ℕ)) : Type 0 where
  pub names_are : list_all is_name names ≡ true
  pub short : nat_lt 4095 (length (bytes_of_path names)) ≡ false

-- a path that has a name is its names, each preceded by a slash
pub named_bytes : (n : List ℕ) (names : List (List ℕ)) → bytes_of_path (n ∷ names) ≡ names_text (n ∷ names)
named_bytes n names = ap (λ root. cond {A = List ℕ} root (codes "/") (names_text (n ∷ names))) (eqb-suc-zero (length names))

-- and is not empty
named_full : (n : List ℕ) (names : List (List ℕ)) → nat_eq (length (names_text (n ∷ names))) 0 ≡ false
named_full n names = eqb-suc-zero (length (n ++ names_text names))

name_label : (n : List ℕ) → is_name n ≡ true → is_label n ≡ true
name_label n h =
    and_first (is_label n) _ (and_first (is_label n && list_all (λ b. not (b == 47)) n) _ (and_first (is_label n && list_all (λ b. not (b == 47)) n && not (bytes_eq n (codes "."))) _ h))

text_nonzero : (names : List (List ℕ)) → list_all is_name names ≡ true → lacks_byte 0 (names_text names) ≡ true
text_nonzero [] h = refl
text_nonzero (n ∷ names) h =
    let label = name_label n (and_first (is_name n) (list_all is_name names) h) in
    list_all-append (λ b. not (b == 0)) n (names_text names)
    ∙ and-true (lacks_byte 0 n) (lacks_byte 0 (names_text names)) (labelled n label).nonzero (text_nonzero names (and_second (is_name n) (list_all is_name names) h))

path_nonzero : (names : List (List ℕ)) → list_all is_name names ≡ true → lacks_byte 0 (bytes_of_path names) ≡ true
path_nonzero [] h = refl
path_nonzero (n ∷ names) h = ap (lacks_byte 0) (named_bytes n names) ∙ text_nonzero (n ∷ names) h

path_full : (names : List (List ℕ)) → nat_eq (length (bytes_of_path names)) 0 ≡ false
path_full [] = refl
path_full (n ∷ names) = ap (λ bytes. nat_eq (length bytes) 0) (named_bytes n names) ∙ named_full n names

-- the text of a path that has a name is more than a slash
not_slash : (n : List ℕ) (rest : List ℕ) → nat_eq (length n) 0 ≡ false → bytes_eq (47 ∷ (n ++ rest)) (codes "/") ≡ false
not_slash [] rest some = cc
not_slash (b ∷ n) rest some = refl

-- the pieces behind the first slash
behind_slash : (text : List ℕ) → drop 1 (pieces 47 (47 ∷ text)) ≡ pieces 47 text
behind_slash text = refl

pub components_back : (names : List (List ℕ)) → list_all is_name names ≡ true → components (bytes_of_path names) ≡ names
components_back [] h = refl
components_back (n ∷ names) h =
    let label = labelled n (name_label n (and_first (is_name n) (list_all is_name names) h)) in
    ap components (named_bytes n names)
    ∙ ap (λ b. cond {A = List (List ℕ)} b [] (drop 1 (pieces 47 (names_text (n ∷ names))))) (not_slash n (names_text names) label.some)
    ∙ behind_slash (n ++ names_text names) ∙ names_of_text (n ∷ names) h

short_names : (names : List (List ℕ)) → list_all is_name names ≡ true → list_any (λ piece. nat_lt 255 (length piece)) names ≡ false
short_names [] h = refl
short_names (n ∷ names) h =
    let short = (labelled n (name_label n (and_first (is_name n) (list_all is_name names) h))).short in
    let others = short_names names (and_second (is_name n) (list_all is_name names) h) in
    λ i. short i || others i

no_long : (names : List (List ℕ)) → list_all is_name names ≡ true → has_long_piece (bytes_of_path names) ≡ false
no_long [] h = refl
no_long (n ∷ names) h =
    ap has_long_piece (named_bytes n names)
    ∙ ap (λ ps. list_any (λ piece. nat_lt 255 (length piece)) ([] ∷ ps)) (names_of_text (n ∷ names) h) ∙ short_names (n ∷ names) h

begins_with_slash : (names : List (List ℕ)) → starts_with nat_eq (bytes_of_path names) (codes "/") ≡ true
begins_with_slash [] = refl
begins_with_slash (n ∷ names) = ap (λ bytes. starts_with nat_eq bytes (codes "/")) (named_bytes n names)

is_path_back : (names : List (List ℕ)) → list_all is_name names ≡ true → is_path (bytes_of_path names) ≡ true
is_path_back names h =
    and-true (starts_with nat_eq (bytes_of_path names) (codes "/")) (list_all is_name (components (bytes_of_path names))) (begins_with_slash names) (ap (list_all is_name) (components_back names h) ∙ h)

pub path_fine : (names : List (List ℕ)) → IsGoodPath names → path_fault (sent_path names) ≡ None
path_fine names p =
    let bytes : List ℕ = bytes_of_path names in
    let long = no_long names p.names_are in
    let path = is_path_back names p.names_are in
    ap (λ o. option_map_or (λ n. first_fault (refuse_if (nat_lt 4095 n || has_long_piece (label_bytes (sent bytes))) TooLong ∷ refuse_if (not (is_path (label_bytes (sent bytes)))) BadPath ∷ [])) o (Some BadLine))
    (sent_length bytes (path_full names) (path_nonzero names p.names_are))
    ∙ ap (λ x. first_fault (refuse_if (nat_lt 4095 (length bytes) || has_long_piece x) TooLong ∷ refuse_if (not (is_path x)) BadPath ∷ [])) (bytes_back bytes)
    ∙ (λ i. first_fault (refuse_if (p.short i || long i) TooLong ∷ refuse_if (not (path i)) BadPath ∷ []))

pub path_back : (names : List (List ℕ)) → IsGoodPath names → path_names (sent_path names) ≡ names
path_back names p = ap components (bytes_back (bytes_of_path names)) ∙ components_back names p.names_are

-- the text of names is the path, where there are some
pub path_lies : (names : List (List ℕ)) → (length (names_text names) == 0) ≡ false → names_text names ≡ bytes_of_path names
path_lies [] h = let f : true ≡ false = h in cc
path_lies (n ∷ names) h = sym (named_bytes n names)

pub root_lies : (names : List (List ℕ)) → (length (names_text names) == 0) ≡ true → codes "/" ≡ sent_path names
root_lies [] h = refl
root_lies (n ∷ names) h = let f : false ≡ true = sym (named_full n names) ∙ h in cc

-- numbers
pub number_fine : (n : ℕ) → n < 2 ^ 64 → bad_unless (is_some (number_in_text (decimal n))) ≡ None
number_fine n lt = ap (λ o. bad_unless (is_some o)) (number_decimal n lt)

pub number_back : (n : ℕ) → n < 2 ^ 64 → number_said (decimal n) ≡ n
number_back n lt = ap (λ o. unwrap_or o 0) (number_decimal n lt)
