-- What is read of the arguments of a call.
use Rattle.std.proofs.Common.{◌≡◌, ℕ, suc, ◌==◌, ◌&&◌, ◌||◌, not, cond, map, fold, List, [], ◌∷◌, ◌++◌, length, get_or, Bool, true, false, Some, refl, sym, ap, subst, ◌∙◌, arith, append_assoc, eq-eqb}
use Rattle.std.specs.List.{list_all, onto_first}
use Rattle.std.proofs.lemmas.Bool.{and_parts, and_from, and_left, and_right, not-true, eqb-true, ne_eqb}
use Rattle.std.proofs.lemmas.List.{append-nil}
use Rattle.mt_strace.specs.declared.scan.Scan.{Scan}
use Rattle.mt_strace.specs.declared.scan.Within.{Within}
use Rattle.mt_strace.specs.declared.scan.Within.TheVariants as within
use Rattle.mt_strace.specs.Arguments.{arguments_left, arguments_of}
use Rattle.mt_strace.specs.Cuts.{without_spaces}
use Rattle.mt_strace.specs.Outside.{scan_start, scan_after, after_in, is_loose, is_outside, pieces_from, until_outside, cut_outside}
use Rattle.mt_strace.specs.Printed.{arguments_text, passes, is_argument}
use Rattle.mt_strace.proofs.CutLaws.{cut_front}
use Rattle.mt_strace.proofs.OutsideLaws.{onto_all, onto_nothing}

-- the scan of an argument ends outside
ends_outside : (s : Scan) (a : List ℕ) → passes s a ≡ true → is_outside (fold scan_after s a) ≡ true
ends_outside s [] h = h
ends_outside s (b ∷ a) h = ends_outside (scan_after s b) a (and_parts (not (is_outside s && (b == 44 || b == 41))) (passes (scan_after s b) a) h).1

-- no byte of it cuts it
not_cut : (c b : ℕ) (t : Bool) → (c == 44 || c == 41) ≡ true → not (t && (b == 44 || b == 41)) ≡ true → (b == c && t) ≡ false
not_cut c b false cuts h = and_right (b == c) false refl
not_cut c b true cuts h =
    and_left (b == c) true (ne_eqb b c (λ e.
    let turned : not (c == 44 || c == 41) ≡ true = subst (λ x. not (x == 44 || x == 41) ≡ true) e h in
    let both : not true ≡ true = ap not (sym cuts) ∙ turned in cc))

first_of_all : (b : ℕ) (a : List ℕ) (ps : List (List ℕ)) → onto_first b (onto_all a ps) ≡ onto_all (b ∷ a) ps
first_of_all b a [] = refl
first_of_all b a (piece ∷ pieces) = refl

argument_passed : (c : ℕ) → (c == 44 || c == 41) ≡ true → (s : Scan) (a rest : List ℕ) → passes s a ≡ true
    → pieces_from c s (a ++ rest) ≡ onto_all a (pieces_from c (fold scan_after s a) rest)
argument_passed c cuts s [] rest h = sym (onto_nothing c s rest)
argument_passed c cuts s (b ∷ a) rest h =
    let parts = and_parts (not (is_outside s && (b == 44 || b == 41))) (passes (scan_after s b) a) h in
    ap (λ t. cond {A = List (List ℕ)} t ([] ∷ pieces_from c scan_start (a ++ rest)) (onto_first b (pieces_from c (scan_after s b) (a ++ rest)))) (not_cut c b (is_outside s) cuts parts.0)
    ∙ ap (onto_first b) (argument_passed c cuts (scan_after s b) a rest parts.1)
    ∙ first_of_all b a (pieces_from c (fold scan_after (scan_after s b) a) rest)

-- the byte behind it does
cut_after : (c : ℕ) (s : Scan) (a rest : List ℕ) → is_outside s ≡ true → onto_all a (pieces_from c s (c ∷ rest)) ≡ a ∷ pieces_from c scan_start rest
cut_after c s a rest h =
    ap (λ t. onto_all a (cond {A = List (List ℕ)} t ([] ∷ pieces_from c scan_start rest) (onto_first c (pieces_from c (scan_after s c) rest)))) (and_from (c == c) (is_outside s) (eq-eqb c c refl) h)
    ∙ ap (λ p. p ∷ pieces_from c scan_start rest) (append-nil a)

-- after a comma and a space a scan is as at the start
comma_space_in : (w : Within) (d : ℕ) → (is_loose w && d == 0) ≡ true → scan_after (after_in w d 44) 32 ≡ scan_start
comma_space_in within.Brackets d h = ap (λ k. record { within = within.Brackets; depth = k }) (eqb-true d 0 h)
comma_space_in within.Slash d h = ap (λ k. record { within = within.Brackets; depth = k }) (eqb-true d 0 h)
comma_space_in within.Comment d h = cc
comma_space_in within.Asterisk d h = cc
comma_space_in within.String d h = cc
comma_space_in within.Backslash d h = cc
comma_space_in within.Path d h = cc

argument_scan : (a : List ℕ) → is_argument a ≡ true → passes scan_start a ≡ true
argument_scan [] h = cc
argument_scan (b ∷ a) h = (and_parts (not (b == 32)) (passes scan_start (b ∷ a)) h).1

-- the bracket that closes the arguments is found
joined_closed : (arguments : List (List ℕ)) (rest : List ℕ) → list_all is_argument arguments ≡ true
    → pieces_from 41 scan_start (arguments_text arguments ++ 41 ∷ rest) ≡ arguments_text arguments ∷ pieces_from 41 scan_start rest
joined_closed [] rest h = refl
joined_closed (a ∷ []) rest h =
    let scanned = argument_scan a (and_parts (is_argument a) true h).0 in
    argument_passed 41 refl scan_start a (41 ∷ rest) scanned ∙ cut_after 41 (fold scan_after scan_start a) a rest (ends_outside scan_start a scanned)
joined_closed (a ∷ n ∷ more) rest h =
    let parts = and_parts (is_argument a) (list_all is_argument (n ∷ more)) h in
    let scanned = argument_scan a parts.0 in
    let s = fold scan_after scan_start a in
    let text = arguments_text (n ∷ more) in
    ap (pieces_from 41 scan_start) (append_assoc a (44 ∷ 32 ∷ text) (41 ∷ rest))
    ∙ argument_passed 41 refl scan_start a (44 ∷ 32 ∷ (text ++ 41 ∷ rest)) scanned
    ∙ ap (λ x. onto_all a (onto_first 44 (onto_first 32 (pieces_from 41 x (text ++ 41 ∷ rest))))) (comma_space_in s.within s.depth (ends_outside scan_start a scanned))
    ∙ ap (λ ps. onto_all a (onto_first 44 (onto_first 32 ps))) (joined_closed (n ∷ more) rest parts.1)

pub closed_read : (arguments : List (List ℕ)) (rest : List ℕ) → list_all is_argument arguments ≡ true → cut_outside 41 (arguments_text arguments ++ 41 ∷ rest) ≡ Some (arguments_text arguments, rest)
closed_read arguments rest h =
    let text = arguments_text arguments ++ 41 ∷ rest in
    cut_front text (arguments_text arguments) rest (until_outside 41 text) 41 (ap (λ ps. get_or ps 0 []) (joined_closed arguments rest h)) refl

-- an argument has no space in front, and one that stands behind a comma has one
bare_front : (a : List ℕ) → is_argument a ≡ true → without_spaces a ≡ a
bare_front [] h = cc
bare_front (b ∷ a) h =
    ap (λ t. cond {A = List ℕ} t (without_spaces a) (b ∷ a)) (not-true (b == 32) (and_parts (not (b == 32)) (passes scan_start (b ∷ a)) h).0)

spaced : (c : ℕ) (s : Scan) (text : List ℕ) → map without_spaces (onto_first 32 (pieces_from c s text)) ≡ map without_spaces (pieces_from c s text)
spaced c s [] = refl
spaced c s (b ∷ text) = go (b == c && is_outside s) (pieces_from c (scan_after s b) text)
  where
    go : (t : Bool) (later : List (List ℕ))
        → map without_spaces (onto_first 32 (cond {A = List (List ℕ)} t ([] ∷ pieces_from c scan_start text) (onto_first b later)))
        ≡ map without_spaces (cond {A = List (List ℕ)} t ([] ∷ pieces_from c scan_start text) (onto_first b later))
    go true later = refl
    go false [] = refl
    go false (piece ∷ pieces) = refl

joined_parted : (a : List ℕ) (more : List (List ℕ)) → list_all is_argument (a ∷ more) ≡ true → map without_spaces (pieces_from 44 scan_start (arguments_text (a ∷ more))) ≡ a ∷ more
joined_parted a [] h =
    let one = (and_parts (is_argument a) true h).0 in
    ap (λ x. map without_spaces (pieces_from 44 scan_start x)) (sym (append-nil a))
    ∙ ap (map without_spaces) (argument_passed 44 refl scan_start a [] (argument_scan a one))
    ∙ ap (λ x. without_spaces x ∷ []) (append-nil a)
    ∙ ap (λ x. x ∷ []) (bare_front a one)
joined_parted a (n ∷ more) h =
    let parts = and_parts (is_argument a) (list_all is_argument (n ∷ more)) h in
    let scanned = argument_scan a parts.0 in
    let text = arguments_text (n ∷ more) in
    ap (map without_spaces) (argument_passed 44 refl scan_start a (44 ∷ 32 ∷ text) scanned ∙ cut_after 44 (fold scan_after scan_start a) a (32 ∷ text) (ends_outside scan_start a scanned))
    ∙ ap (λ x. x ∷ map without_spaces (pieces_from 44 scan_start (32 ∷ text))) (bare_front a parts.0)
    ∙ ap (λ xs. a ∷ xs) (spaced 44 scan_start text ∙ joined_parted n more parts.1)

not_blank : (b : ℕ) (rest : List ℕ) → not (b == 32) ≡ true → (length (without_spaces (b ∷ rest)) == 0) ≡ false
not_blank b rest h =
    ap (λ t. length (cond {A = List ℕ} t (without_spaces rest) (b ∷ rest)) == 0) (not-true (b == 32) h) ∙ ne_eqb (suc (length rest)) 0 (λ e. omega arith)

-- joined arguments are read as these
pub arguments_read : (arguments : List (List ℕ)) → list_all is_argument arguments ≡ true → arguments_of (arguments_text arguments) ≡ arguments
arguments_read [] h = refl
arguments_read ([] ∷ more) h = cc
arguments_read ((b ∷ a) ∷ []) h =
    let first = (and_parts (not (b == 32)) (passes scan_start (b ∷ a)) (and_parts (is_argument (b ∷ a)) true h).0).0 in
    ap (λ t. cond {A = List (List ℕ)} t [] (arguments_left (Some (b ∷ a)))) (not_blank b a first) ∙ joined_parted (b ∷ a) [] h
arguments_read ((b ∷ a) ∷ n ∷ more) h =
    let first = (and_parts (not (b == 32)) (passes scan_start (b ∷ a)) (and_parts (is_argument (b ∷ a)) (list_all is_argument (n ∷ more)) h).0).0 in
    let rest = a ++ 44 ∷ 32 ∷ arguments_text (n ∷ more) in
    ap (λ t. cond {A = List (List ℕ)} t [] (arguments_left (Some (b ∷ rest)))) (not_blank b rest first) ∙ joined_parted (b ∷ a) (n ∷ more) h
