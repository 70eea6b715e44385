-- What is read of the result of a call.
use Rattle.std.proofs.Common.{◌≡◌, ℕ, ◌==◌, ◌&&◌, ◌||◌, nat_eq, not, cond, List, [], ◌∷◌, ◌++◌, length, drop, get_or, Bool, true, false, Option, Some, None, is_some, Result, Ok, Err, refl, sym, ap, subst, ◌∙◌, arith, codes, decimal, append_assoc}
use Rattle.std.specs.List.{list_all, onto_first}
use Rattle.std.proofs.lemmas.Bool.{and_parts, not-true, eqb-true, ne_eqb}
use Rattle.std.proofs.lemmas.List.{append-nil, drop_at}
use Rattle.mt_lines.specs.Words.{pieces, number_in_text}
use Rattle.mt_lines.proofs.NumberLaws.{number_decimal}
use Rattle.mt_strace.specs.declared.result.Behind.{Behind}
use Rattle.mt_strace.specs.declared.result.CallResult.{CallResult}
use Rattle.mt_strace.specs.declared.result.CallResult.TheVariants as outcome
use Rattle.mt_strace.specs.declared.unread.Unread.{Unread}
use Rattle.mt_strace.specs.declared.unread.Unread.TheVariants as unread
use Rattle.mt_strace.specs.Cuts.{until_byte, cut_at, stripped}
use Rattle.mt_strace.specs.Lines.{is_digit}
use Rattle.mt_strace.specs.Printed.{lacks, descriptor_path_text, deleted_text, result_text, IsPath, IsResult}
use Rattle.mt_strace.specs.Results.{is_address, is_note_closed, are_notes, path_and_notes, with_path, behind_value, returned_with, value_word, returned_behind, returned, failed_with, signed_or_returned, valued, result_of}
use Rattle.mt_strace.proofs.CutLaws.{cut_found}
use Rattle.mt_strace.proofs.DigitLaws.{digit_bounds, decimal_digits, digits_lack}

-- what stands before a byte goes on behind a word without it
pub first_onto : (b : ℕ) (ps : List (List ℕ)) → get_or (onto_first b ps) 0 [] ≡ b ∷ get_or ps 0 []
first_onto b [] = refl
first_onto b (piece ∷ pieces) = refl

until_front : (c : ℕ) (w rest : List ℕ) → lacks c w ≡ true → until_byte c (w ++ rest) ≡ w ++ until_byte c rest
until_front c [] rest h = refl
until_front c (b ∷ w) rest h =
    let parts = and_parts (not (b == c)) (lacks c w) h in
    ap (λ t. get_or (cond {A = List (List ℕ)} t ([] ∷ pieces c (w ++ rest)) (onto_first b (pieces c (w ++ rest)))) 0 []) (not-true (b == c) parts.0)
    ∙ first_onto b (pieces c (w ++ rest))
    ∙ ap (λ x. b ∷ x) (until_front c w rest parts.1)

value_front : (w rest : List ℕ) → list_all is_digit w ≡ true → value_word rest ≡ [] → value_word (w ++ rest) ≡ w
value_front w rest h none =
    ap (until_byte 60) (until_front 32 w rest (digits_lack 32 w refl h))
    ∙ until_front 60 w (until_byte 32 rest) (digits_lack 60 w refl h)
    ∙ ap (λ x. w ++ x) none
    ∙ append-nil w

-- notes are none, or begin with a space
notes_begin : (b : ℕ) (rest : List ℕ) → are_notes (b ∷ rest) ≡ true → b ≡ 32
notes_begin b rest h =
    let some : (length (b ∷ rest) == 0) ≡ false = ne_eqb (length (b ∷ rest)) 0 (λ e. omega arith) in
    let later : (nat_eq 32 b && true && is_note_closed (b ∷ rest)) ≡ true = ap (λ t. t || (nat_eq 32 b && true && is_note_closed (b ∷ rest))) (sym some) ∙ h in
    sym (eqb-true 32 b (and_parts (nat_eq 32 b) true (and_parts (nat_eq 32 b && true) (is_note_closed (b ∷ rest)) later).0).0)

by_notes : (P : List ℕ → Type 0) → P [] → ((rest : List ℕ) → P (32 ∷ rest)) → (notes : List ℕ) → are_notes notes ≡ true → P notes
by_notes P none some [] h = none
by_notes P none some (b ∷ rest) h = subst (λ x. P (x ∷ rest)) (sym (notes_begin b rest h)) (some rest)

abbrev behind_with : Option (List ℕ) → Bool → List ℕ → Behind
behind_with path is_deleted notes = record { path = path; is_deleted = is_deleted; notes = notes }

abbrev behind_text : Option (List ℕ) → Bool → List ℕ → List ℕ
behind_text path is_deleted notes = descriptor_path_text path is_deleted ++ notes

no_value : (path : Option (List ℕ)) (is_deleted : Bool) (notes : List ℕ) → are_notes notes ≡ true → value_word (behind_text path is_deleted notes) ≡ []
no_value None is_deleted notes h = by_notes (λ x. value_word x ≡ []) refl (λ rest. refl) notes h
no_value (Some path) is_deleted notes h = ap (until_byte 60) (first_onto 60 (pieces 32 ((path ++ 62 ∷ deleted_text is_deleted) ++ notes)))

undeleted : (notes : List ℕ) → are_notes notes ≡ true → stripped (codes "(deleted)") notes ≡ None
undeleted notes h = by_notes (λ x. stripped (codes "(deleted)") x ≡ None) refl (λ rest. refl) notes h

notes_read : (path : List ℕ) (is_deleted : Bool) (notes : List ℕ) → are_notes notes ≡ true
    → path_and_notes path (stripped (codes "(deleted)") (deleted_text is_deleted ++ notes)) (deleted_text is_deleted ++ notes) ≡ behind_with (Some path) is_deleted notes
notes_read path true notes h = refl
notes_read path false notes h = ap (λ o. path_and_notes path o notes) (undeleted notes h)

behind_read : (path : Option (List ℕ)) (is_deleted : Bool) (notes : List ℕ) → IsPath path is_deleted → are_notes notes ≡ true
    → behind_value (stripped (codes "<") (behind_text path is_deleted notes)) (behind_text path is_deleted notes) ≡ Some (behind_with path is_deleted notes)
behind_read None is_deleted notes path_is h =
    by_notes (λ x. behind_value (stripped (codes "<") x) x ≡ Some (behind_with None false x)) refl (λ rest. refl) notes h
    ∙ ap (λ t. Some (behind_with None t notes)) (sym path_is)
behind_read (Some path) is_deleted notes path_is h =
    ap with_path (ap (cut_at 62) (append_assoc path (62 ∷ deleted_text is_deleted) notes) ∙ cut_found 62 path (deleted_text is_deleted ++ notes) path_is.1)
    ∙ ap (λ x. Some x) (notes_read path is_deleted notes h)

returned_read : (w : List ℕ) (n : ℕ) (path : Option (List ℕ)) (is_deleted : Bool) (notes : List ℕ) → list_all is_digit w ≡ true → number_in_text w ≡ Some n
    → IsPath path is_deleted → are_notes notes ≡ true → returned (w ++ behind_text path is_deleted notes) ≡ Ok (outcome.Returned (Some n) path is_deleted notes)
returned_read w n path is_deleted notes digits says path_is h =
    let behind = behind_text path is_deleted notes in
    ap (λ v. returned_behind v (drop (length v) (w ++ behind))) (value_front w behind digits (no_value path is_deleted notes h))
    ∙ ap (returned_behind w) (drop_at w behind (length w) refl)
    ∙ ap (λ o. cond {A = Result CallResult Unread} (is_some o || is_address w) (returned_with o (behind_value (stripped (codes "<") behind) behind)) (Err unread.NotStrace)) says
    ∙ ap (returned_with (Some n)) (behind_read path is_deleted notes path_is h)
    ∙ ap (λ t. cond {A = Result CallResult Unread} t (Ok (outcome.Returned (Some n) path is_deleted notes)) (Err unread.Cut)) h

-- digits are no question mark and no sign
digits_valued : (w rest : List ℕ) (n : ℕ) → list_all is_digit w ≡ true → number_in_text w ≡ Some n → valued (stripped (codes "?") (w ++ rest)) (w ++ rest) ≡ returned (w ++ rest)
unfolding number_in_text
digits_valued [] rest n h says = cc
digits_valued (b ∷ w) rest n h says =
    let range = digit_bounds b (and_parts (is_digit b) (list_all is_digit w) h).0 in
    let text = (b ∷ w) ++ rest in
    let no_mark : (nat_eq 63 b && true) ≡ false = ap (λ t. t && true) (ne_eqb 63 b (λ e. omega (arith, range.high))) in
    let some : (length text == 0) ≡ false = ne_eqb (length text) 0 (λ e. omega arith) in
    let no_sign : (nat_eq 45 b && true) ≡ false = ap (λ t. t && true) (ne_eqb 45 b (λ e. omega (arith, range.low))) in
    ap (λ t. valued (cond {A = Option (List ℕ)} t (Some (drop 1 text)) None) text) no_mark
    ∙ ap (λ t. cond {A = Result CallResult Unread} t (Err unread.Cut) (signed_or_returned (stripped (codes "-") text) text)) some
    ∙ ap (λ t. signed_or_returned (cond {A = Option (List ℕ)} t (Some (drop 1 text)) None) text) no_sign

failed_read : (error notes : List ℕ) → is_note_closed notes ≡ true → error ≡ until_byte 32 notes → valued (stripped (codes "?") (codes "-1 " ++ notes)) (codes "-1 " ++ notes) ≡ Ok (outcome.Failed error notes)
unfolding number_in_text
failed_read error notes closed named =
    let text = codes "-1 " ++ notes in
    ap (λ t. cond {A = Result CallResult Unread} t (Err unread.Cut) (signed_or_returned (stripped (codes "-") text) text)) (ne_eqb (length text) 0 (λ e. omega arith))
    ∙ ap failed_with (cut_found 32 (49 ∷ []) notes refl)
    ∙ ap (λ t. cond {A = Result CallResult Unread} t (Ok (outcome.Failed (until_byte 32 notes) notes)) (Err unread.Cut)) closed
    ∙ ap (λ x. Ok (outcome.Failed x notes)) (sym named)

-- a result is read as this
pub result_read : (r : CallResult) → IsResult r → result_of (32 ∷ 61 ∷ 32 ∷ result_text r) ≡ Ok r
result_read (outcome.Returned None path is_deleted notes) h = absurd h
result_read (outcome.Returned (Some n) path is_deleted notes) h =
    let digits = decimal_digits n h.0 in
    let says = number_decimal n h.0 in
    digits_valued (decimal n) (behind_text path is_deleted notes) n digits says ∙ returned_read (decimal n) n path is_deleted notes digits says h.1 h.2
result_read (outcome.Failed error notes) h = failed_read error notes h.0 h.1
result_read outcome.Unknown h = refl
