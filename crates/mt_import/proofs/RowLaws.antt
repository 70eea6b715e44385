-- The line of a row is read as what the row tells.
use Rattle.std.proofs.Common.{◌≡◌, ℕ, ◌+◌, ◌<◌, ◌^◌, ◌%◌, ◌==◌, Bool, true, false, not, List, [], ◌∷◌, ◌++◌, Option, Some, None, is_some, codes, decimal, refl, ap, ◌∙◌, arith}
use Rattle.std.specs.Option.{ForSome}
use Rattle.std.proofs.lemmas.Bool.{ne_eqb}
use Rattle.std.proofs.lemmas.Fmt.{decimal_by_steps}
use Rattle.std.proofs.lemmas.List.Folds.{list_all-append}
use Rattle.mt_skel.specs.Escapes.{escaped}
use Rattle.mt_lines.specs.Words.{words, number_in_text}
use Rattle.mt_lines.proofs.NumberLaws.{number_decimal}
use Rattle.mt_lines.proofs.PieceLaws.{lacks_byte, pieces_joined}
use Rattle.mt_info.specs.declared.row.Row.{Row}
use Rattle.mt_info.specs.Laws.{IsRow}
use Rattle.mt_info.specs.RowLine.{line, line_words, tag, tags, word_if}
use Rattle.mt_info.proofs.RowLineLaws.{words-lack, regroup, tail}
use Rattle.mt_import.specs.declared.read.Fields.{Fields}
use Rattle.mt_import.specs.Reading.{mount_in, mount_of_words, mount_with, fields_in, is_device, are_numbers, no_fields}
use Rattle.mt_import.specs.RowReading.{RowsAreTold}

-- the words of a line are those it was joined of
words_of_line : (r : Row) → IsRow r → words (line r) ≡ line_words r
words_of_line r h = pieces_joined 32 (decimal r.id) _ (words-lack r h)

-- an optional field that stands first is read, and the words after it are left
shared_taken : (m v : Option ℕ) (u : Bool) (o : Option ℕ) (rest : List (List ℕ)) → ForSome o (λ g. g < 2 ^ 64)
    → fields_in (record { shared = None; master = m; via = v; unbindable = u }) (tag (codes "shared:") o ++ rest) ≡ fields_in (record { shared = o; master = m; via = v; unbindable = u }) rest
shared_taken m v u None rest fits = refl
shared_taken m v u (Some g) rest fits = rw (number_decimal g (fits g refl)) refl

master_taken : (s v : Option ℕ) (u : Bool) (o : Option ℕ) (rest : List (List ℕ)) → ForSome o (λ g. g < 2 ^ 64)
    → fields_in (record { shared = s; master = None; via = v; unbindable = u }) (tag (codes "master:") o ++ rest) ≡ fields_in (record { shared = s; master = o; via = v; unbindable = u }) rest
master_taken s v u None rest fits = refl
master_taken s v u (Some g) rest fits = rw (number_decimal g (fits g refl)) refl

via_taken : (s m : Option ℕ) (u : Bool) (o : Option ℕ) (rest : List (List ℕ)) → ForSome o (λ g. g < 2 ^ 64)
    → fields_in (record { shared = s; master = m; via = None; unbindable = u }) (tag (codes "propagate_from:") o ++ rest) ≡ fields_in (record { shared = s; master = m; via = o; unbindable = u }) rest
via_taken s m u None rest fits = refl
via_taken s m u (Some g) rest fits = rw (number_decimal g (fits g refl)) refl

unbindable_taken : (s m v : Option ℕ) (b : Bool) (rest : List (List ℕ))
    → fields_in (record { shared = s; master = m; via = v; unbindable = false }) (word_if b (codes "unbindable") ++ rest) ≡ fields_in (record { shared = s; master = m; via = v; unbindable = b }) rest
unbindable_taken s m v true rest = refl
unbindable_taken s m v false rest = refl

-- the optional fields of a line are those of the row
fields_told : (r : Row) → IsRow r → fields_in no_fields (tags r ++ tail r)
    ≡ Some (record { shared = r.shared; master = r.master; via = r.via; unbindable = r.unbindable }, escaped r.kind ∷ escaped r.source ∷ codes "rw" ∷ [])
fields_told r h =
    ap (fields_in no_fields) (regroup r)
    ∙ shared_taken None None false r.shared _ h.shared
    ∙ master_taken r.shared None false r.master _ h.master
    ∙ via_taken r.shared r.master false r.via _ h.via
    ∙ unbindable_taken r.shared r.master r.via r.unbindable (tail r)

-- a number has no colon
decimal_lacks_colon : (n : ℕ) → n < 2 ^ 64 → lacks_byte 58 (decimal n) ≡ true
decimal_lacks_colon =
    decimal_by_steps (λ m ds. lacks_byte 58 ds ≡ true)
    (λ m l. rw (ne_eqb (48 + m) 58 (λ e. omega arith)) refl)
    (λ m ds l h. list_all-append (λ b. not (b == 58)) ds ((48 + m % 10) ∷ []) ∙ rw (h, ne_eqb (48 + m % 10) 58 (λ e. omega arith)) refl)

-- the device of a row is one
device_told : (n : ℕ) → n < 2 ^ 64 → is_device (codes "0:" ++ decimal n) ≡ true
unfolding number_in_text
device_told n fits =
    ap (λ ps. are_numbers ((48 ∷ []) ∷ ps)) (pieces_joined 58 (decimal n) [] (rw (decimal_lacks_colon n fits) refl)) ∙ ap is_some (number_decimal n fits)

-- a line of which the numbers and the optional fields are read
mount_told : (text id parent device root point options : List ℕ) (rest : List (List ℕ)) (i p : ℕ) (found : Fields × List (List ℕ)) → number_in_text id ≡ Some i → number_in_text parent ≡ Some p
    → fields_in no_fields rest ≡ Some found → is_device device ≡ true
    → mount_of_words text (id ∷ parent ∷ device ∷ root ∷ point ∷ options ∷ rest) ≡ mount_with text i p device root point options found
mount_told text id parent device root point options rest i p found number above fields is = rw (number, above, fields, is) refl

-- the line of a row is read as that row
pub rows_told : RowsAreTold
unfolding mount_in
rows_told r h =
    ap (mount_of_words (line r)) (words_of_line r h)
    ∙ mount_told _ _ _ _ _ _ _ (tags r ++ tail r) _ _ _ (number_decimal r.id h.id) (number_decimal r.parent h.parent) (fields_told r h) (device_told r.minor h.minor)
