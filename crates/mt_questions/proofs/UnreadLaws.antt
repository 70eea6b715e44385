-- Lines that tell no row, by their numbers.
use Rattle.std.proofs.Common.{◌≡◌, ◌∙◌, ℕ, suc, ◌+◌, ◌-◌, ◌<◌, List, ◌∷◌, Option, None, length, get_or, drop, ap, sym, arith}
use Rattle.std.proofs.Math.Seq.{drop-cons}
use Rattle.mt_import.specs.Reading.{ToldMount}
use Rattle.mt_reach.specs.declared.row.SeenRow.{SeenRow}
use Rattle.mt_questions.specs.Tables.{ToldTable}
use Rattle.mt_questions.specs.Seeing.{told_row, IsUnreadIn, IsUnreadAt}

-- the element at a place, which is counted from 1
counted : {X : Type 0} (xs : List X) (n i : ℕ) (x : X) → n ≡ i → i < length xs → x ≡ get_or xs i x → drop (n + 1 - 1) xs ≡ x ∷ drop (suc i) xs
counted xs n i x same within here =
    let less : n + 1 - 1 ≡ i = omega (arith, same) in
    ap (λ k. drop k xs) less ∙ drop-cons xs i x within ∙ ap (λ y. y ∷ drop (suc i) xs) (sym here)

pub unread_line : (n : ℕ) (lines : List ToldMount) (line i : ℕ) (t : ToldMount) (row : Option SeenRow) → line ≡ i → i < length lines → t ≡ get_or lines i t → row ≡ told_row n t → row ≡ None
    → IsUnreadIn n lines (line + 1)
unread_line n lines line i t row same within here is none =
    record { told = t; later = drop (suc i) lines; there = counted lines line i t same within here; no_row = sym is ∙ none }

pub unread_table : (tables : List ToldTable) (number i line : ℕ) (t : ToldTable) → number ≡ i → i < length tables → t ≡ get_or tables i t → IsUnreadIn (number + 1) t.rows line
    → IsUnreadAt tables (record { table = number + 1; line = line })
unread_table tables number i line t same within here unread =
    record { told = t; later = drop (suc i) tables; there = counted tables number i t same within here; line = unread }
