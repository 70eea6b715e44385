-- Rows of which one gets another number, or none.
use Rattle.std.proofs.Common.{◌≡◌, ℕ, Bool, true, false, cond, not, eqb, eq-eqb, List, [], ◌∷◌, Option, Some, None, refl, sym, ap, ◌∙◌, inl, inr, arith}
use Rattle.std.specs.Option.{option_map, option_eq}
use Rattle.std.proofs.lemmas.Bool.{cases_eq, ne_eqb, false≢true}
use Rattle.std.proofs.lemmas.Bool.Decides.{nat_tests}
use Rattle.mt_skel.specs.Keyed.{row_at, put, rises}
use Rattle.mt_skel.proofs.KeyedLaws.{row_at-put, row_at-key, rises-put, rises-filter, same_rows}
use Rattle.mt_lists.specs.Lists.{ListRow, listed_id, listed_number, without_row, with_number}
use Rattle.mt_lists.proofs.IdLaws.{row-without}

-- an ID that is not there is not taken away
pub without-absent : (id : ℕ) (rows : List ListRow) → row_at listed_id id rows ≡ None → without_row id rows ≡ rows
without-absent id [] n = refl
without-absent id (r ∷ rs) n =
    let ih = without-absent id rs in
    grind (arith, nat_tests)

-- the row of an ID once it has this number, or none
pub row-with : (i q : ℕ) (o : Option ℕ) (rows : List ListRow) → rises listed_id rows ≡ true → row_at listed_id q (with_number i o rows) ≡ cond (eqb q i) (option_map (λ n. record { id = i; number = n }) o) (row_at listed_id q rows)
row-with i q None rows h = row-without i q rows h ∙ ap (λ b. cond b None (row_at listed_id q rows)) (turned i q)
  where
    turned : (a b : ℕ) → eqb a b ≡ eqb b a
    turned a b = grind (arith, nat_tests)
row-with i q (Some n) rows h = row_at-put listed_id q (record { id = i; number = n }) rows

pub rises-with : (i : ℕ) (o : Option ℕ) (rows : List ListRow) → rises listed_id rows ≡ true → rises listed_id (with_number i o rows) ≡ true
rises-with i None rows h = rises-filter listed_id (λ (r : ListRow). not (eqb i r.id)) rows h
rises-with i (Some n) rows h = rises-put listed_id (record { id = i; number = n }) rows h

-- an ID without a number has no row
pub row-unnumbered : (i : ℕ) (rows : List ListRow) → listed_number rows i ≡ None → row_at listed_id i rows ≡ None
row-unnumbered i rows e = go (row_at listed_id i rows) e
  where
    go : (o : Option ListRow) → option_map (λ (r : ListRow). r.number) o ≡ None → o ≡ None
    go None e = refl
    go (Some r) e = absurd (cc)

-- a row that was taken away
pub number-taken : (i : ℕ) (rows : List ListRow) → rises listed_id rows ≡ true → listed_number (without_row i rows) i ≡ None
number-taken i rows h = ap (option_map (λ (r : ListRow). r.number)) (row-without i i rows h ∙ ap (λ b. cond b None (row_at listed_id i rows)) (eq-eqb i i refl))

-- a row that is taken away before it is put
pub put-taken : (i n : ℕ) (rows : List ListRow) → rises listed_id rows ≡ true → put listed_id (record { id = i; number = n }) (without_row i rows) ≡ with_number i (Some n) rows
put-taken i n rows h =
    same_rows listed_id (put listed_id (record { id = i; number = n }) (without_row i rows)) (with_number i (Some n) rows)
    (rises-put listed_id (record { id = i; number = n }) (without_row i rows) (rises-filter listed_id (λ (r : ListRow). not (eqb i r.id)) rows h))
    (rises-with i (Some n) rows h)
    (λ q. row_at-put listed_id q (record { id = i; number = n }) (without_row i rows)
    ∙ ap (cond (eqb q i) (Some (record { id = i; number = n }))) (row-without i q rows h)
    ∙ go q (row_at listed_id q rows) ∙ sym (row-with i q (Some n) rows h))
  where
    go : (q : ℕ) (o : Option ListRow) → cond (eqb q i) (Some (record { id = i; number = n })) (cond (eqb i q) None o) ≡ cond (eqb q i) (Some (record { id = i; number = n })) o
    go q o = grind (arith, nat_tests)

-- a number that an ID has already
pub with-same : (i : ℕ) (o : Option ℕ) (rows : List ListRow) → rises listed_id rows ≡ true → listed_number rows i ≡ o → rows ≡ with_number i o rows
with-same i o rows h e =
    same_rows listed_id rows (with_number i o rows) h (rises-with i o rows h) (λ q. go q (row_at listed_id q rows) refl (row_at-key listed_id q rows) ∙ sym (row-with i q o rows h))
  where
    go : (q : ℕ) (p : Option ListRow) → row_at listed_id q rows ≡ p → ((s : ListRow) → p ≡ Some s → listed_id s ≡ q) → p ≡ cond (eqb q i) (option_map (λ n. record { id = i; number = n }) o) p
    go q p is k = elim (cases_eq q i) [
      | inl same ↦
          here p (λ s f. k s f ∙ same)
          ∙ ap (option_map (λ n. record { id = i; number = n })) (ap (option_map (λ (r : ListRow). r.number)) (sym is ∙ ap (λ j. row_at listed_id j rows) same) ∙ e)
          ∙ sym (ap (λ b. cond b (option_map (λ n. record { id = i; number = n }) o) p) (eq-eqb q i same))
      | inr other ↦ sym (ap (λ b. cond b (option_map (λ n. record { id = i; number = n }) o) p) (ne_eqb q i other))
    ]
      where
        here : (p : Option ListRow) → ((s : ListRow) → p ≡ Some s → listed_id s ≡ i) → p ≡ option_map (λ n. record { id = i; number = n }) (option_map (λ (r : ListRow). r.number) p)
        here None k = refl
        here (Some s) k = ap (λ j. Some (record { id = j; number = s.number })) (k s refl)

-- and so it is before it is given another number, or none
pub with-taken : (i : ℕ) (o : Option ℕ) (rows : List ListRow) → rises listed_id rows ≡ true → with_number i o (without_row i rows) ≡ with_number i o rows
with-taken i None rows h = without-absent i (without_row i rows) (row-unnumbered i (without_row i rows) (number-taken i rows h))
with-taken i (Some n) rows h = put-taken i n rows h

-- options that test as equal are
pub same_as : (o p : Option ℕ) → true ≡ option_eq eqb o p → o ≡ p
same_as None None e = refl
same_as None (Some y) e = absurd (false≢true (sym e))
same_as (Some x) None e = absurd (false≢true (sym e))
same_as (Some x) (Some y) e = let v : x ≡ y = grind (arith, nat_tests) in ap (λ z. Some z) v

pub same_of : (o p : Option ℕ) → false ≡ not (option_eq eqb o p) → o ≡ p
same_of o p e = same_as o p (go (option_eq eqb o p) e)
  where
    go : (b : Bool) → false ≡ not b → true ≡ b
    go true e = refl
    go false e = absurd (false≢true e)
