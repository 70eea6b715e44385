-- The rows and the ties of a table of entries.
use Rattle.std.proofs.Common.{◌≡◌, ◌≢◌, ◌⊎◌, ℕ, suc, ◌≤◌, length, Bool, true, false, cond, not, eqb, eq-eqb, nat_eq, List, [], ◌∷◌, Option, Some, None, refl, sym, ap, ◌∙◌, inl, inr, arith}
use Rattle.std.specs.Option.{option_map, option_map_or}
use Rattle.std.specs.List.{AllByRecursion, IsDistinct}
use Rattle.std.specs.Map.{lookup, keys_of}
use Rattle.std.proofs.lemmas.Bool.{cases_eq, ne_eqb}
use Rattle.std.proofs.lemmas.Bool.Decides.{nat_tests}
use Rattle.indexmap.specs.IndexMap.{get, IsUnique}
use Rattle.mt_skel.specs.Keyed.{row_at, put, rises}
use Rattle.mt_skel.proofs.KeyedLaws.{row_at-put, rises-put, rises-filter, same_rows}
use Rattle.mt_lists.specs.declared.entries.Entry.{Entry}
use Rattle.mt_lists.specs.declared.ties.Tie.{Tie}
use Rattle.mt_lists.specs.Lists.{ListRow, listed_id, listed_number, ids, without_row}
use Rattle.mt_lists.specs.SlotLists.{LeadsTo}
use Rattle.mt_lists.specs.Tables.{Index, tie_of_entry, row_of_entry, ties_of, rows_from, rows_of}
use Rattle.mt_lists.specs.Ties.{id_of_tie, id_at}
use Rattle.mt_lists.proofs.IdLaws.{row-without}
use Rattle.mt_lists.proofs.RowLaws.{without-absent}

row-from : (es : List (ℕ × Entry)) (q : ℕ) → row_at listed_id q (rows_from es) ≡ option_map (row_of_entry q) (lookup (nat_eq q) es)
row-from [] q = refl
row-from (e ∷ es) q = row_at-put listed_id q (row_of_entry e.0 e.1) (rows_from es) ∙ ap (cond (eqb q e.0) (Some (row_of_entry e.0 e.1))) (row-from es q) ∙ go (eqb q e.0) refl
  where
    go : (b : Bool) → eqb q e.0 ≡ b → cond b (Some (row_of_entry e.0 e.1)) (option_map (row_of_entry q) (lookup (nat_eq q) es)) ≡ option_map (row_of_entry q) (cond b (Some e.1) (lookup (nat_eq q) es))
    go true is = let same : e.0 ≡ q = grind (arith, nat_tests) in ap (λ i. Some (row_of_entry i e.1)) same
    go false is = refl

rises-from : (es : List (ℕ × Entry)) → rises listed_id (rows_from es) ≡ true
rises-from [] = refl
rises-from (e ∷ es) = rises-put listed_id (row_of_entry e.0 e.1) (rows_from es) (rises-from es)

-- the rows rise, and the row of an ID is that of its entry
pub rises-rows : (m : Index Entry) → rises listed_id (rows_of m) ≡ true
unfolding rows_of
rises-rows m = rises-from m.entries

pub row-rows : (m : Index Entry) (q : ℕ) → row_at listed_id q (rows_of m) ≡ option_map (row_of_entry q) (get nat_eq m q)
unfolding rows_of
row-rows m q = row-from m.entries q

-- a table with no entries has no rows, and one with the same entries has the same rows
pub rows-empty : (m : Index Entry) → m.entries ≡ [] → rows_of m ≡ []
unfolding rows_of
rows-empty m e = ap rows_from e

pub rows-same : (m n : Index Entry) → n.entries ≡ m.entries → rows_of n ≡ rows_of m
unfolding rows_of
rows-same m n e = ap rows_from e

-- an ID without a row has no tie
pub tie-none : (m : Index Entry) (i : ℕ) → row_at listed_id i (rows_of m) ≡ None → ties_of m i ≡ None
tie-none m i e = go (get nat_eq m i) (sym (row-rows m i) ∙ e)
  where
    go : (o : Option Entry) → option_map (row_of_entry i) o ≡ None → option_map (tie_of_entry i) o ≡ None
    go None e = refl
    go (Some y) e = absurd (cc)

-- the number of an ID
pub number-of : (m : Index Entry) (i : ℕ) → option_map (λ (t : Tie). t.number) (ties_of m i) ≡ listed_number (rows_of m) i
number-of m i = go (get nat_eq m i) ∙ sym (ap (option_map (λ (r : ListRow). r.number)) (row-rows m i))
  where
    go : (o : Option Entry) → option_map (λ (t : Tie). t.number) (option_map (tie_of_entry i) o) ≡ option_map (λ (r : ListRow). r.number) (option_map (row_of_entry i) o)
    go None = refl
    go (Some y) = refl

-- an ID stands at itself
pub own-place : (m : Index Entry) (k i : ℕ) → id_at (ties_of m) k ≡ Some i → i ≡ k
own-place m k i e = go (get nat_eq m k) e
  where
    go : (o : Option Entry) → id_of_tie (option_map (tie_of_entry k) o) ≡ Some i → i ≡ k
    go None e = absurd (cc)
    go (Some y) e = let v : Some k ≡ Some i = e in cc

pub lead-own : (m : Index Entry) (o i : Option ℕ) → LeadsTo (id_at (ties_of m)) o i → o ≡ i
lead-own m None None e = refl
lead-own m None (Some i) e = absurd (cc)
lead-own m (Some s) None e = absurd (cc)
lead-own m (Some s) (Some i) e = let v : id_at (ties_of m) s ≡ Some i = cc in ap (λ j. Some j) (sym (own-place m s i v))

-- what the writes of an entry make of the rows
module _ (m new : Index Entry) where
  -- an entry comes
  pub rows-put : (id : ℕ) (y : Entry) → ((k : ℕ) → get nat_eq new k ≡ cond (nat_eq id k) (Some y) (get nat_eq m k)) → rows_of new ≡ put listed_id (row_of_entry id y) (rows_of m)
  rows-put id y puts =
      same_rows listed_id (rows_of new) (put listed_id (row_of_entry id y) (rows_of m)) (rises-rows new) (rises-put listed_id (row_of_entry id y) (rows_of m) (rises-rows m))
      (λ q. row-rows new q ∙ ap (option_map (row_of_entry q)) (puts q) ∙ go q (cases_eq id q) ∙ sym (row_at-put listed_id q (row_of_entry id y) (rows_of m)))
    where
      go : (q : ℕ) → (id ≡ q) ⊎ (id ≢ q) → option_map (row_of_entry q) (cond (nat_eq id q) (Some y) (get nat_eq m q)) ≡ cond (nat_eq q id) (Some (row_of_entry id y)) (row_at listed_id q (rows_of m))
      go q (inl same) = rw (eq-eqb id q same, eq-eqb q id (sym same)) (ap (λ i. Some (row_of_entry i y)) (sym same))
      go q (inr ne) = rw (ne_eqb id q ne, ne_eqb q id (λ e. ne (sym e))) (sym (row-rows m q))

  -- an entry goes
  pub rows-taken : (id : ℕ) → ((k : ℕ) → get nat_eq new k ≡ cond (nat_eq id k) None (get nat_eq m k)) → rows_of new ≡ without_row id (rows_of m)
  rows-taken id takes =
      same_rows listed_id (rows_of new) (without_row id (rows_of m)) (rises-rows new) (rises-filter listed_id (λ (r : ListRow). not (eqb id r.id)) (rows_of m) (rises-rows m))
      (λ q. row-rows new q ∙ ap (option_map (row_of_entry q)) (takes q) ∙ go q (nat_eq id q) ∙ sym (row-without id q (rows_of m) (rises-rows m)))
    where
      go : (q : ℕ) (b : Bool) → option_map (row_of_entry q) (cond b None (get nat_eq m q)) ≡ cond b None (row_at listed_id q (rows_of m))
      go q true = refl
      go q false = sym (row-rows m q)

  -- an entry gets another neighbour
  pub rows-given : (id : ℕ) (y : Entry) (f : Entry → Entry) → ((z : Entry) → (f z).number ≡ z.number) → get nat_eq m id ≡ Some y → ((k : ℕ) → get nat_eq new k ≡ cond (nat_eq id k) (Some (f y)) (get nat_eq m k)) → rows_of new ≡ rows_of m
  rows-given id y f alike there gives =
      same_rows listed_id (rows_of new) (rows_of m) (rises-rows new) (rises-rows m) (λ q. row-rows new q ∙ ap (option_map (row_of_entry q)) (gives q) ∙ go q (cases_eq id q) ∙ sym (row-rows m q))
    where
      go : (q : ℕ) → (id ≡ q) ⊎ (id ≢ q) → option_map (row_of_entry q) (cond (nat_eq id q) (Some (f y)) (get nat_eq m q)) ≡ option_map (row_of_entry q) (get nat_eq m q)
      go q (inl same) = rw (eq-eqb id q same) (ap (λ n. Some (record { id = q; number = n })) (alike y) ∙ sym (ap (option_map (row_of_entry q)) (ap (get nat_eq m) (sym same) ∙ there)))
      go q (inr ne) = rw (ne_eqb id q ne) refl

-- an ID goes, whether it is there or not
pub rows-gone : (m : Index Entry) (id : ℕ) → option_map_or (λ i. without_row i (rows_of m)) (id_at (ties_of m) id) (rows_of m) ≡ without_row id (rows_of m)
rows-gone m id = go (get nat_eq m id) (row-rows m id)
  where
    go : (o : Option Entry) → row_at listed_id id (rows_of m) ≡ option_map (row_of_entry id) o → option_map_or (λ i. without_row i (rows_of m)) (id_of_tie (option_map (tie_of_entry id) o)) (rows_of m) ≡ without_row id (rows_of m)
    go None e = sym (without-absent id (rows_of m) e)
    go (Some y) e = refl

-- how many rows there are
pub length-put-most : (r : ListRow) (rows : List ListRow) → length (put listed_id r rows) ≤ suc (length rows)
length-put-most r [] = omega arith
length-put-most r (y ∷ ys) =
    let ih = length-put-most r ys in
    grind (arith, nat_tests)

length-put-new : (r : ListRow) (rows : List ListRow) → row_at listed_id r.id rows ≡ None → length (put listed_id r rows) ≡ suc (length rows)
length-put-new r [] n = refl
length-put-new r (y ∷ ys) n =
    let ih = length-put-new r ys in
    grind (arith, nat_tests)

lookup-apart : (k : ℕ) (es : List (ℕ × Entry)) → AllByRecursion (λ y. nat_eq k y ≡ false) (keys_of es) → lookup (nat_eq k) es ≡ None
lookup-apart k [] h = refl
lookup-apart k (e ∷ es) h = ap (λ b. cond b (Some e.1) (lookup (nat_eq k) es)) h.0 ∙ lookup-apart k es h.1

length-from : (es : List (ℕ × Entry)) → IsDistinct nat_eq (keys_of es) → length (rows_from es) ≡ length es
unfolding IsDistinct
length-from [] h = refl
length-from (e ∷ es) h =
    length-put-new (row_of_entry e.0 e.1) (rows_from es) (row-from es e.0 ∙ ap (option_map (row_of_entry e.0)) (lookup-apart e.0 es h.0)) ∙ ap suc (length-from es h.1)

-- a table has as many rows as entries
pub length-rows : (m : Index Entry) → IsUnique nat_eq m → length (rows_of m) ≡ length m.entries
unfolding rows_of
length-rows m h = length-from m.entries h

-- a number has no more IDs than there are rows
pub length-ids : (rows : List ListRow) (n : ℕ) → length (ids rows n) ≤ length rows
length-ids [] n = omega arith
length-ids (r ∷ rs) n =
    let ih = length-ids rs n in
    grind (arith, nat_tests)
