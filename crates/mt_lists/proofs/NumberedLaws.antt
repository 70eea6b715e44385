-- The rows of a table, and what a change of the table makes of them.
use Rattle.std.proofs.Common.{◌≡◌, ◌≢◌, ℕ, Bool, true, false, cond, not, eqb, eq-eqb, ltb, List, [], ◌∷◌, map, Option, Some, None, refl, sym, ap, ◌∙◌, inl, inr, arith}
use Rattle.std.specs.List.{filter, list_all}
use Rattle.std.specs.Option.{option_map, option_map_or, option_and_then}
use Rattle.std.proofs.lemmas.Bool.{cases_eq, ne_eqb}
use Rattle.std.proofs.lemmas.Bool.Decides.{nat_tests}
use Rattle.mt_skel.specs.Keyed.{row_at, put, rises}
use Rattle.mt_skel.proofs.KeyedLaws.{row_at-put, row_at-below, rises-put, same_rows}
use Rattle.mt_lists.specs.Lists.{ListRow, listed_id, listed_number, ids, with_number}
use Rattle.mt_lists.specs.Numbered.{rows_by, has_number}
use Rattle.mt_lists.proofs.RowLaws.{row-with, rises-with}

module _ {X : Type 0} (key : X → ℕ) (number : X → Option ℕ) where
  -- the IDs of a number are the keys of the items that have it
  pub ids-by : (xs : List X) (n : ℕ) → ids (rows_by key number xs) n ≡ map key (filter (has_number key number n) xs)
  ids-by [] n = refl
  ids-by (x ∷ xs) n = go (number x) (ids-by xs n)
    where
      go : (o : Option ℕ) → ids (rows_by key number xs) n ≡ map key (filter (has_number key number n) xs)
          → ids (option_map_or (λ m. record { id = key x; number = m } ∷ rows_by key number xs) o (rows_by key number xs)) n ≡ map key (cond (option_map_or (λ m. eqb m n) o false) (x ∷ filter (has_number key number n) xs) (filter (has_number key number n) xs))
      go None ih = ih
      go (Some m) ih = grind (arith, nat_tests)

  over-by : (k : ℕ) (xs : List X) → list_all (λ x. ltb k (key x)) xs ≡ true → list_all (λ (r : ListRow). ltb k r.id) (rows_by key number xs) ≡ true
  over-by k [] h = refl
  over-by k (x ∷ xs) h = go (number x) (over-by k xs)
    where
      go : (o : Option ℕ) → (list_all (λ x. ltb k (key x)) xs ≡ true → list_all (λ (r : ListRow). ltb k r.id) (rows_by key number xs) ≡ true)
          → list_all (λ (r : ListRow). ltb k r.id) (option_map_or (λ m. record { id = key x; number = m } ∷ rows_by key number xs) o (rows_by key number xs)) ≡ true
      go None ih = grind (arith, nat_tests)
      go (Some m) ih = grind (arith, nat_tests)

  pub rises-by : (xs : List X) → rises key xs ≡ true → rises listed_id (rows_by key number xs) ≡ true
  rises-by [] h = refl
  rises-by (x ∷ xs) h = go (number x) (rises-by xs) (over-by (key x) xs)
    where
      go : (o : Option ℕ) → (rises key xs ≡ true → rises listed_id (rows_by key number xs) ≡ true)
          → (list_all (λ y. ltb (key x) (key y)) xs ≡ true → list_all (λ (r : ListRow). ltb (key x) r.id) (rows_by key number xs) ≡ true)
          → rises listed_id (option_map_or (λ m. record { id = key x; number = m } ∷ rows_by key number xs) o (rows_by key number xs)) ≡ true
      go None ih l = grind (arith, nat_tests)
      go (Some m) ih l = grind (arith, nat_tests)

  abbrev pub row_by : ℕ → X → Option ListRow
  row_by q x = option_map (λ n. record { id = q; number = n }) (number x)

  pub row-by : (q : ℕ) (xs : List X) → rises key xs ≡ true → row_at listed_id q (rows_by key number xs) ≡ option_and_then (row_by q) (row_at key q xs)
  row-by q [] h = refl
  row-by q (x ∷ xs) h = go (number x) refl (eqb q (key x)) refl (row-by q xs (grind (arith, nat_tests))) (λ e. row_at-below listed_id q (rows_by key number xs) (over-by q xs e)) (grind (arith, nat_tests))
    where
      go : (o : Option ℕ) → number x ≡ o → (b : Bool) → eqb q (key x) ≡ b → row_at listed_id q (rows_by key number xs) ≡ option_and_then (row_by q) (row_at key q xs)
          → (list_all (λ y. ltb q (key y)) xs ≡ true → row_at listed_id q (rows_by key number xs) ≡ None) → list_all (λ y. ltb (key x) (key y)) xs ≡ true
          → row_at listed_id q (option_map_or (λ m. record { id = key x; number = m } ∷ rows_by key number xs) o (rows_by key number xs)) ≡ option_and_then (row_by q) (cond b (Some x) (row_at key q xs))
      go None e true is ih low h = let at : q ≡ key x = grind (arith, nat_tests) in low (rw at h) ∙ sym (ap (option_map (λ n. record { id = q; number = n })) e)
      go None e false is ih low h = ih
      go (Some m) e true is ih low h =
          let at : key x ≡ q = grind (arith, nat_tests) in
          ap (λ b. cond b (Some (record { id = key x; number = m })) (row_at listed_id q (rows_by key number xs))) is ∙ ap (λ i. Some (record { id = i; number = m })) at
          ∙ sym (ap (option_map (λ n. record { id = q; number = n })) e)
      go (Some m) e false is ih low h = ap (λ b. cond b (Some (record { id = key x; number = m })) (row_at listed_id q (rows_by key number xs))) is ∙ ih

module _ {X : Type 0} (key : X → ℕ) (number : X → Option ℕ) where
  rowed : (q : ℕ) (a : Option X) → option_and_then (row_by key number q) a ≡ option_map (λ n. record { id = q; number = n }) (option_and_then number a)
  rowed q None = refl
  rowed q (Some x) = refl

  -- the number that an ID has among the rows of a table
  pub number-by : (q : ℕ) (xs : List X) → rises key xs ≡ true → listed_number (rows_by key number xs) q ≡ option_and_then number (row_at key q xs)
  number-by q xs h = ap (option_map (λ (r : ListRow). r.number)) (row-by key number q xs h ∙ rowed q (row_at key q xs)) ∙ go (option_and_then number (row_at key q xs))
    where
      go : (o : Option ℕ) → option_map (λ (r : ListRow). r.number) (option_map (λ n. record { id = q; number = n }) o) ≡ o
      go None = refl
      go (Some n) = refl

  -- a table of which one item is another, or is gone
  pub changed-by : (xs ys : List X) (i : ℕ) (o : Option ℕ) → rises key xs ≡ true → rises key ys ≡ true → option_and_then number (row_at key i ys) ≡ o
      → ((q : ℕ) → q ≢ i → option_and_then number (row_at key q ys) ≡ option_and_then number (row_at key q xs)) → rows_by key number ys ≡ with_number i o (rows_by key number xs)
  changed-by xs ys i o g h here others =
      same_rows listed_id (rows_by key number ys) (with_number i o (rows_by key number xs)) (rises-by key number ys h) (rises-with i o (rows_by key number xs) (rises-by key number xs g))
      (λ q. row-by key number q ys h ∙ rowed q (row_at key q ys) ∙ go q ∙ sym (row-with i q o (rows_by key number xs) (rises-by key number xs g)))
    where
      go : (q : ℕ) → option_map (λ n. record { id = q; number = n }) (option_and_then number (row_at key q ys)) ≡ cond (eqb q i) (option_map (λ n. record { id = i; number = n }) o) (row_at listed_id q (rows_by key number xs))
      go q = elim (cases_eq q i) [
        | inl same ↦
            ap (λ k. option_map (λ n. record { id = k; number = n }) (option_and_then number (row_at key k ys))) same ∙ ap (option_map (λ n. record { id = i; number = n })) here
            ∙ sym (ap (λ b. cond b (option_map (λ n. record { id = i; number = n }) o) (row_at listed_id q (rows_by key number xs))) (eq-eqb q i same))
        | inr ne ↦
            ap (option_map (λ n. record { id = q; number = n })) (others q ne) ∙ sym (rowed q (row_at key q xs)) ∙ sym (row-by key number q xs g)
            ∙ sym (ap (λ b. cond b (option_map (λ n. record { id = i; number = n }) o) (row_at listed_id q (rows_by key number xs))) (ne_eqb q i ne))
      ]

  -- an item is put into the table
  pub put-by : (x : X) (xs : List X) → rises key xs ≡ true → rows_by key number (put key x xs) ≡ with_number (key x) (number x) (rows_by key number xs)
  put-by x xs h = changed-by xs (put key x xs) (key x) (number x) h (rises-put key x xs h)
      (ap (option_and_then number) (row_at-put key (key x) x xs ∙ ap (λ b. cond b (Some x) (row_at key (key x) xs)) (eq-eqb (key x) (key x) refl)))
      (λ q ne. ap (option_and_then number) (row_at-put key q x xs ∙ ap (λ b. cond b (Some x) (row_at key q xs)) (ne_eqb q (key x) ne)))

  -- a change that leaves each item its number
  pub same-by : (f : X → X) (xs : List X) → ((y : X) → key (f y) ≡ key y) → ((y : X) → number (f y) ≡ number y) → rows_by key number (map f xs) ≡ rows_by key number xs
  same-by f [] keeps same = refl
  same-by f (x ∷ xs) keeps same =
      let ih = same-by f xs keeps same in
      (λ i. option_map_or (λ m. record { id = keeps x i; number = m } ∷ ih i) (same x i) (ih i))
