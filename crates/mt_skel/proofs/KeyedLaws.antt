use Rattle.std.proofs.Common.{◌≡◌, ℕ, ◌+◌, length, ◌<◌, Bool, true, false, cond, eqb, ltb, List, [], ◌∷◌, map, Option, Some, None, refl, ◌∙◌, arith}
use Rattle.std.specs.List.{filter, list_all, AllByRecursion, IsDistinct, range_with_len}
use Rattle.std.specs.Option.{option_map}
use Rattle.std.proofs.lemmas.Bool.Decides.{nat_tests}
use Rattle.std.specs.Cmp.{IsEquivalence}
use Rattle.mt_skel.specs.Keyed.{row_at, put, rises, numbered}

-- what an option holds if it passes a test, and the first of two options that holds something
abbrev pub passing : {X : Type 0} → (X → Bool) → Option X → Option X
passing p None = None
passing p (Some x) = cond (p x) (Some x) None

abbrev pub or_else : {X : Type 0} → Option X → Option X → Option X
or_else None o = o
or_else (Some x) o = Some x

module _ {X : Type 0} (key : X → ℕ) where
  -- one row more
  pub row_at-put : (q : ℕ) (x : X) (xs : List X) → row_at key q (put key x xs) ≡ cond (eqb q (key x)) (Some x) (row_at key q xs)
  row_at-put q x [] = refl
  row_at-put q x (y ∷ ys) = grind (arith, nat_tests, row_at-put q x ys)

  pub row_at-key : (q : ℕ) (xs : List X) (x : X) → row_at key q xs ≡ Some x → key x ≡ q
  row_at-key q [] x h = absurd (cc)
  row_at-key q (y ∷ ys) x h = grind (arith, nat_tests, row_at-key q ys x)

  all-put : (k : ℕ) (x : X) (xs : List X) → k < key x → list_all (λ y. ltb k (key y)) xs ≡ true → list_all (λ y. ltb k (key y)) (put key x xs) ≡ true
  all-put k x [] l h = grind (arith, nat_tests)
  all-put k x (y ∷ ys) l h = grind (arith, nat_tests, all-put k x ys l)

  pub all-lower : (j k : ℕ) (xs : List X) → j < k → list_all (λ y. ltb k (key y)) xs ≡ true → list_all (λ y. ltb j (key y)) xs ≡ true
  all-lower j k [] l h = refl
  all-lower j k (y ∷ ys) l h = grind (arith, nat_tests, all-lower j k ys l)

  pub rises-put : (x : X) (xs : List X) → rises key xs ≡ true → rises key (put key x xs) ≡ true
  rises-put x [] h = refl
  rises-put x (y ∷ ys) h = grind (arith, nat_tests, rises-put x ys, all-put (key y) x ys, all-lower (key x) (key y) ys)

  pub row_at-below : (q : ℕ) (xs : List X) → list_all (λ y. ltb q (key y)) xs ≡ true → row_at key q xs ≡ None
  row_at-below q [] h = refl
  row_at-below q (y ∷ ys) h = grind (arith, nat_tests, row_at-below q ys)

  all-filter : (p : X → Bool) (k : ℕ) (xs : List X) → list_all (λ y. ltb k (key y)) xs ≡ true → list_all (λ y. ltb k (key y)) (filter p xs) ≡ true
  all-filter p k [] h = refl
  all-filter p k (y ∷ ys) h = grind (arith, nat_tests, all-filter p k ys)

  pub rises-filter : (p : X → Bool) (xs : List X) → rises key xs ≡ true → rises key (filter p xs) ≡ true
  rises-filter p [] h = refl
  rises-filter p (y ∷ ys) h = grind (arith, nat_tests, rises-filter p ys, all-filter p (key y) ys)

  -- a filter by a test that may read the whole row
  pub row_at-filter : (p : X → Bool) (q : ℕ) (xs : List X) → rises key xs ≡ true → row_at key q (filter p xs) ≡ passing p (row_at key q xs)
  row_at-filter p q [] h = refl
  row_at-filter p q (y ∷ ys) h = grind (arith, nat_tests, row_at-filter p q ys, row_at-below q ys, row_at-below q (filter p ys), all-filter p (key y) ys)

  -- two lists that answer alike are equal
  pub same_rows : (xs ys : List X) → rises key xs ≡ true → rises key ys ≡ true → ((q : ℕ) → row_at key q xs ≡ row_at key q ys) → xs ≡ ys
  same_rows [] [] g h e = refl
  same_rows [] (y ∷ ys) g h e = let e_y = e (key y) in absurd (grind (arith, nat_tests))
  same_rows (x ∷ xs) [] g h e = let e_x = e (key x) in absurd (grind (arith, nat_tests))
  same_rows (x ∷ xs) (y ∷ ys) g h e =
      let low_x : key x < key y → row_at key (key x) ys ≡ None = λ l. row_at-below (key x) ys (all-lower (key x) (key y) ys l (grind (arith, nat_tests))) in
      let low_y : key y < key x → row_at key (key y) xs ≡ None = λ l. row_at-below (key y) xs (all-lower (key y) (key x) xs l (grind (arith, nat_tests))) in
      let heads : x ≡ y = grind (arith, nat_tests, e (key x), e (key y)) in
      let tails : (q : ℕ) → row_at key q xs ≡ row_at key q ys = λ q. grind (arith, nat_tests, e q, heads, row_at-below (key x) xs, row_at-below (key y) ys) in
      grind (arith, nat_tests, heads, same_rows xs ys, tails)

-- a change of the rows that keeps their keys
module _ {X : Type 0} (key : X → ℕ) (f : X → X) (keeps : (x : X) → key (f x) ≡ key x) where
  pub row_at-map : (q : ℕ) (xs : List X) → row_at key q (map f xs) ≡ option_map f (row_at key q xs)
  row_at-map q [] = refl
  row_at-map q (x ∷ xs) =
      rw (keeps x) (elim (eqb q (key x)) as (λ b. cond b (Some (f x)) (row_at key q (map f xs)) ≡ option_map f (cond b (Some x) (row_at key q xs))) [ true ↦ refl | false ↦ row_at-map q xs ])

  above-map : (k : ℕ) (xs : List X) → list_all (λ y. ltb k (key y)) (map f xs) ≡ list_all (λ y. ltb k (key y)) xs
  above-map k [] = refl
  above-map k (x ∷ xs) = rw (keeps x, above-map k xs) refl

  pub rises-map : (xs : List X) → rises key (map f xs) ≡ rises key xs
  rises-map [] = refl
  rises-map (x ∷ xs) = rw (keeps x, above-map (key x) xs, rises-map xs) refl

-- The numbers of distinct things, in their order, are consecutive
module _ {X : Type 0} (eq : X → X → Bool) (laws : IsEquivalence eq) where
  shifted : (first : ℕ) (x : X) (ys zs : List X) → AllByRecursion (λ y. eq x y ≡ false) ys → map (numbered eq first (x ∷ zs)) ys ≡ map (numbered eq (first + 1) zs) ys
  shifted first x [] zs h = refl
  shifted first x (y ∷ ys) zs h =
      let e : eq y x ≡ false = laws.symm y x ∙ h.0 in
      let head : numbered eq first (x ∷ zs) y ≡ numbered eq (first + 1) zs y = rw e (omega arith) in
      let rest = shifted first x ys zs h.1 in
      cc

  pub numbered-map : (first : ℕ) (xs : List X) → IsDistinct eq xs → map (numbered eq first xs) xs ≡ range_with_len first (length xs)
  unfolding IsDistinct
  numbered-map first [] h = refl
  numbered-map first (x ∷ xs) h =
      let e : numbered eq first (x ∷ xs) x ≡ first = rw (laws.refl x) (omega arith) in
      let rest = shifted first x xs xs h.0 ∙ numbered-map (first + 1) xs h.1 in
      cc
