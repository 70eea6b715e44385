-- The elements of lists, and the rows that are found among them.
use Rattle.std.specs.Prelude.{Bool}
use Rattle.std.proofs.Common.{◌≡◌, ◌⊎◌, ℕ, zero, suc, ◌<◌, ◌≤◌, true, false, cond, not, Option, None, ltb, List, [], ◌∷◌, ◌++◌, map, Some, refl, sym, ap, ◌∙◌, inl, inr, arith}
use Rattle.std.specs.List.{flat_map, filter, find, list_any, list_all, slice_get, position_or_len}
use Rattle.std.specs.Option.{option_to_list}
use Rattle.std.proofs.lemmas.List.Folds.{find_at}
use Rattle.mt_skel.specs.Chain.{chain}
use Rattle.std.proofs.lemmas.Bool.Decides.{nat_tests}
use Rattle.mt_skel.specs.Keyed.{row_at, rises, firsts}

-- x is an element of a list
abbrev pub In : {X : Type 0} → X → List X → Type 0
In x [] = ⊥
In x (y ∷ ys) = (y ≡ x) ⊎ In x ys

module _ {X : Type 0} where
  pub in_append : (x : X) (xs ys : List X) → In x (xs ++ ys) → In x xs ⊎ In x ys
  in_append x [] ys h = inr h
  in_append x (y ∷ xs) ys h = grind (arith, in_append x xs ys)

  pub in_left : (x : X) (xs ys : List X) → In x xs → In x (xs ++ ys)
  in_left x [] ys h = absurd h
  in_left x (y ∷ xs) ys h = elim h [ inl here ↦ inl here | inr later ↦ inr (in_left x xs ys later) ]

  pub in_right : (x : X) (xs ys : List X) → In x ys → In x (xs ++ ys)
  in_right x [] ys h = h
  in_right x (y ∷ xs) ys h = inr (in_right x xs ys h)

  pub in_filter : (q : X → Bool) (x : X) (xs : List X) → In x (filter q xs) → In x xs × (q x ≡ true)
  in_filter q x [] h = absurd h
  in_filter q x (y ∷ ys) h = grind (arith, in_filter q x ys)

  pub in_filtered : (q : X → Bool) (x : X) (xs : List X) → In x xs → q x ≡ true → In x (filter q xs)
  in_filtered q x [] h t = absurd h
  in_filtered q x (y ∷ ys) h t = grind (arith, in_filtered q x ys)

  pub in_any : (q : X → Bool) (xs : List X) → list_any q xs ≡ true → (x : X) × In x xs × (q x ≡ true)
  in_any q [] h = absurd (cc)
  in_any q (y ∷ ys) h = grind (arith, in_any q ys)

  pub any_in : (q : X → Bool) (x : X) (xs : List X) → In x xs → q x ≡ true → list_any q xs ≡ true
  any_in q x [] h t = absurd h
  any_in q x (y ∷ ys) h t = grind (arith, any_in q x ys)

  -- rows that are found
  pub row_in : (key : X → ℕ) (i : ℕ) (xs : List X) (x : X) → row_at key i xs ≡ Some x → In x xs
  row_in key i [] x h = absurd (cc)
  row_in key i (y ∷ ys) x h = grind (arith, nat_tests, row_in key i ys x)

  pub in_row : (key : X → ℕ) (xs : List X) (x : X) → rises key xs ≡ true → In x xs → row_at key (key x) xs ≡ Some x
  in_row key [] x r h = absurd h
  in_row key (y ∷ ys) x r h = grind (arith, nat_tests, in_row key ys x, above ys)
    where
      above : (zs : List X) → list_all (λ z. ltb (key y) (key z)) zs ≡ true → In x zs → key y < key x
      above [] l m = absurd m
      above (z ∷ zs) l m = grind (arith, nat_tests, above zs)

module _ {X Y : Type 0} where
  pub in_map : (f : X → Y) (y : Y) (xs : List X) → In y (map f xs) → (x : X) × In x xs × (f x ≡ y)
  in_map f y [] h = absurd h
  in_map f y (x ∷ xs) h = grind (arith, in_map f y xs)

  pub in_mapped : (f : X → Y) (x : X) (xs : List X) → In x xs → In (f x) (map f xs)
  in_mapped f x [] h = absurd h
  in_mapped f x (z ∷ xs) h = elim h [ inl here ↦ inl (ap f here) | inr later ↦ inr (in_mapped f x xs later) ]

  pub in_flat : (f : X → List Y) (y : Y) (xs : List X) → In y (flat_map f xs) → (x : X) × In x xs × In y (f x)
  in_flat f y [] h = absurd h
  in_flat f y (x ∷ xs) h = elim (in_append y (f x) (flat_map f xs) h) [ inl here ↦ (x, inl refl, here) | inr later ↦ let r = in_flat f y xs later in (r.0, inr r.1, r.2) ]

  pub in_flatted : (f : X → List Y) (y : Y) (x : X) (xs : List X) → In x xs → In y (f x) → In y (flat_map f xs)
  in_flatted f y x [] h k = absurd h
  in_flatted f y x (z ∷ xs) h k = grind (arith, in_left y (f z) (flat_map f xs), in_right y (f z) (flat_map f xs), in_flatted f y x xs)

module _ {X : Type 0} where
  -- what a search finds
  pub find_in : (q : X → Bool) (xs : List X) (x : X) → find q xs ≡ Some x → In x xs × (q x ≡ true)
  find_in q [] x h = absurd (cc)
  find_in q (y ∷ ys) x h = grind (arith, find_in q ys x)

  pub in_found : (q : X → Bool) (xs : List X) (x : X) → In x xs → q x ≡ true → (y : X) × (find q xs ≡ Some y)
  in_found q [] x h t = absurd h
  in_found q (y ∷ ys) x h t = go (q y) refl (in_found q ys x)
    where
      go : (b : Bool) → q y ≡ b → (In x ys → q x ≡ true → (v : X) × (find q ys ≡ Some v)) → (v : X) × (cond b (Some y) (find q ys) ≡ Some v)
      go true is ih = (y, refl)
      go false is ih = ih (grind arith) t

  pub get_in : (xs : List X) (i : ℕ) (x : X) → slice_get xs i ≡ Some x → In x xs
  get_in [] i x h = absurd (cc)
  get_in (y ∷ ys) zero x h = inl (let s : y ≡ x = cc in s)
  get_in (y ∷ ys) (suc i) x h = inr (get_in ys i x h)

  -- under a test that tells elements apart, an element stands at its own position, and among the first ones
  module _ (eq : X → X → Bool) (same : (x : X) → eq x x ≡ true) (exact : (x y : X) → eq x y ≡ true → x ≡ y) where
    pub at_position : (xs : List X) (x : X) → In x xs → slice_get xs (position_or_len (eq x) xs) ≡ Some x
    at_position xs x h =
        let f = in_found (eq x) xs x h (same x) in
        let r = find_in (eq x) xs f.0 f.1 in
        sym (find_at (eq x) xs) ∙ f.1 ∙ ap (λ v. Some v) (sym (exact x f.0 r.1))

    pub in_firsts : (xs : List X) (x : X) → In x xs → In x (firsts eq xs)
    in_firsts [] x h = absurd h
    in_firsts (y ∷ ys) x h = grind (arith, exact y x, in_firsts ys x, in_filtered (λ z. not (eq y z)) x (firsts eq ys))

  pub firsts_in : (eq : X → X → Bool) (xs : List X) (x : X) → In x (firsts eq xs) → In x xs
  firsts_in eq [] x h = absurd h
  firsts_in eq (y ∷ ys) x h = elim h [ inl here ↦ inl here | inr later ↦ inr (firsts_in eq ys x (in_filter (λ z. not (eq y z)) x (firsts eq ys) later).0) ]

  pub option_in : (o : Option X) (x : X) → In x (option_to_list o) → o ≡ Some x
  option_in None x h = absurd h
  option_in (Some y) x h = grind arith

  pub in_option : (o : Option X) (x : X) → o ≡ Some x → In x (option_to_list o)
  in_option None x h = absurd (cc)
  in_option (Some y) x h = inl (let s : y ≡ x = cc in s)

  -- along a chain a number that falls with each step is no higher than at its start
  pub chain_low : (next : X → Option X) (rank : X → ℕ) → ((x y : X) → next x ≡ Some y → rank y < rank x) → (n : ℕ) (x y : X) → In y (chain next n x) → rank y ≤ rank x
  chain_low next rank falls zero x y h = grind arith
  chain_low next rank falls (suc n) x y h = let ih = λ (v : X). chain_low next rank falls n v y in grind (arith, ih, falls)
