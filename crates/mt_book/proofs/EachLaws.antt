-- What holds of each element of a list.
use Rattle.std.proofs.Common.{◌≡◌, ℕ, zero, suc, ◌+◌, ◌<◌, ◌≤◌, Bool, true, false, cond, List, [], ◌∷◌, map, length, slice_index_or, Option, Some, None, arith, refl}
use Rattle.std.specs.List.{filter, filter_map, cons_option, range_with_len, AllByRecursion}

module _ {X : Type 0} (P : X → Type 0) where
  -- of those that pass a test
  pub each_kept : (t : X → Bool) (xs : List X) → AllByRecursion P xs → AllByRecursion P (filter t xs)
  each_kept t [] h = tt
  each_kept t (x ∷ xs) h = by (t x) (each_kept t xs h.1)
    where
      by : (b : Bool) → AllByRecursion P (filter t xs) → AllByRecursion P (cond b (x ∷ filter t xs) (filter t xs))
      by true rest = (h.0, rest)
      by false rest = rest

  -- of the element at a place, or of what stands for one that is not there
  pub each_or : (xs : List X) (i : ℕ) (x : X) → AllByRecursion P xs → P x → P (slice_index_or xs i x)
  each_or [] i x h p = p
  each_or (y ∷ ys) zero x h p = h.0
  each_or (y ∷ ys) (suc i) x h p = each_or ys i x h.1 p

  -- of the element at a place that is there
  pub each_at : (xs : List X) (i : ℕ) (x : X) → AllByRecursion P xs → i < length xs → P (slice_index_or xs i x)
  each_at [] i x h l = absurd (omega (arith, l))
  each_at (y ∷ ys) zero x h l = h.0
  each_at (y ∷ ys) (suc i) x h l = each_at ys i x h.1 (omega (arith, l))

  -- of what a function gives for the numbers of a range
  pub each_given : (f : ℕ → Option X) (a len : ℕ) → ((m : ℕ) (x : X) → a ≤ m → m < a + len → f m ≡ Some x → P x) → AllByRecursion P (filter_map f (range_with_len a len))
  each_given f a zero h = tt
  each_given f a (suc len) h = by (f a) (λ x e. h a x (omega arith) (omega arith) e) (each_given f (a + 1) len (λ m x low high e. h m x (omega (arith, low)) (omega (arith, high)) e))
    where
      by : (o : Option X) → ((x : X) → o ≡ Some x → P x) → AllByRecursion P (filter_map f (range_with_len (a + 1) len)) → AllByRecursion P (cons_option o (filter_map f (range_with_len (a + 1) len)))
      by None here rest = rest
      by (Some x) here rest = (here x refl, rest)

-- a property of values carries over to what is made of them
pub each_map : {X Y : Type 0} (P : X → Type 0) (Q : Y → Type 0) (f : X → Y) → ((x : X) → P x → Q (f x)) → (xs : List X) → AllByRecursion P xs → AllByRecursion Q (map f xs)
each_map P Q f to [] h = tt
each_map P Q f to (x ∷ xs) h = (to x h.0, each_map P Q f to xs h.1)
