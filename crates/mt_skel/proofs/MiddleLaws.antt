-- An element among others: the row of its key, what changes or leaves there, and what holds of each.
use Rattle.std.proofs.Common.{◌≡◌, ℕ, Bool, true, not, ◌&&◌, eqb, ltb, List, [], ◌∷◌, ◌++◌, map, length, set, Some, slice_get, refl, ap, arith}
use Rattle.std.specs.List.{filter, list_all, remove, AllByRecursion}
use Rattle.std.proofs.lemmas.Bool.Decides.{nat_tests}
use Rattle.mt_skel.specs.Keyed.{row_at, put, rises}

-- two tests that hold together
pub and-true : (a b : Bool) → a ≡ true → b ≡ true → (a && b) ≡ true
and-true a b h k = grind arith

pub and_first : (a b : Bool) → (a && b) ≡ true → a ≡ true
and_first a b h = grind arith

pub and_second : (a b : Bool) → (a && b) ≡ true → b ≡ true
and_second a b h = grind arith

-- rows by rising key
module _ {X : Type 0} (key : X → ℕ) where
  all_mid : (t : X → Bool) (front back : List X) (x : X) → list_all t (front ++ x ∷ back) ≡ true → t x ≡ true
  all_mid t [] back x h = and_first _ _ h
  all_mid t (z ∷ front) back x h = all_mid t front back x (and_second _ _ h)

  below_mid : (front back : List X) (z x : X) → rises key (z ∷ (front ++ x ∷ back)) ≡ true → ltb (key z) (key x) ≡ true
  below_mid front back z x h = all_mid (λ y. ltb (key z) (key y)) front back x (and_first _ _ h)

  pub row_mid : (front back : List X) (x : X) → rises key (front ++ x ∷ back) ≡ true → row_at key (key x) (front ++ x ∷ back) ≡ Some x
  row_mid [] back x h = grind (arith, nat_tests)
  row_mid (z ∷ front) back x h = grind (arith, nat_tests, below_mid front back z x h, row_mid front back x)

  pub put_mid : (front back : List X) (x y : X) → key y ≡ key x → rises key (front ++ x ∷ back) ≡ true → put key y (front ++ x ∷ back) ≡ front ++ y ∷ back
  put_mid [] back x y e h = grind (arith, nat_tests)
  put_mid (z ∷ front) back x y e h = grind (arith, nat_tests, below_mid front back z x h, put_mid front back x y e)

  none_above : (k : ℕ) (ys : List X) → list_all (λ y. ltb k (key y)) ys ≡ true → filter (λ y. not (eqb (key y) k)) ys ≡ ys
  none_above k [] h = refl
  none_above k (y ∷ ys) h = grind (arith, nat_tests, none_above k ys)

  pub without_mid : (front back : List X) (x : X) → rises key (front ++ x ∷ back) ≡ true → filter (λ y. not (eqb (key y) (key x))) (front ++ x ∷ back) ≡ front ++ back
  without_mid [] back x h = grind (arith, nat_tests, none_above (key x) back)
  without_mid (z ∷ front) back x h = grind (arith, nat_tests, below_mid front back z x h, without_mid front back x)

-- the element after the front is set, removed or read at its place
pub set_mid : {X : Type 0} (front back : List X) (x y : X) → set (front ++ x ∷ back) (length front) y ≡ front ++ y ∷ back
set_mid [] back x y = refl
set_mid (z ∷ front) back x y = ap (λ l. z ∷ l) (set_mid front back x y)

pub remove_mid : {X : Type 0} (front back : List X) (x : X) → remove (front ++ x ∷ back) (length front) ≡ front ++ back
remove_mid [] back x = refl
remove_mid (z ∷ front) back x = ap (λ l. z ∷ l) (remove_mid front back x)

pub get_mid : {X : Type 0} (front back : List X) (x : X) → slice_get (front ++ x ∷ back) (length front) ≡ Some x
get_mid [] back x = refl
get_mid (z ∷ front) back x = get_mid front back x

module _ {X : Type 0} (P : X → Type 0) where
  pub each_mid : (front back : List X) (x : X) → AllByRecursion P (front ++ x ∷ back) → P x
  each_mid [] back x h = h.0
  each_mid (z ∷ front) back x h = each_mid front back x h.1

  pub each_with : (front back : List X) (x y : X) → AllByRecursion P (front ++ x ∷ back) → P y → AllByRecursion P (front ++ y ∷ back)
  each_with [] back x y h p = (p, h.1)
  each_with (z ∷ front) back x y h p = (h.0, each_with front back x y h.1 p)

  pub each_without : (front back : List X) (x : X) → AllByRecursion P (front ++ x ∷ back) → AllByRecursion P (front ++ back)
  each_without [] back x h = h.1
  each_without (z ∷ front) back x h = (h.0, each_without front back x h.1)

  -- of the elements of two lists in a row, and of those of either
  pub each_append : (xs ys : List X) → AllByRecursion P xs → AllByRecursion P ys → AllByRecursion P (xs ++ ys)
  each_append [] ys h k = k
  each_append (x ∷ xs) ys h k = (h.0, each_append xs ys h.1 k)

  pub each_left : (xs ys : List X) → AllByRecursion P (xs ++ ys) → AllByRecursion P xs
  each_left [] ys h = tt
  each_left (x ∷ xs) ys h = (h.0, each_left xs ys h.1)

  pub each_right : (xs ys : List X) → AllByRecursion P (xs ++ ys) → AllByRecursion P ys
  each_right [] ys h = h
  each_right (x ∷ xs) ys h = each_right xs ys h.1

  pub each_last : (xs : List X) (y : X) → AllByRecursion P xs → P y → AllByRecursion P (xs ++ y ∷ [])
  each_last [] y h p = (p, tt)
  each_last (x ∷ xs) y h p = (h.0, each_last xs y h.1 p)

-- what holds of each once all are mapped, and what follows from what holds of each
pub each_map : {X : Type 0} (P Q : X → Type 0) (f : X → X) → ((x : X) → P x → Q (f x)) → (xs : List X) → AllByRecursion P xs → AllByRecursion Q (map f xs)
each_map P Q f go [] h = tt
each_map P Q f go (x ∷ xs) h = (go x h.0, each_map P Q f go xs h.1)

pub each_still : {X : Type 0} (P Q : X → Type 0) → ((x : X) → P x → Q x) → (xs : List X) → AllByRecursion P xs → AllByRecursion Q xs
each_still P Q go [] h = tt
each_still P Q go (x ∷ xs) h = (go x h.0, each_still P Q go xs h.1)
