-- How many of a list pass a test.
use Rattle.std.proofs.Common.{◌≡◌, ℕ, suc, ◌+◌, ◌≤◌, Bool, true, false, cond, ◌&&◌, ◌||◌, ◌==◌, List, [], ◌∷◌, ◌++◌, map, length, Option, refl, ap, arith}
use Rattle.std.specs.Prelude.{nat_lt}
use Rattle.std.specs.List.{list_any, list_all, filter, filter_map}
use Rattle.std.specs.Option.{option_map_or}
use Rattle.std.proofs.lemmas.Bool.Decides.{nat_tests}
use Rattle.mt_skel.specs.Keyed.{row_at, rises}
use Rattle.mt_skel.specs.Counted.{count, occ}

pub count-same : {X : Type 0} (s t : X → Bool) → ((x : X) → s x ≡ t x) → (xs : List X) → count s xs ≡ count t xs
count-same s t same [] = refl
count-same s t same (x ∷ xs) = grind (arith, same x, count-same s t same xs)

-- what passes one of two tests that do not hold both
pub count-or : {X : Type 0} (f a b : X → Bool) → ((x : X) → f x ≡ (a x || b x)) → ((x : X) → (a x && b x) ≡ false) → (xs : List X) → count f xs ≡ count a xs + count b xs
count-or f a b either apart [] = refl
count-or f a b either apart (x ∷ xs) = grind (arith, either x, apart x, count-or f a b either apart xs)

-- what passes a test passes one of two others
pub count-le-or : {X : Type 0} (f a b : X → Bool) → ((x : X) → f x ≡ true → (a x || b x) ≡ true) → (xs : List X) → count f xs ≤ count a xs + count b xs
count-le-or f a b either [] = omega arith
count-le-or f a b either (x ∷ xs) = grind (arith, either x, count-le-or f a b either xs)

pub count-le : {X : Type 0} (f a : X → Bool) → ((x : X) → f x ≡ true → a x ≡ true) → (xs : List X) → count f xs ≤ count a xs
count-le f a more [] = omega arith
count-le f a more (x ∷ xs) = grind (arith, more x, count-le f a more xs)

pub count-length : {X : Type 0} (t : X → Bool) (xs : List X) → count t xs ≤ length xs
count-length t [] = omega arith
count-length t (x ∷ xs) = grind (arith, count-length t xs)

pub count-append : {X : Type 0} (t : X → Bool) (xs ys : List X) → count t (xs ++ ys) ≡ count t xs + count t ys
count-append t [] ys = omega arith
count-append t (x ∷ xs) ys = grind (arith, count-append t xs ys)

-- how many pass of a list that is mapped, and of one that is filtered
pub count-map : {X Y : Type 0} (t : Y → Bool) (f : X → Y) (xs : List X) → count t (map f xs) ≡ count (λ x. t (f x)) xs
count-map t f [] = refl
count-map t f (x ∷ xs) = ap (λ n. cond (t (f x)) (suc n) n) (count-map t f xs)

pub count-filter : {X : Type 0} (t s : X → Bool) (xs : List X) → count t (filter s xs) ≡ count (λ x. s x && t x) xs
count-filter t s [] = refl
count-filter t s (x ∷ xs) = grind (arith, count-filter t s xs)

-- and how long such lists are
pub length-filter : {X : Type 0} (s : X → Bool) (xs : List X) → length (filter s xs) ≡ count s xs
length-filter s [] = refl
length-filter s (x ∷ xs) = grind (arith, length-filter s xs)

pub length-of-map : {X Y : Type 0} (f : X → Y) (xs : List X) → length (map f xs) ≡ length xs
length-of-map f [] = refl
length-of-map f (x ∷ xs) = ap suc (length-of-map f xs)

-- an optional number is this one
abbrev pub is_next : Option ℕ → ℕ → Bool
is_next o n = option_map_or (λ k. k == n) o false

pub occ-filter_map : {X : Type 0} (h : ℕ) (f : X → Option ℕ) (xs : List X) → occ h (filter_map f xs) ≡ count (λ x. is_next (f x) h) xs
occ-filter_map h f [] = refl
occ-filter_map h f (x ∷ xs) = grind (arith, occ-filter_map h f xs)

pub length-filter_map : {X : Type 0} (f : X → Option ℕ) (xs : List X) → length (filter_map f xs) ≤ length xs
length-filter_map f [] = omega arith
length-filter_map f (x ∷ xs) = grind (arith, length-filter_map f xs)

-- what stands once or never
pub any-is : {X : Type 0} (t : X → Bool) (xs : List X) (b : Bool) → count t xs ≡ cond b 1 0 → list_any t xs ≡ b
any-is t [] b e = grind arith
any-is t (x ∷ xs) b e = grind (arith, any-is t xs b)

pub any-some : {X : Type 0} (t : X → Bool) (xs : List X) → list_any t xs ≡ true → 1 ≤ count t xs
any-some t [] e = absurd (cc)
any-some t (x ∷ xs) e = grind (arith, any-some t xs)

pub any-zero : {X : Type 0} (t : X → Bool) (xs : List X) → count t xs ≡ 0 → list_any t xs ≡ false
any-zero t xs e = any-is t xs false e

-- among rows that rise, how many of one key pass a test
module _ {X : Type 0} (key : X → ℕ) (t : X → Bool) (q : ℕ) where
  none-above : (xs : List X) → list_all (λ y. nat_lt q (key y)) xs ≡ true → count (λ x. (key x == q) && t x) xs ≡ 0
  none-above [] up = refl
  none-above (x ∷ xs) up = grind (arith, nat_tests, none-above xs)

  pub count-row : (xs : List X) → rises key xs ≡ true → count (λ x. (key x == q) && t x) xs ≡ option_map_or (λ x. cond (t x) 1 0) (row_at key q xs) 0
  count-row [] up = refl
  count-row (x ∷ xs) up =
      let none : key x ≡ q → count (λ x. (key x == q) && t x) xs ≡ 0 = λ e. none-above xs (rw (← e) (grind (arith, nat_tests))) in
      grind (arith, nat_tests, count-row xs, none)
