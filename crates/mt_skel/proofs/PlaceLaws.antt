-- A row that is put in its place among keyed rows: before the first that has no lesser key.
use Rattle.std.proofs.Common.{◌≡◌, ℕ, suc, ◌+◌, ◌≤◌, Bool, true, false, cond, not, ◌==◌, ltb, nat_le, List, [], ◌∷◌, length, Some, None, slice_get, refl, ap, ◌∙◌, arith}
use Rattle.std.specs.List.{insert, remove, position_from, position_or_len}
use Rattle.std.specs.Option.{option_map_or, unwrap_or}
use Rattle.std.proofs.lemmas.Grind.{common_steps}
use Rattle.std.proofs.lemmas.Bool.Decides.{nat_tests}
use Rattle.std.proofs.lemmas.List.Sums.{prefix_len-le-length}
use Rattle.std.proofs.lemmas.Iterator.Adapters.{position_from-zero}
use Rattle.mt_skel.specs.Keyed.{put}

pub place-within : {X : Type 0} (p : X → Bool) (xs : List X) → position_or_len p xs ≤ length xs
place-within p xs = prefix_len-le-length _ xs

unwrap-within : (a n : ℕ) → a ≤ n → unwrap_or (cond (ltb a n) (Some a) None) n ≡ a
unwrap-within a n h = grind (arith, common_steps)

-- where the test passes first, or else the length
pub first-or-length : {X : Type 0} (p : X → Bool) (xs : List X) → unwrap_or (position_from p 0 xs) (length xs) ≡ position_or_len p xs
first-or-length p xs = rw (← position_from-zero p xs) (unwrap-within (position_or_len p xs) (length xs) (place-within p xs))

module _ {X : Type 0} (key : X → ℕ) where
  abbrev place : X → List X → ℕ
  place x xs = position_or_len (λ (y : X). nat_le (key x) (key y)) xs

  abbrev here : X → ℕ → List X → Bool
  here x n xs = option_map_or (λ (y : X). key y == key x) (slice_get xs n) false

  pull : (x y : X) (n : ℕ) (zs ys : List X) (b : Bool) → insert (cond b (y ∷ zs) (y ∷ ys)) (suc n) x ≡ y ∷ insert (cond b zs ys) n x
  pull x y n zs ys true = refl
  pull x y n zs ys false = refl

  -- a row with that key goes
  pub put_is : (x : X) (xs : List X) → insert (cond (here x (place x xs) xs) (remove xs (place x xs)) xs) (place x xs) x ≡ put key x xs
  put_is x [] = refl
  put_is x (y ∷ ys) = go (nat_le (key x) (key y)) refl (put_is x ys)
    where
      go : (le : Bool) → nat_le (key x) (key y) ≡ le
          → insert (cond (here x (place x ys) ys) (remove ys (place x ys)) ys) (place x ys) x ≡ put key x ys
          → insert (cond (here x (cond (not le) (1 + place x ys) 0) (y ∷ ys)) (remove (y ∷ ys) (cond (not le) (1 + place x ys) 0)) (y ∷ ys)) (cond (not le) (1 + place x ys) 0) x ≡ put key x (y ∷ ys)
      go true is ih = grind (arith, nat_tests)
      go false is ih =
          let n : ℕ = place x ys in
          let e : 1 + n ≡ suc n = omega arith in
          let behind : y ∷ put key x ys ≡ put key x (y ∷ ys) = grind (arith, nat_tests) in
          ap (λ m. insert (cond (here x m (y ∷ ys)) (remove (y ∷ ys) m) (y ∷ ys)) m x) e ∙ pull x y n (remove ys n) ys (here x n ys) ∙ ap (λ t. y ∷ t) ih ∙ behind
