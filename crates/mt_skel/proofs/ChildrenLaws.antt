-- The directories in a directory: after a change of one table, and after one table more.
use Rattle.std.proofs.Common.{◌≡◌, ℕ, zero, suc, ◌<◌, ◌==◌, ◌&&◌, cond, List, [], ◌∷◌, ◌++◌, length, map, get_or, slice_set, Some, refl, ap, arith}
use Rattle.std.proofs.lemmas.Bool.Decides.{nat_tests}
use Rattle.std.specs.List.{AllZip}
use Rattle.std.specs.Map.{lookup}
use Rattle.std.specs.Str.{bytes_eq}
use Rattle.mt_skel.specs.Children.{child_in}

module _ {X : Type 0} (names : X → List (List ℕ × ℕ)) where
  -- tables with the same names and numbers
  pub copied_names : (R : X → X → Type 0) → ((x y : X) → R x y → names y ≡ names x) → (xs ys : List X) → AllZip R xs ys → map names ys ≡ map names xs
  copied_names R same [] [] all = refl
  copied_names R same [] (y ∷ ys) all = absurd all
  copied_names R same (x ∷ xs) [] all = absurd all
  copied_names R same (x ∷ xs) (y ∷ ys) all = grind (arith, same x y all.0, copied_names R same xs ys all.1)

  -- a table that is exchanged for one that says the same
  pub unchanged_names : (xs : List X) (i : ℕ) (x y : X) → x ≡ get_or xs i x → names y ≡ names x → map names (slice_set xs i y) ≡ map names xs
  unchanged_names [] i x y at same = refl
  unchanged_names (z ∷ xs) zero x y at same = grind arith
  unchanged_names (z ∷ xs) (suc i) x y at same = grind (arith, unchanged_names xs i x y at same)

  -- one table more, which is empty
  rooted : (xs : List X) (new : X) (d : ℕ) (other : List ℕ) → names new ≡ [] → child_in (map names (xs ++ new ∷ [])) d other ≡ child_in (map names xs) d other
  rooted [] new zero other e = ap (lookup (bytes_eq other)) e
  rooted [] new (suc d) other e = refl
  rooted (x ∷ xs) new zero other e = refl
  rooted (x ∷ xs) new (suc d) other e = rooted xs new d other e

  -- one name more in a table, and one table more
  pub grown : (xs : List X) (dir : ℕ) (x y new : X) (name : List ℕ) (number : ℕ) → dir < length xs → x ≡ get_or xs dir x
      → ((q : List ℕ) → lookup (bytes_eq q) (names y) ≡ cond (bytes_eq name q) (Some number) (lookup (bytes_eq q) (names x))) → names new ≡ []
      → (d : ℕ) (other : List ℕ) → child_in (map names (slice_set xs dir y ++ new ∷ [])) d other ≡ cond ((dir == d) && bytes_eq name other) (Some number) (child_in (map names xs) d other)
  grown [] dir x y new name number l at more none d other = absurd (omega (arith, l))
  grown (z ∷ xs) zero x y new name number l at more none zero other = grind (arith, more other, at)
  grown (z ∷ xs) zero x y new name number l at more none (suc d) other = grind (arith, nat_tests, rooted xs new d other none)
  grown (z ∷ xs) (suc dir) x y new name number l at more none zero other = grind (arith, nat_tests)
  grown (z ∷ xs) (suc dir) x y new name number l at more none (suc d) other = grind (arith, nat_tests, grown xs dir x y new name number (omega (arith, l)) at more none d other)
