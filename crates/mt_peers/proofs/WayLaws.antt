-- Ways up a chain, and the first number on it that passes a test.
use Rattle.std.proofs.Common.{◌≡◌, ℕ, zero, suc, ◌+◌, ◌-◌, ◌<◌, ◌≤◌, Bool, true, false, Option, Some, None, refl, arith, find}
use Rattle.std.proofs.lemmas.Bool.Decides.{nat_tests}
use Rattle.mt_skel.specs.Chain.{chain}
use Rattle.mt_peers.specs.Ways.{first_within, if_passes, IsAbove}

module _ (p : ℕ → Bool) (next : ℕ → Option ℕ) where
  pub above-join : (m u v : Option ℕ) (s t : ℕ) → IsAbove p next m u s → IsAbove p next u v t → IsAbove p next m v (s + t)
  above-join m u v s t a b k =
      let e : k - s - t ≡ k - (s + t) = omega arith in
      grind (arith, nat_tests, a k, b (k - s), e)

  -- what is left of a way, after its first part
  pub above-rest : (m u v : Option ℕ) (s r : ℕ) → IsAbove p next m v r → IsAbove p next m u s → s < r → IsAbove p next u v (r - s)
  above-rest m u v s r a b l j =
      let f : j + s - s ≡ j = omega arith in
      let e : j + s - r ≡ j - (r - s) = omega arith in
      grind (arith, nat_tests, a (j + s), b (j + s), f, e)

  -- what follows one that does not pass is a step above it
  pub above-once : (g : ℕ) → p g ≡ false → IsAbove p next (Some g) (next g) 1
  above-once g off zero = grind (arith, nat_tests)
  above-once g off (suc k) = let f : suc k - 1 ≡ k = omega arith in grind (arith, nat_tests, f)

  -- one that passes is the first
  pub passes-first : (k g : ℕ) → p g ≡ true → first_within p next k (Some g) ≡ Some g
  passes-first zero g on = grind arith
  passes-first (suc k) g on = grind arith

  -- what is below another one does not pass
  pub above-dead : (g r : ℕ) (v : Option ℕ) → IsAbove p next (Some g) v r → 0 < r → p g ≡ false
  above-dead g r v a l = grind (arith, nat_tests, a 0, passes-first 0 g)

  dead-end : (k u : ℕ) → p u ≡ false → next u ≡ None → first_within p next k (Some u) ≡ None
  dead-end k u off none = grind (arith, nat_tests, above-once u off k)

  pub first-near : (n g s : ℕ) (u : Option ℕ) → IsAbove p next (Some g) u s → s ≤ n → ((h : ℕ) → u ≡ Some h → p h ≡ false → next h ≡ None) → if_passes p u ≡ find p (chain next n g)
  first-near n g s None a l ended = grind (arith, nat_tests, a n)
  first-near n g s (Some h) a l ended = grind (arith, nat_tests, a n, passes-first (n - s) h, dead-end (n - s) h, ended h refl)
