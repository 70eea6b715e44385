-- The rows of a desk, and the watchers of its floor.
use Rattle.std.proofs.Common.{◌≡◌, ℕ, Bool, true, false, cond, not, eqb, ltb, List, [], ◌∷◌, map, Some, refl, ap, subst, arith}
use Rattle.std.specs.Prelude.{◌==◌}
use Rattle.std.specs.List.{filter, list_all, AllByRecursion}
use Rattle.std.specs.Option.{option_map}
use Rattle.std.proofs.lemmas.Bool.Decides.{nat_tests}
use Rattle.mt_skel.specs.Keyed.{row_at, put, without, rises}
use Rattle.mt_skel.proofs.KeyedLaws.{row_at-put, row_at-key, rises-put, same_rows}
use Rattle.mt_floor.specs.Watcher.{Watcher, watcher_key}
use Rattle.mt_desk.specs.Desk.{DeskRow, row_key, late_watcher}

-- ---- Keyed rows of which one is put in the place of another

module _ {X : Type 0} (key : X → ℕ) where
  -- a row in its own place
  pub put_back : (k : ℕ) (x : X) (xs : List X) → rises key xs ≡ true → row_at key k xs ≡ Some x → put key x xs ≡ xs
  put_back k x xs rising at = same_rows key (put key x xs) xs (rises-put key x xs rising) rising (λ q. grind (arith, nat_tests, row_at-put key q x xs, row_at-key key k xs x at, at))

  -- the second of two rows with one key
  pub put_twice : (x y : X) (xs : List X) → key y ≡ key x → put key y (put key x xs) ≡ put key y xs
  put_twice x y [] same = grind (arith, nat_tests)
  put_twice x y (z ∷ zs) same = grind (arith, nat_tests, put_twice x y zs)

  -- the row goes, whichever was put there
  pub without_put : (k : ℕ) (x : X) (xs : List X) → key x ≡ k → filter (λ y. not (eqb (key y) k)) (put key x xs) ≡ filter (λ y. not (eqb (key y) k)) xs
  without_put k x [] same = grind (arith, nat_tests)
  without_put k x (z ∷ zs) same = grind (arith, nat_tests, without_put k x zs)

-- ---- The watchers of rows

module _ (c : ℕ) where
  -- the watcher of a key is that of its row
  pub watcher_there : (k : ℕ) (rs : List DeskRow) (r : DeskRow) → row_at row_key k rs ≡ Some r → row_at watcher_key k (map (late_watcher c) rs) ≡ Some (late_watcher c r)
  watcher_there k [] r at = absurd cc
  watcher_there k (q ∷ rs) r at =
      elim (eqb k q.key) as (λ b. cond b (Some q) (row_at row_key k rs) ≡ Some r → cond b (Some (late_watcher c q)) (row_at watcher_key k (map (late_watcher c) rs)) ≡ Some (late_watcher c r)) [
        | true ↦ ap (option_map (late_watcher c))
        | false ↦ watcher_there k rs r
      ] at

  -- a row put among them, or taken out, is a watcher put or taken out
  pub put_watchers : (r : DeskRow) (rs : List DeskRow) → map (late_watcher c) (put row_key r rs) ≡ put watcher_key (late_watcher c r) (map (late_watcher c) rs)
  put_watchers r [] = refl
  put_watchers r (q ∷ rs) = grind (arith, nat_tests, put_watchers r rs)

  pub without_watchers : (k : ℕ) (rs : List DeskRow)
      → map (late_watcher c) (without (λ (r : DeskRow). r.key == k) rs) ≡ without (λ (w : Watcher). w.key == k) (map (late_watcher c) rs)
  without_watchers k [] = refl
  without_watchers k (r ∷ rs) = grind (arith, nat_tests, without_watchers k rs)

  -- they rise as their rows do
  above_watchers : (k : ℕ) (rs : List DeskRow) → list_all (λ w. ltb k (watcher_key w)) (map (late_watcher c) rs) ≡ list_all (λ r. ltb k (row_key r)) rs
  above_watchers k [] = refl
  above_watchers k (r ∷ rs) = rw (above_watchers k rs) refl

  pub rises_watchers : (rs : List DeskRow) → rises watcher_key (map (late_watcher c) rs) ≡ rises row_key rs
  rises_watchers [] = refl
  rises_watchers (r ∷ rs) = rw (above_watchers r.key rs, rises_watchers rs) refl

-- ---- What is true of each row

module _ (P : DeskRow → Type 0) where
  pub each_at : (k : ℕ) (rs : List DeskRow) (r : DeskRow) → AllByRecursion P rs → row_at row_key k rs ≡ Some r → P r
  each_at k [] r all at = absurd cc
  each_at k (q ∷ rs) r all at =
      elim (eqb k q.key) as (λ b. cond b (Some q) (row_at row_key k rs) ≡ Some r → P r) [ true ↦ λ e. (let same : q ≡ r = cc in subst P same all.0) | false ↦ each_at k rs r all.1 ] at

  pub each_put : (r : DeskRow) (rs : List DeskRow) → AllByRecursion P rs → P r → AllByRecursion P (put row_key r rs)
  each_put r [] all p = (p, tt)
  each_put r (q ∷ rs) all p =
      elim (ltb r.key q.key) as (λ b. AllByRecursion P (cond b (r ∷ q ∷ rs) (cond (eqb r.key q.key) (r ∷ rs) (q ∷ put row_key r rs)))) [
        | true ↦ (p, all)
        | false ↦ elim (eqb r.key q.key) as (λ b. AllByRecursion P (cond b (r ∷ rs) (q ∷ put row_key r rs))) [ true ↦ (p, all.1) | false ↦ (all.0, each_put r rs all.1 p) ]
      ]

  pub each_without : (t : DeskRow → Bool) (rs : List DeskRow) → AllByRecursion P rs → AllByRecursion P (without t rs)
  each_without t [] all = tt
  each_without t (r ∷ rs) all = elim (t r) as (λ b. AllByRecursion P (cond (not b) (r ∷ without t rs) (without t rs))) [ true ↦ each_without t rs all.1 | false ↦ (all.0, each_without t rs all.1) ]
