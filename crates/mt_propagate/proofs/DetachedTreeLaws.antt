-- Detached trees stay namespaces that are there.
use Rattle.std.proofs.Common.{◌≡◌, ◌≢◌, ℕ, ◌<◌, ◌==◌, true, not, eqb-true, eq-eqb, List, Option, Some, None, refl, sym, ap, ◌∙◌, arith}
use Rattle.std.specs.Prelude.{is_none, is_some}
use Rattle.std.proofs.lemmas.Bool.{true≢false}
use Rattle.std.proofs.lemmas.Bool.Decides.{nat_tests}
use Rattle.mt_skel.specs.Keyed.{among, rises, without}
use Rattle.mt_skel.specs.Skeleton.{Skeleton}
use Rattle.mt_skel.proofs.KeyedLaws.{rises-filter}
use Rattle.mt_skel.proofs.ElementLaws.{in_filter, in_any, any_in, row_in, in_found}
use Rattle.mt_mounts.specs.declared.mount.Mount.{Mount}
use Rattle.mt_mounts.specs.declared.mount.Place.{Place}
use Rattle.mt_mounts.specs.Forest.{id_of, mount_at, is_root, root_mount}
use Rattle.mt_mounts.proofs.ForestLaws.{find_row, find_passes}
use Rattle.mt_propagate.specs.World.{WorldView}
use Rattle.mt_propagate.specs.WellFormed.{IsForest, AreTrees, IsWellFormed}
use Rattle.mt_propagate.proofs.WalkLaws.{root_here}

pub no_place : (o : Option Place) → is_none o ≡ true → o ≡ None
no_place None e = refl
no_place (Some p) e = absurd (cc)

root_passes : (n : ℕ) (m : Mount) → m.place ≡ None → m.space ≡ n → is_root n m ≡ true
root_passes n m e s = grind (arith, nat_tests)

-- a namespace has a root mount
pub space_root : (ms : List Mount) → rises id_of ms ≡ true → (n : ℕ) → is_some (root_mount ms n) ≡ true → (r : Mount) × (mount_at ms r.id ≡ Some r) × (r.place ≡ None) × (r.space ≡ n)
space_root ms rising n is = by (root_mount ms n) refl is
  where
    by : (o : Option Mount) → root_mount ms n ≡ o → is_some o ≡ true → (r : Mount) × (mount_at ms r.id ≡ Some r) × (r.place ≡ None) × (r.space ≡ n)
    by None e f = absurd (cc)
    by (Some m) e f = let root = root_here n m (find_passes (is_root n) ms m e) in (m, find_row (is_root n) ms m rising e, no_place m.place root.0, root.1)

-- a detached tree has a number that was given out
pub tree_low : (w : WorldView) → IsWellFormed w → (k : ℕ) → among w.trees k ≡ true → k < w.next_space
tree_low w h k e = let r = space_root w.forest h.forest.rising k (h.trees.there k e) in let b = h.below r.0.id r.0 r.1 in omega (arith, b.3, r.3)

-- and where a namespace has a root mount, it is there
pub root_there : (ms : List Mount) (n j : ℕ) (r : Mount) → mount_at ms j ≡ Some r → r.place ≡ None → r.space ≡ n → is_some (root_mount ms n) ≡ true
root_there ms n j r e place space = let found = in_found (is_root n) ms r (row_in id_of j ms r e) (root_passes n r place space) in ap is_some found.1

-- the mounts ms become the mounts ns
module _ (s : Skeleton) (ms ns : List Mount) (rising : rises id_of ms ≡ true) (after : IsForest s ns) where
  -- a namespace stays where a mount of the root mount's namespace is there
  pub space-stays : (n : ℕ) → ((i : ℕ) (m : Mount) → mount_at ms i ≡ Some m → m.place ≡ None → m.space ≡ n → (j : ℕ) × (q : Mount) × (mount_at ns j ≡ Some q) × (q.space ≡ n))
      → is_some (root_mount ms n) ≡ true → is_some (root_mount ns n) ≡ true
  space-stays n stays is =
      let m = space_root ms rising n is in
      let q = stays m.0.id m.0 m.1 m.2 m.3 in
      let r = after.rooted q.0 q.1 q.2 in
      root_there ns n r.0 r.1 r.2 r.3 (r.4 ∙ q.3)

  -- and so do all detached trees where each root mount has such a mount
  pub trees_stay : ((i : ℕ) (m : Mount) → mount_at ms i ≡ Some m → m.place ≡ None → (j : ℕ) × (q : Mount) × (mount_at ns j ≡ Some q) × (q.space ≡ m.space))
      → (ts : List ℕ) → AreTrees ms ts → AreTrees ns ts
  trees_stay stays ts a = record {
    rising = a.rising;
    there = λ n e. space-stays n (λ i m at root here. let q = stays i m at root in (q.0, q.1, q.2, q.3 ∙ here)) (a.there n e);
  }

  -- also where one ends, if each other root mount has such a mount
  pub trees_left_stay : (gone : ℕ) → ((i : ℕ) (m : Mount) → mount_at ms i ≡ Some m → m.place ≡ None → m.space ≢ gone → (j : ℕ) × (q : Mount) × (mount_at ns j ≡ Some q) × (q.space ≡ m.space))
      → (ts : List ℕ) → AreTrees ms ts → AreTrees ns (without (λ k. k == gone) ts)
  trees_left_stay gone stays ts a = record {
    rising = rises-filter (λ k. k) (λ k. not (k == gone)) ts a.rising;
    there = λ n e.
        let x = in_any (λ k. k == n) (without (λ k. k == gone) ts) e in
        let kept = in_filter (λ k. not (k == gone)) x.0 ts x.1 in
        let same : x.0 ≡ n = eqb-true x.0 n x.2 in
        let there : among ts n ≡ true = any_in (λ k. k == n) x.0 ts kept.0 x.2 in
        let off : n ≢ gone = λ is. true≢false (sym kept.1 ∙ ap not (eq-eqb x.0 gone (same ∙ is))) in
        space-stays n (λ i m at root here. let q = stays i m at root (λ is. off (sym here ∙ is)) in (q.0, q.1, q.2, q.3 ∙ here)) (a.there n there);
  }
