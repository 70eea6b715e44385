-- A well-formed world stays so where all mounts of a namespace vanish, and what their end, done mount by mount, makes of it.
use Rattle.std.proofs.Common.{◌≡◌, ℕ, Bool, not, ◌==◌, map, Some, sym, ap, ◌∙◌, ◌≤◌, true, false, List, None, refl, arith}
use Rattle.std.specs.Prelude.{unwrap_or}
use Rattle.std.specs.List.{filter, AllByRecursion}
use Rattle.std.specs.Option.{option_map}
use Rattle.std.proofs.lemmas.Bool.Decides.{nat_tests}
use Rattle.mt_skel.specs.Keyed.{without, among}
use Rattle.mt_skel.specs.Skeleton.{directory}
use Rattle.mt_mounts.specs.declared.mount.Mount.{Mount}
use Rattle.mt_mounts.specs.Forest.{id_of, mount_at, is_root, root_mount}
use Rattle.mt_mounts.proofs.ForestLaws.{find_row, find_passes}
use Rattle.mt_peers.specs.declared.state.State.{State}
use Rattle.mt_peers.specs.Peers.{mount_of, state_at}
use Rattle.mt_peers.specs.Loss.{left}
use Rattle.mt_peers.proofs.LeavingLaws.{left-IsPeering}
use Rattle.mt_peers.proofs.AlikeLaws.{IsAlike, left-IsAlike, same-IsAlike}
use Rattle.mt_propagate.specs.World.{WorldView, space_of, is_space, with_ended_tree}
use Rattle.mt_propagate.specs.WellFormed.{IsForest, AreTrees, IsWellFormed, fs_at}
use Rattle.mt_skel.proofs.KeyedLaws.{rises-filter}
use Rattle.mt_skel.proofs.ElementLaws.{in_any, any_in, in_filter}
use Rattle.mt_skel.proofs.MiddleLaws.{each_still}
use Rattle.mt_propagate.proofs.RowLaws.{filter-same, found-each, kept-row, row-kept, keys-filter}
use Rattle.mt_propagate.proofs.TreeLaws.{forest_without}
use Rattle.mt_propagate.proofs.ShownLaws.{shown-alike, groups-show, masters-show, left-mounts, state-mount}
use Rattle.mt_propagate.specs.Carried.{staying}
use Rattle.mt_propagate.proofs.WalkLaws.{root_here}
use Rattle.mt_propagate.proofs.DetachedTreeLaws.{space-stays}
use Rattle.mt_bind.specs.Spaces.{without_space, originals}
use Rattle.mt_bind.specs.Dropping.{without_mounts}
use Rattle.mt_bind.proofs.MemberLaws.{among_passing}

module _ (w : WorldView) (h : IsWellFormed w) (n : ℕ) where
  abbrev gone : Mount → Bool
  gone m = m.space == n

  abbrev leaves : ℕ → Bool
  leaves i = space_of w i == n

  -- a mount that is left was there
  pub stays : (i : ℕ) (m : Mount) → mount_at (without gone w.forest) i ≡ Some m → mount_at w.forest i ≡ Some m
  stays i m e = (kept-row id_of gone w.forest h.forest.rising i m e).0

  -- those that vanish are those whose states leave
  pub agree : AllByRecursion (λ m. not (gone m) ≡ not (leaves m.id)) w.forest
  agree =
      each_still (λ m. mount_at w.forest m.id ≡ Some m) (λ m. not (gone m) ≡ not (leaves m.id))
      (λ m e. ap (λ o. not (unwrap_or (option_map (λ (m : Mount). m.space) o) 0 == n)) (sym e)) w.forest (found-each id_of w.forest h.forest.rising)

  same_ids : map id_of (without gone w.forest) ≡ map mount_of (left leaves w.peering).peers
  same_ids =
      ap (map id_of) (filter-same (λ m. not (gone m)) (λ m. not (leaves m.id)) w.forest agree)
      ∙ keys-filter id_of (λ i. not (leaves i)) w.forest ∙ ap (filter (λ i. not (leaves i))) h.same_mounts ∙ sym (left-mounts leaves w.peering)

  -- the mounts that are left show what they showed
  same_fs : (i : ℕ) (s : State) → state_at (left leaves w.peering).peers i ≡ Some s → fs_at (without_space w n) i ≡ fs_at w i
  unfolding without_space
  same_fs i s e =
      let m = state-mount (without gone w.forest) (left leaves w.peering).peers i s same_ids e in
      ap (λ o. (directory w.skel (unwrap_or (option_map (λ (m : Mount). m.root) o) 0)).fs) (m.1 ∙ sym (stays i m.0 m.1))

  alike : IsAlike (fs_at (without_space w n)) (without_space w n).peering.peers
  unfolding without_space
  alike =
      same-IsAlike (fs_at w) (fs_at (without_space w n)) (left leaves w.peering).peers same_fs
      (left-IsAlike (fs_at w) w.peering h.peering (shown-alike w h) leaves)

  left_forest : IsForest w.skel (without gone w.forest)
  left_forest = forest_without w.skel w.forest h.forest gone (λ m o same. ap (λ k. k == n) same)

  -- a detached tree that is left was there, and is another one
  tree_left : (k : ℕ) → among (without (λ j. j == n) w.trees) k ≡ true → (among w.trees k ≡ true) × ((k == n) ≡ false)
  tree_left k e =
      let a = in_any (λ j. j == k) (without (λ j. j == n) w.trees) e in
      let b = in_filter (λ j. not (j == n)) a.0 w.trees a.1 in
      (any_in (λ j. j == k) a.0 w.trees b.0 a.2, grind (arith, nat_tests, a.2, b.1))

  left_trees : AreTrees (without gone w.forest) (without (λ j. j == n) w.trees)
  left_trees = record {
    rising = rises-filter (λ k. k) (λ j. not (j == n)) w.trees h.trees.rising;
    there = λ k e.
        let t = tree_left k e in
        space-stays w.skel w.forest (without gone w.forest) h.forest.rising left_forest k
        (λ i m at root here. (i, m, row-kept id_of gone w.forest h.forest.rising i m (ap (λ s. s == n) here ∙ t.1) at, here)) (h.trees.there k t.0);
  }

  -- the end of a namespace keeps a world well-formed
  pub end-kept : IsWellFormed (without_space w n)
  unfolding without_space
  end-kept = record {
    forest = left_forest;
    peering = left-IsPeering w.peering h.peering leaves;
    same_mounts = same_ids;
    from_one = h.from_one;
    below = λ i m e. h.below i m (stays i m e);
    group_fs = groups-show (without_space w n) alike;
    master_fs = masters-show (without_space w n) alike;
    trees = left_trees;
  }

-- the end done mount by mount
module _ (w : WorldView) (h : IsWellFormed w) (n : ℕ) where
  -- a namespace that is there has a number from 1 on
  from-one : is_space w n ≡ true → 1 ≤ n
  from-one is = elim (root_mount w.forest n) as (λ o. root_mount w.forest n ≡ o → 1 ≤ n) [
    | None ↦ λ e. absurd (grind (arith, is, e))
    | Some r ↦ λ e. omega (arith, (h.below r.id r (find_row (is_root n) w.forest r h.forest.rising e)).2, (root_here n r (find_passes (is_root n) w.forest r e)).1)
  ] refl

  among-space : 1 ≤ n → (i : ℕ) → among (map id_of (originals w n)) i ≡ (space_of w i == n)
  among-space one i = grind (arith, nat_tests, among_passing (λ (m : Mount). m.space == n) w.forest h.forest.rising i)

  -- a world without the mounts of a namespace is one without the namespace
  without-is : is_space w n ≡ true → (ids : List ℕ) → ids ≡ map id_of (originals w n) → with_ended_tree (without_mounts w ids) n ≡ without_space w n
  unfolding without_space
  without-is is ids e =
      let same : among (map id_of (originals w n)) ≡ (λ i. space_of w i == n) = λ i j. among-space (from-one is) j i in
      let forest : staying (map id_of (originals w n)) w.forest ≡ without (λ (m : Mount). m.space == n) w.forest =
      ap (λ (t : ℕ → Bool). without (λ (m : Mount). t m.id) w.forest) same ∙ sym (filter-same (λ (m : Mount). not (m.space == n)) (λ (m : Mount). not (space_of w m.id == n)) w.forest (agree w h n)) in
      ap (λ (l : List ℕ). with_ended_tree (without_mounts w l) n) e ∙ (λ i. record w { forest = forest i; peering = left (same i) w.peering; trees = without (λ k. k == n) w.trees })

  -- and so is what has become of the namespace, in a world that was still the same
  pub is_dropped : is_space w n ≡ true → (u v : WorldView) (ids : List ℕ) → u ≡ w → ids ≡ map id_of (originals w n) → v ≡ with_ended_tree (without_mounts u ids) n → without_space w n ≡ v
  is_dropped is u v ids still e made = sym (made ∙ ap (λ (x : WorldView). with_ended_tree (without_mounts x ids) n) still ∙ without-is is ids e)
