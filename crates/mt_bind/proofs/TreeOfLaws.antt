-- Which mounts are below a mount, and the way up from them; such trees are source trees, and one with all below its top may move.
use Rattle.std.proofs.Common.{◌≡◌, ◌≢◌, ℕ, ◌<◌, true, false, List, length, Some, None, refl, sym, ap, ◌∙◌, subst, IsTrue, zero, suc, ◌≤◌, Bool, not, ◌==◌, eqb, eqb-true, eq-eqb, [], ◌∷◌, inl, arith}
use Rattle.std.specs.Prelude.{is_none}
use Rattle.std.specs.List.{filter, take_while}
use Rattle.std.proofs.lemmas.Bool.{true≢false, ne_eqb}
use Rattle.std.specs.Option.{option_map, option_map_or}
use Rattle.std.proofs.lemmas.Bool.Decides.{nat_tests}
use Rattle.std.proofs.lemmas.List.Sums.{take_while-cons}
use Rattle.mt_skel.specs.Keyed.{rises}
use Rattle.mt_skel.specs.Skeleton.{directory, holds}
use Rattle.mt_skel.proofs.KeyedLaws.{row_at-key, rises-filter}
use Rattle.mt_skel.specs.Chain.{chain}
use Rattle.mt_skel.proofs.ChainLaws.{chain-step}
use Rattle.mt_skel.proofs.ElementLaws.{in_any, chain_low}
use Rattle.mt_mounts.specs.declared.mount.Mount.{Mount}
use Rattle.mt_mounts.specs.declared.mount.Place.{Place}
use Rattle.mt_mounts.specs.Forest.{id_of, mount_at, is_below, parent}
use Rattle.mt_mounts.proofs.SlotLaws.{none_found}
use Rattle.mt_mounts.proofs.CycleLaws.{no_cycle, rank_of, rank_falls, above_of}
use Rattle.mt_mounts.proofs.Walks.{below_here, below_stop}
use Rattle.mt_propagate.specs.World.{WorldView}
use Rattle.mt_propagate.specs.Named.{mount_or_unknown}
use Rattle.mt_propagate.specs.WellFormed.{IsWellFormed, fs_at}
use Rattle.mt_propagate.specs.Sound.{IsTree, IsSource}
use Rattle.mt_propagate.proofs.CopyRowLaws.{root_is}
use Rattle.mt_propagate.proofs.RowLaws.{picked-row, row-picked}
use Rattle.mt_propagate.proofs.TreeLaws.{parent-is, parent-from}
use Rattle.mt_bind.specs.Sources.{tree_of, path_to}

module _ (w : WorldView) (top : ℕ) where
  abbrev pub off_top : ℕ → Bool
  off_top k = not (k == top)

  -- the mounts that this many steps from j pass below the top
  abbrev pub way : ℕ → ℕ → List ℕ
  way n j = take_while off_top (chain (parent w.forest) n j)

  -- the way from the top is empty, and from any other mount it begins with the mount
  stop : (j : ℕ) (rest : List ℕ) → j ≡ top → take_while off_top (j ∷ rest) ≡ []
  stop j rest e = rw (take_while-cons off_top j rest, eq-eqb j top e) refl

  pub more : (j : ℕ) (rest : List ℕ) → j ≢ top → take_while off_top (j ∷ rest) ≡ j ∷ take_while off_top rest
  more j rest e = rw (take_while-cons off_top j rest, ne_eqb j top e) refl

  pub way_here : (n j : ℕ) → j ≡ top → way n j ≡ []
  way_here zero j e = stop j [] e
  way_here (suc n) j e = stop j (option_map_or (λ y. chain (parent w.forest) n y) (parent w.forest j) []) e

  pub way_step : (n j q : ℕ) → j ≢ top → parent w.forest j ≡ Some q → way (suc n) j ≡ j ∷ way n q
  way_step n j q ne up = rw up (more j _ ne)

module _ (w : WorldView) (h : IsWellFormed w) where
  pub below_self : (i : ℕ) → is_below w.forest i i ≡ true
  below_self i = below_here w.forest i (length w.forest) i refl

  -- any other mount is below where its parent is
  pub below_parent : (i x y : ℕ) → x ≢ i → parent w.forest x ≡ Some y → is_below w.forest i x ≡ is_below w.forest i y
  below_parent i x y ne e = rw (chain-step (parent w.forest) (length w.forest) x y e (h.forest.no_cycle x), ne_eqb i x (λ s. ne (sym s))) refl

  -- and has one
  pub below_has_parent : (i x : ℕ) (m : Mount) → x ≢ i → mount_at w.forest x ≡ Some m → is_below w.forest i x ≡ true → (p : Place) × (m.place ≡ Some p)
  below_has_parent i x m ne row b = elim m.place as (λ o. m.place ≡ o → (p : Place) × (o ≡ Some p)) [
    | Some p ↦ λ e. (p, refl)
    | None ↦ λ e. absurd (let none = below_stop w.forest i (length w.forest) x (ap above_of row ∙ ap (option_map (λ (p : Place). p.mount)) e) in grind (arith, nat_tests))
  ] refl

  -- what is below i is no higher
  pub below_rank : (i x : ℕ) → is_below w.forest i x ≡ true → rank_of w.forest i ≤ rank_of w.forest x
  below_rank i x b =
      let m = in_any (λ k. eqb i k) (chain (parent w.forest) (length w.forest) x) b in
      rw (eqb-true i m.0 m.2) (chain_low (parent w.forest) (rank_of w.forest) (rank_falls w.forest h.forest.no_cycle) (length w.forest) x m.0 m.1)

  -- a parent of i is not below it
  pub above_not_below : (i : ℕ) (m : Mount) (p : Place) → mount_at w.forest i ≡ Some m → m.place ≡ Some p → is_below w.forest i p.mount ≡ true → ⊥
  above_not_below i m p row at b = absurd (omega (arith, rank_falls w.forest h.forest.no_cycle i p.mount (parent-is w.forest i m p row at), below_rank i p.mount b))

  -- so is it along all mounts above
  pub path_top : (i : ℕ) → path_to w i i ≡ []
  path_top i = way_here w i (length w.forest) i refl

  pub path_step : (i x y : ℕ) → x ≢ i → parent w.forest x ≡ Some y → path_to w i x ≡ x ∷ path_to w i y
  path_step i x y ne e = ap (take_while (off_top w i)) (chain-step (parent w.forest) (length w.forest) x y e (h.forest.no_cycle x)) ∙ more w i x _ ne

-- mounts that are one tree below a top
module _ (w : WorldView) (h : IsWellFormed w) (ms : List Mount) (top : Mount) (rising : rises id_of ms ≡ true) (there : mount_at ms top.id ≡ Some top)
    (origin : (i : ℕ) (m : Mount) → mount_at ms i ≡ Some m → (q : Mount) × (mount_at w.forest i ≡ Some q) × (q.place ≡ m.place) × (m.root < length w.skel.directories))
    (inside : (i : ℕ) (m : Mount) → mount_at ms i ≡ Some m → i ≢ top.id → (p : Place) × (q : Mount) × (m.place ≡ Some p) × (mount_at ms p.mount ≡ Some q) × IsTrue (holds w.skel q.root p.dir))
    (outside : (p : Place) → top.place ≡ Some p → mount_at ms p.mount ≡ None) where
  falls : (x y : ℕ) (a : Mount) (p : Place) → mount_at ms x ≡ Some a → a.place ≡ Some p → p.mount ≡ y → rank_of w.forest y < rank_of w.forest x
  falls x y a p e at on =
      let o = origin x a e in
      rank_falls w.forest h.forest.no_cycle x y (parent-is w.forest x o.0 p o.1 (o.2 ∙ at) ∙ ap (λ v. Some v) on)

  pub part_tree : IsTree w.skel ms top
  part_tree = record {
    rising = rising;
    top_there = there;
    top_outside = outside;
    placed = inside;
    apart = λ i j m n p ei ej at_i at_j.
        let a = origin i m ei in
        let b = origin j n ej in
        h.forest.apart i j a.0 b.0 p a.1 b.1 (a.2 ∙ at_i) (b.2 ∙ at_j);
    no_cycle = no_cycle ms (rank_of w.forest) (λ x y e. let r = parent-from ms x y e in falls x y r.0 r.1 r.2 r.3 r.4);
    roots = λ i m e. let o = origin i m e in o.3;
  }

-- a mount with all below it
module _ (w : WorldView) (h : IsWellFormed w) (i : ℕ) (q : Mount) (row : mount_at w.forest i ≡ Some q) where
  abbrev below : Mount → Bool
  below m = is_below w.forest i m.id

  abbrev ms : List Mount
  ms = filter (λ m. is_below w.forest i m.id) w.forest

  from_row : (j : ℕ) (m : Mount) → mount_at ms j ≡ Some m → (mount_at w.forest j ≡ Some m) × (is_below w.forest i j ≡ true)
  from_row j m e = let r = picked-row id_of below w.forest h.forest.rising j m e in (r.0, ap (is_below w.forest i) (sym (row_at-key id_of j w.forest m r.0)) ∙ r.1)

  to_row : (j : ℕ) (m : Mount) → mount_at w.forest j ≡ Some m → is_below w.forest i j ≡ true → mount_at ms j ≡ Some m
  to_row j m e b = row-picked id_of below w.forest h.forest.rising j m (ap (is_below w.forest i) (row_at-key id_of j w.forest m e) ∙ b) e

  own : q.id ≡ i
  own = row_at-key id_of i w.forest q row

  inside : (j : ℕ) (m : Mount) → mount_at ms j ≡ Some m → j ≢ q.id → (p : Place) × (u : Mount) × (m.place ≡ Some p) × (mount_at ms p.mount ≡ Some u) × IsTrue (holds w.skel u.root p.dir)
  inside j m e ne =
      let x = from_row j m e in
      let off : j ≢ i = (λ s. ne (s ∙ sym own)) in
      let p = below_has_parent w h i j m off x.0 x.1 in
      let u = h.forest.placed j m p.0 x.0 p.1 in
      let b = sym (below_parent w h i j p.0.mount off (parent-is w.forest j m p.0 x.0 p.1)) ∙ x.1 in
      (p.0, u.0, p.1, to_row p.0.mount u.0 u.1 b, u.3)

  tree : IsTree w.skel ms q
  tree =
      part_tree w h ms q (rises-filter id_of below w.forest h.forest.rising) (ap (mount_at ms) own ∙ to_row i q row (below_self w h i))
      (λ j m e. let x = from_row j m e in let b = h.below j m x.0 in (m, x.0, refl, b.4))
      inside
      (λ p at. none_found _ (λ x e. let r = from_row p.mount x e in above_not_below w h i q p row at r.1))

  top_is : mount_or_unknown w i ≡ q
  top_is = rw row refl

  shows_same : (j : ℕ) (m : Mount) → mount_at ms j ≡ Some m → (directory w.skel m.root).fs ≡ fs_at w j
  shows_same j m e = ap (λ r. (directory w.skel r).fs) (sym (root_is w j m (from_row j m e).0))

  pub tree_source : (dest : Place) → is_none (mount_or_unknown w i).place ≡ false → ((u : Mount) → mount_at w.forest dest.mount ≡ Some u → u.space ≡ q.space) → is_below w.forest i dest.mount ≡ false
      → IsSource w (tree_of w i) dest
  tree_source dest placed space off = record {
    tree = subst (IsTree w.skel ms) (sym top_is) tree;
    group_fs = λ j g m e is. shows_same j m e;
    master_fs = λ j g m e is. shows_same j m e;
    moves = λ _. record {
      known = λ j m e. (from_row j m e).0;
      home = inl (record { placed = λ e. true≢false (sym (ap is_none e) ∙ placed); same_space = λ u e. space u e ∙ ap (λ (m : Mount). m.space) (sym top_is) });
      outside = ap (λ k. is_below w.forest k dest.mount) (ap (λ (m : Mount). m.id) top_is ∙ own) ∙ off;
    };
  }

  -- its mounts are below the top
  pub tree_below : (j : ℕ) (m : Mount) → mount_at ms j ≡ Some m → is_below w.forest i j ≡ true
  tree_below j m e = (from_row j m e).1
