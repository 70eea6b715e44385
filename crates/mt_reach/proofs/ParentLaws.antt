-- What stands on what in a well-formed world, as its rows tell it.
use Rattle.std.proofs.Common.{◌≡◌, ◌≢◌, ℕ, Bool, true, false, cond, not, ◌&&◌, ◌||◌, ◌==◌, eqb-true, eq-eqb, List, [], ◌∷◌, ◌++◌, map, length, Option, Some, None, refl, sym, ap, ◌∙◌, arith, inl, inr}
use Rattle.std.specs.List.{filter, list_any, starts_with}
use Rattle.std.specs.Option.{option_and_then, option_map, option_map_or}
use Rattle.std.specs.Str.{bytes_eq}
use Rattle.std.proofs.lemmas.Bool.Decides.{nat_tests}
use Rattle.std.proofs.lemmas.List.{length-map}
use Rattle.std.proofs.lemmas.Slice.Eq.{bytes_eq-Decides, starts_is}
use Rattle.mt_skel.specs.Chain.{chain}
use Rattle.mt_skel.proofs.ElementLaws.{In, in_row}
use Rattle.mt_mounts.specs.declared.mount.Mount.{Mount}
use Rattle.mt_mounts.specs.declared.mount.Place.{Place}
use Rattle.mt_mounts.specs.Forest.{id_of, mount_at, parent, is_below, stands_on}
use Rattle.mt_mounts.proofs.KeptLaws.{mount_fits}
use Rattle.mt_mounts.proofs.CycleLaws.{rank_of, rank_falls}
use Rattle.mt_propagate.specs.World.{WorldView}
use Rattle.mt_propagate.specs.WellFormed.{IsWellFormed}
use Rattle.mt_propagate.proofs.TreeLaws.{parent-is}
use Rattle.mt_info.specs.Table.{own_names, mount_point}
use Rattle.mt_info.proofs.PointLaws.{below_parent, parent_at}
use Rattle.mt_reach.specs.declared.row.SeenRow.{SeenRow}
use Rattle.mt_reach.specs.declared.upward.Step.TheVariants.{ToParent}
use Rattle.mt_reach.specs.Rows.{seen_id, seen_at}
use Rattle.mt_reach.specs.Tree.{stands_on_row, seen_parent_row, seen_parent, seen_children, step_up, in_tree}
use Rattle.mt_reach.specs.Seen.{seen_mount, seen_rows}

-- names begin with those in front
begins_append : (front rest : List (List ℕ)) → starts_with bytes_eq (front ++ rest) front ≡ true
begins_append front rest = (starts_is bytes_eq-Decides (front ++ rest) front (starts_with bytes_eq (front ++ rest) front) refl).1 rest refl

-- no row stands on itself
off_row : (r : SeenRow) → stands_on_row r r ≡ false
off_row r = grind (arith, nat_tests)

-- nor on one that it does not tell
other_row : (q r : SeenRow) → (r.parent == q.id) ≡ false → stands_on_row q r ≡ false
other_row q r e = grind arith

-- the rows of mounts that pass, where the mounts pass
mapped_pass : (w : WorldView) (t : SeenRow → Bool) (s : Mount → Bool) (ms : List Mount) → ((m : Mount) → In m ms → t (seen_mount w m) ≡ s m) → map seen_id (filter t (map (seen_mount w) ms)) ≡ map id_of (filter s ms)
mapped_pass w t s [] same = refl
mapped_pass w t s (m ∷ ms) same =
    let ih = mapped_pass w t s ms (λ n at. same n (inr at)) in
    let here = same m (inl refl) in
    grind arith

-- the rows that stand on one that may be there
none_stand : (rows : List SeenRow) → map seen_id (filter (λ (r : SeenRow). false) rows) ≡ []
none_stand [] = refl
none_stand (r ∷ rows) = none_stand rows

those_stand : (rows : List SeenRow) (o : Option SeenRow) → option_map_or (λ q. map seen_id (filter (stands_on_row q) rows)) o [] ≡ map seen_id (filter (λ r. option_map_or (λ q. stands_on_row q r) o false) rows)
those_stand rows None = sym (none_stand rows)
those_stand rows (Some q) = refl

module _ (w : WorldView) where
  found_mapped : (ms : List Mount) (i : ℕ) → seen_at (map (seen_mount w) ms) i ≡ option_map (seen_mount w) (mount_at ms i)
  found_mapped [] i = refl
  found_mapped (m ∷ ms) i = grind (arith, found_mapped ms i)

  -- the row of a mount
  pub seen_found : (i : ℕ) (m : Mount) → mount_at w.forest i ≡ Some m → seen_at (seen_rows w) i ≡ Some (seen_mount w m)
  seen_found i m e = found_mapped w.forest i ∙ ap (option_map (seen_mount w)) e

  seen_absent : (i : ℕ) → mount_at w.forest i ≡ None → seen_at (seen_rows w) i ≡ None
  seen_absent i e = found_mapped w.forest i ∙ ap (option_map (seen_mount w)) e

  module _ (h : IsWellFormed w) where
    -- a mount stands on another one
    apart : (m : Mount) (p : Place) → mount_at w.forest m.id ≡ Some m → m.place ≡ Some p → m.id ≢ p.mount
    apart m p e at same =
        let up = parent-is w.forest m.id m p e at in
        let falls = rank_falls w.forest h.forest.no_cycle m.id p.mount up in
        let flat = ap (rank_of w.forest) same in
        absurd (omega (arith, falls, flat))

    point_below : (m : Mount) (p : Place) → mount_at w.forest m.id ≡ Some m → m.place ≡ Some p → starts_with bytes_eq (mount_point w m.id) (mount_point w p.mount) ≡ true
    point_below m p e at =
        ap (λ t. starts_with bytes_eq t (mount_point w p.mount)) (below_parent w m.id p.mount h (parent-is w.forest m.id m p e at))
        ∙ begins_append (mount_point w p.mount) (own_names w m.id)

    -- and its row tells so
    stands : (m q : Mount) (p : Place) → mount_at w.forest m.id ≡ Some m → m.place ≡ Some p → mount_at w.forest p.mount ≡ Some q → q.space ≡ m.space → stands_on_row (seen_mount w q) (seen_mount w m) ≡ true
    stands m q p e at up near =
        let told : (seen_mount w m).parent ≡ p.mount = ap (λ o. option_map_or (λ (p : Place). p.mount) o m.id) at in
        let fits : q.id ≡ p.mount = mount_fits w.forest p.mount q up in
        let first : (seen_mount w m).parent == q.id ≡ true = eq-eqb _ _ (told ∙ sym fits) in
        let other = λ (same : m.id ≡ q.id). apart m p e at (same ∙ fits) in
        let second : not (m.id == q.id) ≡ true = grind (arith, nat_tests, other) in
        let third : (m.space == q.space) ≡ true = eq-eqb _ _ (sym near) in
        let fourth : starts_with bytes_eq (mount_point w m.id) (mount_point w q.id) ≡ true = ap (λ k. starts_with bytes_eq (mount_point w m.id) (mount_point w k)) fits ∙ point_below m p e at in
        (λ k. first k && second k && third k && fourth k)

    pub row_of_root : (m : Mount) → mount_at w.forest m.id ≡ Some m → m.place ≡ None → seen_parent_row (seen_rows w) (seen_mount w m) ≡ None
    row_of_root m e at =
        let r = seen_mount w m in
        let told : r.parent ≡ m.id = ap (λ o. option_map_or (λ (p : Place). p.mount) o m.id) at in
        let found : seen_at (seen_rows w) r.parent ≡ Some r = ap (seen_at (seen_rows w)) told ∙ seen_found m.id m e in
        ap (option_and_then (λ (q : SeenRow). cond (stands_on_row q r) (Some q) None)) found ∙ ap (λ b. cond b (Some r) None) (off_row r)

    pub row_of_parent : (m q : Mount) (p : Place) → mount_at w.forest m.id ≡ Some m → m.place ≡ Some p → mount_at w.forest p.mount ≡ Some q → q.space ≡ m.space → seen_parent_row (seen_rows w) (seen_mount w m) ≡ Some (seen_mount w q)
    row_of_parent m q p e at up near =
        let r = seen_mount w m in
        let told : r.parent ≡ p.mount = ap (λ o. option_map_or (λ (p : Place). p.mount) o m.id) at in
        let found : seen_at (seen_rows w) r.parent ≡ Some (seen_mount w q) = ap (seen_at (seen_rows w)) told ∙ seen_found p.mount q up in
        ap (option_and_then (λ (q : SeenRow). cond (stands_on_row q r) (Some q) None)) found ∙ ap (λ b. cond b (Some (seen_mount w q)) None) (stands m q p e at up near)

    -- the parent that the rows tell
    pub parent_seen : (i : ℕ) → seen_parent (seen_rows w) i ≡ parent w.forest i
    parent_seen i = go (mount_at w.forest i) refl
      where
        placed : (m : Mount) → mount_at w.forest i ≡ Some m → mount_at w.forest m.id ≡ Some m → (o : Option Place) → m.place ≡ o
            → option_map seen_id (seen_parent_row (seen_rows w) (seen_mount w m)) ≡ option_map (λ (p : Place). p.mount) o
        placed m e f None at = ap (option_map seen_id) (row_of_root m f at)
        placed m e f (Some p) at =
            let q = h.forest.placed i m p e at in
            ap (option_map seen_id) (row_of_parent m q.0 p f at q.1 q.2) ∙ ap (λ k. Some k) (mount_fits w.forest p.mount q.0 q.1)

        go : (o : Option Mount) → mount_at w.forest i ≡ o → seen_parent (seen_rows w) i ≡ parent w.forest i
        go None e =
            ap (λ o. option_map seen_id (option_and_then (seen_parent_row (seen_rows w)) o)) (seen_absent i e)
            ∙ sym (ap (λ o. option_and_then (λ (m : Mount). option_map (λ (p : Place). p.mount) m.place) o) e)
        go (Some m) e =
            let f = ap (mount_at w.forest) (mount_fits w.forest i m e) ∙ e in
            ap (λ o. option_map seen_id (option_and_then (seen_parent_row (seen_rows w)) o)) (seen_found i m e)
            ∙ placed m e f m.place refl ∙ sym (parent_at w i m e)

    -- and whether a mount stands on another
    pub child_seen : (i : ℕ) (m : Mount) → mount_at w.forest m.id ≡ Some m → option_map_or (λ q. stands_on_row q (seen_mount w m)) (seen_at (seen_rows w) i) false ≡ stands_on i m
    child_seen i m e = go (mount_at w.forest i) refl m.place refl
      where
        there : (p : Place) → m.place ≡ Some p → (q : Mount) × (mount_at w.forest p.mount ≡ Some q) × (q.space ≡ m.space)
        there p at = let q = h.forest.placed m.id m p e at in (q.0, q.1, q.2)

        absent : (p : Place) → m.place ≡ Some p → mount_at w.forest i ≡ None → (p.mount == i) ≡ false
        absent p at none = by (p.mount == i) refl
          where
            by : (b : Bool) → (p.mount == i) ≡ b → b ≡ false
            by true is = let q = there p at in absurd (let no : Some q.0 ≡ None = sym q.1 ∙ ap (mount_at w.forest) (eqb-true p.mount i is) ∙ none in cc)
            by false is = refl

        go : (o : Option Mount) → mount_at w.forest i ≡ o → (at : Option Place) → m.place ≡ at
            → option_map_or (λ q. stands_on_row q (seen_mount w m)) (seen_at (seen_rows w) i) false ≡ option_map_or (λ (p : Place). p.mount == i) at false
        go None none None at = ap (λ o. option_map_or (λ q. stands_on_row q (seen_mount w m)) o false) (seen_absent i none)
        go None none (Some p) at = ap (λ o. option_map_or (λ q. stands_on_row q (seen_mount w m)) o false) (seen_absent i none) ∙ sym (absent p at none)
        go (Some n) is None at =
            ap (λ o. option_map_or (λ q. stands_on_row q (seen_mount w m)) o false) (seen_found i n is)
            ∙ grind (arith, nat_tests, ap (λ o. option_map_or (λ (p : Place). p.mount) o m.id) at)
        go (Some n) is (Some p) at = ap (λ o. option_map_or (λ q. stands_on_row q (seen_mount w m)) o false) (seen_found i n is) ∙ by (p.mount == i) refl
          where
            told : (seen_mount w m).parent ≡ p.mount
            told = ap (λ o. option_map_or (λ (p : Place). p.mount) o m.id) at

            by : (b : Bool) → (p.mount == i) ≡ b → stands_on_row (seen_mount w n) (seen_mount w m) ≡ b
            by true same =
                let q = there p at in
                let up : mount_at w.forest p.mount ≡ Some n = ap (mount_at w.forest) (eqb-true p.mount i same) ∙ is in
                let one : q.0 ≡ n = (let s : Some q.0 ≡ Some n = sym q.1 ∙ up in cc) in
                stands m n p e at up (ap (λ (x : Mount). x.space) (sym one) ∙ q.2)
            by false off = other_row (seen_mount w n) (seen_mount w m) (ap (λ k. k == n.id) told ∙ ap (λ k. p.mount == k) (mount_fits w.forest i n is) ∙ off)

    pub children_seen : (i : ℕ) → seen_children (seen_rows w) i ≡ map id_of (filter (stands_on i) w.forest)
    children_seen i =
        those_stand (seen_rows w) (seen_at (seen_rows w) i)
        ∙ mapped_pass w (λ r. option_map_or (λ q. stands_on_row q r) (seen_at (seen_rows w) i) false) (stands_on i) w.forest
        (λ m at. child_seen i m (in_row id_of w.forest m h.forest.rising at))

    any_turned : (i : ℕ) (xs : List ℕ) → list_any (λ k. k == i) xs ≡ list_any (λ k. i == k) xs
    any_turned i [] = refl
    any_turned i (x ∷ xs) = let turn : (x == i) ≡ (i == x) = grind (arith, nat_tests) in λ k. turn k || any_turned i xs k

    -- whether a mount is in the tree of another
    pub tree_seen : (i j : ℕ) → in_tree (seen_rows w) i j ≡ is_below w.forest i j
    tree_seen i j =
        let steps : step_up (seen_rows w) ToParent ≡ parent w.forest = λ k x. parent_seen x k in
        ap (λ n. list_any (λ k. k == i) (chain (step_up (seen_rows w) ToParent) n j)) (length-map w.forest (seen_mount w))
        ∙ ap (λ f. list_any (λ k. k == i) (chain f (length w.forest) j)) steps ∙ any_turned i (chain (parent w.forest) (length w.forest) j)

    -- and which mounts of a tree pass a test
    pub mounts_seen : (t : SeenRow → Bool) (s : Mount → Bool) → ((m : Mount) → t (seen_mount w m) ≡ s m) → map seen_id (filter t (seen_rows w)) ≡ map id_of (filter s w.forest)
    mounts_seen t s same = mapped_pass w t s w.forest (λ m at. same m)
