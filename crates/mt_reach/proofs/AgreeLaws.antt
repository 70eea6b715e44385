-- A walk over the rows of a well-formed world ends where a walk through its mounts does.
use Rattle.std.proofs.Common.{◌≡◌, ℕ, zero, suc, Bool, true, false, ◌&&◌, ◌==◌, eqb-true, eq-eqb, List, [], ◌∷◌, ◌++◌, map, length, drop, find, Option, Some, None, Ok, Err, refl, sym, ap, subst, ◌∙◌, arith, inl, inr, append-nil, append_assoc}
use Rattle.std.specs.Prelude.{is_none}
use Rattle.std.specs.Option.{option_and_then, option_map, option_map_or, ok_or}
use Rattle.std.proofs.lemmas.Bool.Decides.{nat_tests}
use Rattle.std.proofs.lemmas.List.{length-map}
use Rattle.mt_skel.specs.declared.fault.Fault.TheVariants.{NoNamespace, NoEntry}
use Rattle.mt_skel.specs.Chain.{follow}
use Rattle.mt_skel.proofs.ChainLaws.{follow-stop, follow-step}
use Rattle.mt_skel.proofs.ElementLaws.{In, in_row}
use Rattle.mt_skel.proofs.HoldLaws.{holds_child}
use Rattle.mt_skel.proofs.SkeletonLaws.{holds-Decides, holds_self, at_number, at_directory, directory_at as found_at, path_eq-Decides}
use Rattle.mt_skel.specs.Skeleton.{IsSkeleton, Directory, directory, child, holds, path_below, path_eq}
use Rattle.mt_mounts.specs.declared.mount.Mount.{Mount}
use Rattle.mt_mounts.specs.declared.mount.Place.{Place}
use Rattle.mt_mounts.specs.Forest.{id_of, mount_at, is_at, place_eq, on, root_place, top, is_root, root_mount}
use Rattle.mt_mounts.specs.Walk.{walk_from, walk}
use Rattle.mt_mounts.proofs.ForestLaws.{find_row, find_passes}
use Rattle.mt_mounts.proofs.PlaceLaws.{placed}
use Rattle.mt_propagate.specs.World.{WorldView}
use Rattle.mt_propagate.specs.WellFormed.{IsWellFormed}
use Rattle.mt_propagate.proofs.TreeLaws.{parent-is}
use Rattle.mt_info.specs.Table.{mount_point}
use Rattle.mt_info.proofs.PointLaws.{below_parent, point_of_root}
use Rattle.mt_info.proofs.TableLaws.{own_names_at}
use Rattle.mt_reach.specs.declared.row.SeenRow.{SeenRow}
use Rattle.mt_reach.specs.Rows.{seen_at}
use Rattle.mt_reach.specs.Tree.{stands_on_row}
use Rattle.mt_reach.specs.Walking.{stands_at, stacked_at, stack_top, walked_from, is_root_row, root_row, end_of, directory_at}
use Rattle.mt_reach.specs.Seen.{seen_mount, seen_rows, seen_directory}
use Rattle.mt_reach.proofs.ParentLaws.{seen_found, child_seen, row_of_root, row_of_parent}

-- the first that passes among those that are made of others
found_made : {A B : Type 0} (f : A → B) (t : B → Bool) (s : A → Bool) (xs : List A) → ((x : A) → In x xs → t (f x) ≡ s x) → find t (map f xs) ≡ option_map f (find s xs)
found_made f t s [] same = refl
found_made f t s (x ∷ xs) same = let ih = found_made f t s xs (λ y at. same y (inr at)) in let here = same x (inl refl) in grind arith

-- what stands behind the same front
behind : (front : List (List ℕ)) (xs : List (List ℕ)) → drop (length front) (front ++ xs) ≡ xs
behind [] xs = refl
behind (c ∷ front) xs = behind front xs

module _ (w : WorldView) (s : IsSkeleton w.skel) (h : IsWellFormed w) where
  -- the point of a directory on a mount
  abbrev point_of : Mount → ℕ → List (List ℕ)
  point_of a d = mount_point w a.id ++ path_below w.skel a.root d

  -- a directory of a mount is told by the names below its root
  joined : (root d : ℕ) → holds w.skel root d ≡ true → (directory w.skel d).path ≡ (directory w.skel root).path ++ path_below w.skel root d
  joined root d e =
      let a = (holds-Decides w.skel root d).0 e in
      let rest : path_below w.skel root d ≡ a.rest = ap (drop (length (directory w.skel root).path)) a.joined ∙ behind (directory w.skel root).path a.rest in
      a.joined ∙ ap (λ l. (directory w.skel root).path ++ l) (sym rest)

  one_below : (root d e : ℕ) → holds w.skel root d ≡ true → holds w.skel root e ≡ true → path_below w.skel root d ≡ path_below w.skel root e → d ≡ e
  one_below root d e hd he same =
      let a = (holds-Decides w.skel root d).0 hd in
      let b = (holds-Decides w.skel root e).0 he in
      let path : (directory w.skel d).path ≡ (directory w.skel e).path = joined root d hd ∙ ap (λ l. (directory w.skel root).path ++ l) same ∙ sym (joined root e he) in
      let both : directory w.skel d ≡ directory w.skel e = λ k. record { fs = (sym a.one ∙ b.one) k; path = path k } in
      s.once d e (directory w.skel d) (found_at w.skel d a.there) (found_at w.skel e b.there ∙ ap (λ (x : Directory). Some x) (sym both))

  -- the point of a mount is that of the directory that it stands at
  point_at : (a m : Mount) (p : Place) → mount_at w.forest a.id ≡ Some a → mount_at w.forest m.id ≡ Some m → m.place ≡ Some p → p.mount ≡ a.id → mount_point w m.id ≡ point_of a p.dir
  point_at a m p ea em at up =
      let there : mount_at w.forest p.mount ≡ Some a = ap (mount_at w.forest) up ∙ ea in
      below_parent w m.id p.mount h (parent-is w.forest m.id m p em at)
      ∙ ap (λ l. mount_point w p.mount ++ l) (own_names_at w m.id m a p em at there)
      ∙ ap (λ k. mount_point w k ++ path_below w.skel a.root p.dir) up

  module _ (a : Mount) (d : ℕ) (ea : mount_at w.forest a.id ≡ Some a) (hd : holds w.skel a.root d ≡ true) where
    abbrev here : Place
    here = record { mount = a.id; dir = d }

    -- a row stands there where its mount does
    same_place : (m : Mount) → In m w.forest → stands_at (seen_mount w a) (point_of a d) (seen_mount w m) ≡ is_at here m
    same_place m at = ap (λ b. b && path_eq (mount_point w m.id) (point_of a d)) (sym told ∙ child_seen w h a.id m em) ∙ go m.place refl
      where
        em : mount_at w.forest m.id ≡ Some m
        em = in_row id_of w.forest m h.forest.rising at

        told : option_map_or (λ q. stands_on_row q (seen_mount w m)) (seen_at (seen_rows w) a.id) false ≡ stands_on_row (seen_mount w a) (seen_mount w m)
        told = ap (λ o. option_map_or (λ q. stands_on_row q (seen_mount w m)) o false) (seen_found w a.id a ea)

        by_point : (p : Place) → m.place ≡ Some p → p.mount ≡ a.id → path_eq (mount_point w m.id) (point_of a d) ≡ (d == p.dir)
        by_point p e up = by (path_eq (mount_point w m.id) (point_of a d)) refl (d == p.dir) refl
          where
            within : holds w.skel a.root p.dir ≡ true
            within =
                let q = h.forest.placed m.id m p em e in
                let one : q.0 ≡ a = (let same : Some q.0 ≡ Some a = sym q.1 ∙ ap (mount_at w.forest) up ∙ ea in cc) in
                ap (λ (x : Mount). holds w.skel x.root p.dir) (sym one) ∙ q.3

            by : (x : Bool) → path_eq (mount_point w m.id) (point_of a d) ≡ x → (y : Bool) → (d == p.dir) ≡ y → x ≡ y
            by true f true g = refl
            by false f false g = refl
            by true f false g =
                let whole : mount_point w m.id ≡ point_of a d = (path_eq-Decides _ _).0 f in
                let same : path_below w.skel a.root p.dir ≡ path_below w.skel a.root d = sym (behind (mount_point w a.id) _) ∙ ap (drop (length (mount_point w a.id))) (sym (point_at a m p ea em e up) ∙ whole) ∙ behind (mount_point w a.id) _ in
                let one : d ≡ p.dir = sym (one_below a.root p.dir d within hd same) in
                sym (eq-eqb d p.dir one) ∙ g
            by false f true g =
                let one : d ≡ p.dir = eqb-true d p.dir g in
                sym f ∙ (path_eq-Decides _ _).1 (point_at a m p ea em e up ∙ ap (point_of a) (sym one))

        go : (o : Option Place) → m.place ≡ o → (option_map_or (λ (p : Place). p.mount == a.id) o false && path_eq (mount_point w m.id) (point_of a d)) ≡ option_map_or (place_eq here) o false
        go None e = refl
        go (Some p) e = by (p.mount == a.id) refl
          where
            by : (b : Bool) → (p.mount == a.id) ≡ b → (b && path_eq (mount_point w m.id) (point_of a d)) ≡ place_eq here p
            by true f = by_point p e (eqb-true p.mount a.id f) ∙ grind (arith, nat_tests)
            by false f = grind (arith, nat_tests)

    stacked_seen : stacked_at (seen_rows w) (point_of a d) (seen_mount w a) ≡ option_map (seen_mount w) (on w.forest here)
    stacked_seen = found_made (seen_mount w) (stands_at (seen_mount w a) (point_of a d)) (is_at here) w.forest same_place

  -- a row and some names tell a place: the row of its mount, and the point of its directory there
  record IsTold (q : Place) (r : SeenRow) (done : List (List ℕ)) : Type 0 where
    mount : Mount
    there : mount_at w.forest mount.id ≡ Some mount
    within : holds w.skel mount.root q.dir ≡ true
    place : q ≡ record { mount = mount.id; dir = q.dir }
    row : r ≡ seen_mount w mount
    point : done ≡ point_of mount q.dir

  told_root : (x : Mount) (done : List (List ℕ)) → mount_at w.forest x.id ≡ Some x → mount_point w x.id ≡ done → IsTold (root_place x) (seen_mount w x) done
  told_root x done e at =
      let b = h.below x.id x e in
      let self : holds w.skel x.root x.root ≡ true = holds_self w.skel x.root b.4 in
      let none : path_below w.skel x.root x.root ≡ [] = ap (drop (length (directory w.skel x.root).path)) (sym (append-nil (directory w.skel x.root).path)) ∙ behind (directory w.skel x.root).path [] in
      record {
        mount = x;
        there = e;
        within = self;
        place = refl;
        row = refl;
        point = sym at ∙ sym (append-nil (mount_point w x.id)) ∙ ap (λ l. mount_point w x.id ++ l) (sym none);
      }

  module _ (done : List (List ℕ)) where
    abbrev next : SeenRow → Option SeenRow
    next r = stacked_at (seen_rows w) done r

    abbrev over : Place → Option Place
    over q = option_map root_place (on w.forest q)

    next_seen : (q : Place) (r : SeenRow) (t : IsTold q r done) → next r ≡ option_map (seen_mount w) (on w.forest q)
    next_seen q r t = (λ k. stacked_at (seen_rows w) (t.point k) (t.row k)) ∙ stacked_seen t.mount q.dir t.there t.within ∙ ap (λ p. option_map (seen_mount w) (on w.forest p)) (sym t.place)

    told_over : (q : Place) (r : SeenRow) (t : IsTold q r done) (x : Mount) → on w.forest q ≡ Some x → IsTold (root_place x) (seen_mount w x) done
    told_over q r t x e =
        let row = find_row (is_at q) w.forest x h.forest.rising e in
        let at : x.place ≡ Some q = placed q x.place (find_passes (is_at q) w.forest x e) in
        told_root x done row (point_at t.mount x q t.there row at (ap (λ (p : Place). p.mount) t.place) ∙ sym t.point)

    told_top : (n : ℕ) (q : Place) (r : SeenRow) → IsTold q r done → IsTold (follow over n q) (follow next n r) done
    told_top zero q r t = t
    told_top (suc n) q r t = by (on w.forest q) refl (λ x. told_top n (root_place x) (seen_mount w x))
      where
        by : (o : Option Mount) → on w.forest q ≡ o → ((x : Mount) → IsTold (root_place x) (seen_mount w x) done → IsTold (follow over n (root_place x)) (follow next n (seen_mount w x)) done) → IsTold (follow over (suc n) q) (follow next (suc n) r) done
        by None e ih =
            let stop : over q ≡ None = ap (option_map root_place) e in
            let none : next r ≡ None = next_seen q r t ∙ ap (option_map (seen_mount w)) e in
            subst (λ p. IsTold p (follow next (suc n) r) done) (sym (follow-stop over (suc n) q stop)) (subst (λ x. IsTold q x done) (sym (follow-stop next (suc n) r none)) t)
        by (Some x) e ih =
            let step : over q ≡ Some (root_place x) = ap (option_map root_place) e in
            let more : next r ≡ Some (seen_mount w x) = next_seen q r t ∙ ap (option_map (seen_mount w)) e in
            subst (λ p. IsTold p (follow next (suc n) r) done) (sym (follow-step over n q (root_place x) step))
            (subst (λ y. IsTold (follow over n (root_place x)) y done) (sym (follow-step next n r (seen_mount w x) more)) (ih x (told_over q r t x e)))

  rows_as_many : length (seen_rows w) ≡ length w.forest
  rows_as_many = length-map w.forest (seen_mount w)

  -- one name further
  told_child : (q : Place) (r : SeenRow) (done : List (List ℕ)) (c : List ℕ) (d : ℕ) → IsTold q r done → child w.skel q.dir c ≡ Some d → IsTold (record { mount = q.mount; dir = d }) r (done ++ c ∷ [])
  told_child q r done c d t e =
      let root = t.mount.root in
      let below : holds w.skel root d ≡ true = holds_child w.skel root q.dir d c t.within e in
      let path : (directory w.skel d).path ≡ (directory w.skel q.dir).path ++ c ∷ [] = found e in
      let names : path_below w.skel root d ≡ path_below w.skel root q.dir ++ c ∷ [] =
      ap (drop (length (directory w.skel root).path)) (path ∙ ap (λ l. l ++ c ∷ []) (joined root q.dir t.within) ∙ append_assoc (directory w.skel root).path (path_below w.skel root q.dir) (c ∷ []))
      ∙ behind (directory w.skel root).path (path_below w.skel root q.dir ++ c ∷ []) in
      record {
        mount = t.mount;
        there = t.there;
        within = below;
        place = ap (λ (p : Place). record { mount = p.mount; dir = d }) t.place;
        row = t.row;
        point = ap (λ l. l ++ c ∷ []) t.point ∙ append_assoc (mount_point w t.mount.id) (path_below w.skel root q.dir) (c ∷ []) ∙ ap (λ l. mount_point w t.mount.id ++ l) (sym names);
      }
    where
      found : child w.skel q.dir c ≡ Some d → (directory w.skel d).path ≡ (directory w.skel q.dir).path ++ c ∷ []
      found e =
          let below : Directory = record { fs = (directory w.skel q.dir).fs; path = (directory w.skel q.dir).path ++ c ∷ [] } in
          ap (λ (x : Directory). x.path) (at_directory w.skel d below (at_number w.skel below d e))

  told_walk : (path : List (List ℕ)) (q p : Place) (r : SeenRow) (done : List (List ℕ)) → IsTold q r done → walk_from w.skel w.forest q path ≡ Some p → IsTold p (walked_from (seen_rows w) r done path) (done ++ path)
  told_walk [] q p r done t e = let same : q ≡ p = cc in subst (λ l. IsTold p r l) (sym (append-nil done)) (subst (λ x. IsTold x r done) same t)
  told_walk (c ∷ cs) q p r done t e = by (child w.skel q.dir c) refl e (λ q r done. told_walk cs q p r done)
    where
      by : (o : Option ℕ) → child w.skel q.dir c ≡ o → option_and_then (λ d. walk_from w.skel w.forest (top w.forest (record { mount = q.mount; dir = d })) cs) o ≡ Some p
          → ((q : Place) (r : SeenRow) (done : List (List ℕ)) → IsTold q r done → walk_from w.skel w.forest q cs ≡ Some p → IsTold p (walked_from (seen_rows w) r done cs) (done ++ cs)) → IsTold p (walked_from (seen_rows w) r done (c ∷ cs)) (done ++ c ∷ cs)
      by None at e ih = absurd (cc)
      by (Some d) at e ih =
          let more = done ++ c ∷ [] in
          let up = told_top more (length w.forest) (record { mount = q.mount; dir = d }) r (told_child q r done c d t at) in
          let tall : IsTold (top w.forest (record { mount = q.mount; dir = d })) (stack_top (seen_rows w) more r) more = subst (λ n. IsTold (top w.forest (record { mount = q.mount; dir = d })) (follow (next more) n r) more) (sym rows_as_many) up in
          subst (λ l. IsTold p (walked_from (seen_rows w) (stack_top (seen_rows w) more r) more cs) l) (append_assoc done (c ∷ []) cs) (ih _ _ more tall e)

  -- a root mount is one by its row
  root_told : (n : ℕ) (m : Mount) → In m w.forest → is_root_row (seen_rows w) n (seen_mount w m) ≡ is_root n m
  root_told n m at = go m.place refl
    where
      em : mount_at w.forest m.id ≡ Some m
      em = in_row id_of w.forest m h.forest.rising at

      go : (o : Option Place) → m.place ≡ o → is_root_row (seen_rows w) n (seen_mount w m) ≡ (is_none o && (m.space == n))
      go None e =
          (λ k. (m.space == n) && path_eq (point_of_root w m.id m em e k) [] && is_none (row_of_root w h m em e k)) ∙ grind arith
      go (Some p) e =
          let up = h.forest.placed m.id m p em e in
          ap (λ o. (m.space == n) && path_eq (mount_point w m.id) [] && is_none o) (row_of_parent w h m up.0 p em e up.1 up.2) ∙ grind arith

  root_seen : (n : ℕ) → root_row (seen_rows w) n ≡ option_map (seen_mount w) (root_mount w.forest n)
  root_seen n = found_made (seen_mount w) (is_root_row (seen_rows w) n) (is_root n) w.forest (root_told n)

  -- a walk of rows ends on this mount, at this directory
  abbrev EndsThere : Option SeenRow → List (List ℕ) → Place → Type 0
  EndsThere o path p = (r : SeenRow) × (o ≡ Some r) × (r.id ≡ p.mount) × (directory_at r path ≡ seen_directory w p.dir)

  ended : (p : Place) (r : SeenRow) (path : List (List ℕ)) → IsTold p r path → (r.id ≡ p.mount) × (directory_at r path ≡ seen_directory w p.dir)
  ended p r path t =
      let m = t.mount in
      let a = (holds-Decides w.skel m.root p.dir).0 t.within in
      let names : (directory w.skel m.root).path ++ drop (length (mount_point w m.id)) (point_of m p.dir) ≡ (directory w.skel p.dir).path =
      ap (λ l. (directory w.skel m.root).path ++ l) (behind (mount_point w m.id) (path_below w.skel m.root p.dir)) ∙ sym (joined m.root p.dir t.within) in
      let one : directory_at (seen_mount w m) (point_of m p.dir) ≡ seen_directory w p.dir =
      λ k. record { device = record { major = 0; minor = a.one k }; unlinked = false; path = names k } in
      let there : directory_at r path ≡ directory_at (seen_mount w m) (point_of m p.dir) = λ k. directory_at (t.row k) (t.point k) in
      (ap (λ (x : SeenRow). x.id) t.row ∙ sym (ap (λ (x : Place). x.mount) t.place), there ∙ one)

  pub walks_agree : (n : ℕ) (path : List (List ℕ)) (p : Place) → walk w.skel w.forest n path ≡ Ok p → EndsThere (end_of (seen_rows w) n path) path p
  walks_agree n path p e = by (root_mount w.forest n) refl e
    where
      started : (m : Mount) → root_mount w.forest n ≡ Some m → (o : Option Place) → walk_from w.skel w.forest (root_place m) path ≡ o → ok_or o NoEntry ≡ Ok p → EndsThere (end_of (seen_rows w) n path) path p
      started m at None f e = absurd (cc)
      started m at (Some r) f e =
          let same : r ≡ p = cc in
          let em = find_row (is_root n) w.forest m h.forest.rising at in
          let off : m.place ≡ None = no_place m.place (find_passes (is_root n) w.forest m at) in
          let begun : IsTold (root_place m) (seen_mount w m) [] = told_root m [] em (point_of_root w m.id m em off) in
          let told = told_walk path (root_place m) p (seen_mount w m) [] begun (f ∙ ap (λ x. Some x) same) in
          let here = walked_from (seen_rows w) (seen_mount w m) [] path in
          let both = ended p here path told in
          let end : end_of (seen_rows w) n path ≡ Some here =
          ap (option_map (λ root. walked_from (seen_rows w) root [] path)) (root_seen n ∙ ap (option_map (seen_mount w)) at) in
          (here, end, both.0, both.1)
        where
          no_place : (o : Option Place) → (is_none o && (m.space == n)) ≡ true → o ≡ None
          no_place None t = refl
          no_place (Some q) t = absurd (cc)

      by : (o : Option Mount) → root_mount w.forest n ≡ o → option_map_or (λ m. ok_or (walk_from w.skel w.forest (root_place m) path) NoEntry) o (Err NoNamespace) ≡ Ok p → EndsThere (end_of (seen_rows w) n path) path p
      by None at e = absurd (cc)
      by (Some m) at e = started m at (walk_from w.skel w.forest (root_place m) path) refl e
