-- A fresh mount, one mount bound alone, and the tree of mounts below a directory are source trees.
use Rattle.std.proofs.Common.{◌≡◌, ◌≢◌, ℕ, ◌<◌, true, false, cond, eq-eqb, [], ◌∷◌, length, Option, Some, None, refl, sym, ap, ◌∙◌, subst, arith, Bool, ◌==◌, List, map, inl, inr, IsTrue}
use Rattle.std.specs.Prelude.{unwrap_or}
use Rattle.std.proofs.lemmas.Option.{slice_get_within}
use Rattle.std.proofs.lemmas.Bool.Decides.{nat_tests}
use Rattle.std.specs.List.{filter, list_all, last_or}
use Rattle.std.specs.Option.{option_map_or}
use Rattle.std.proofs.lemmas.Bool.{cases_eq, ne_eqb, and_parts, and_from}
use Rattle.mt_skel.specs.Skeleton.{Skeleton, Directory, directory, holds, directory_number, root_of}
use Rattle.mt_skel.proofs.KeyedLaws.{row_at-key, rises-map, rises-filter}
use Rattle.mt_skel.proofs.SkeletonLaws.{at_number, holds-Decides}
use Rattle.mt_mounts.specs.declared.mount.Attrs.{Attrs}
use Rattle.mt_mounts.specs.declared.mount.Mount.{Mount}
use Rattle.mt_mounts.specs.declared.mount.Place.{Place}
use Rattle.mt_mounts.specs.Forest.{id_of, mount_at, is_below}
use Rattle.mt_mounts.proofs.SlotLaws.{none_found}
use Rattle.mt_mounts.proofs.CycleLaws.{no_cycle_leaf, rank_of, rank_falls}
use Rattle.mt_peers.specs.declared.state.State.{State}
use Rattle.mt_peers.specs.Peers.{state_at}
use Rattle.mt_propagate.specs.World.{WorldView, state_of}
use Rattle.mt_propagate.specs.Named.{unknown}
use Rattle.mt_propagate.specs.WellFormed.{IsWellFormed, fs_at}
use Rattle.mt_propagate.specs.Sound.{IsTree, IsSource}
use Rattle.mt_propagate.proofs.KeyLaws.{group_known, master_known}
use Rattle.mt_propagate.proofs.CopyRowLaws.{state_at_mount, root_is}
use Rattle.mt_propagate.proofs.TreeLaws.{parent-is}
use Rattle.mt_propagate.proofs.RowLaws.{picked-row, row-picked, mapped-row, row-mapped}
use Rattle.mt_bind.specs.Sources.{fresh_with, alone, top_at, tree_within, is_bindable, stands_within, leads_within, is_bound_along, path_to}
use Rattle.mt_bind.proofs.TreeOfLaws.{part_tree, below_self, below_parent, below_has_parent, above_not_below, path_top, path_step}

-- a directory that another holds is there, and of the filesystem of the other
pub holds_fs : (s : Skeleton) (outer inner : ℕ) → holds s outer inner ≡ true → (directory s inner).fs ≡ (directory s outer).fs
holds_fs s outer inner e = let a = (holds-Decides s outer inner).0 e in sym a.one

pub holds_there : (s : Skeleton) (outer inner : ℕ) → holds s outer inner ≡ true → inner < length s.directories
holds_there s outer inner e = let a = (holds-Decides s outer inner).0 e in a.there

-- where a directory is there, the root of any filesystem is one that is there
pub root_there : (s : Skeleton) (fs : ℕ) → 0 < length s.directories → root_of s fs < length s.directories
root_there s fs some = go (directory_number s (record { fs = fs; path = [] })) refl
  where
    go : (o : Option ℕ) → directory_number s (record { fs = fs; path = [] }) ≡ o → unwrap_or o 0 < length s.directories
    go None is = some
    go (Some i) is = let d : Directory = record { fs = fs; path = [] } in slice_get_within s.directories i d (at_number s d i is)

-- the rows of one mount
pub one_row : (m : Mount) (i : ℕ) (x : Mount) → mount_at (m ∷ []) i ≡ Some x → (i ≡ m.id) × (x ≡ m)
one_row m i x e = (grind (arith, nat_tests), grind (arith, nat_tests))

-- one mount that does not stand on itself is a tree
module _ (s : Skeleton) (m : Mount) (off : (p : Place) → m.place ≡ Some p → p.mount ≢ m.id) (there : m.root < length s.directories) where
  pub one_tree : IsTree s (m ∷ []) m
  one_tree = record {
    rising = refl;
    top_there = ap (λ b. cond b (Some m) None) (eq-eqb m.id m.id refl);
    top_outside = λ p e. none_found _ (λ x f. off p e (one_row m p.mount x f).0);
    placed = λ i x e ne. absurd (ne (one_row m i x e).0);
    apart = λ i j x y p ei ej at_i at_j. (one_row m i x ei).0 ∙ sym (one_row m j y ej).0;
    no_cycle = no_cycle_leaf [] m (λ i. refl) (λ x e. absurd (let v : None ≡ Some m.id = e in cc)) off;
    roots = λ i x e. subst (λ v. v.root < length s.directories) (sym (one_row m i x e).1) there;
  }

module _ (w : WorldView) (h : IsWellFormed w) where
  -- no mount has the ID of a fresh one
  pub no_zero : {A : Type 0} (q : Mount) → mount_at w.forest 0 ≡ Some q → A
  no_zero q e = let b = h.below 0 q e in absurd (omega (arith, b.0))

  -- nor a state
  zero_state : {A : Type 0} (i : ℕ) (s : State) → i ≡ 0 → state_at w.peering.peers i ≡ Some s → A
  zero_state i s z e = let q = state_at_mount w h i s e in no_zero q.0 (ap (mount_at w.forest) (sym z) ∙ q.1)

  -- a fresh mount
  pub fresh_is_source : (fs : ℕ) (attrs : Attrs) (dest : Place) → 0 < length w.skel.directories → IsSource w (fresh_with w fs attrs) dest
  fresh_is_source fs attrs dest some =
      let m : Mount = record unknown { root = root_of w.skel fs; attrs = attrs } in
      record {
        tree = one_tree w.skel m (λ p e. let v : None ≡ Some p = e in absurd (cc)) (root_there w.skel fs some);
        group_fs = λ i g x e is. zero_state i (state_of w i) (one_row m i x e).0 (group_known w i g is);
        master_fs = λ i g x e is. zero_state i (state_of w i) (one_row m i x e).0 (master_known w i g is);
        moves = λ e. let v : false ≡ true = e in absurd (cc);
      }

  -- the mount that a path ends on, shown from there on
  module _ (p : Place) (q : Mount) (row : mount_at w.forest p.mount ≡ Some q) (held : holds w.skel q.root p.dir ≡ true) where
    pub top_is : top_at w p ≡ record q { root = p.dir }
    top_is = rw row refl

    pub own_id : q.id ≡ p.mount
    own_id = row_at-key id_of p.mount w.forest q row

    off_itself : (r : Place) → q.place ≡ Some r → r.mount ≢ q.id
    off_itself r e same =
        let falls = rank_falls w.forest h.forest.no_cycle p.mount r.mount (parent-is w.forest p.mount q r row e) in
        let here : rank_of w.forest r.mount ≡ rank_of w.forest p.mount = ap (rank_of w.forest) (same ∙ own_id) in
        omega (arith, falls, here)

    pub shows_same : (directory w.skel p.dir).fs ≡ fs_at w p.mount
    shows_same = holds_fs w.skel q.root p.dir held ∙ ap (λ r. (directory w.skel r).fs) (sym (root_is w p.mount q row))

    pub alone_is_source : (dest : Place) → IsSource w (alone w p) dest
    alone_is_source dest =
        let m : Mount = record q { root = p.dir } in
        let plain : IsTree w.skel (m ∷ []) m = one_tree w.skel m off_itself (holds_there w.skel q.root p.dir held) in
        record {
          tree = subst (λ v. IsTree w.skel (v ∷ []) v) (sym top_is) plain;
          group_fs = λ i g x e is. same i x e;
          master_fs = λ i g x e is. same i x e;
          moves = λ e. let v : false ≡ true = e in absurd (cc);
        }
      where
        same : (i : ℕ) (x : Mount) → mount_at (top_at w p ∷ []) i ≡ Some x → (directory w.skel x.root).fs ≡ fs_at w i
        same i x e =
            let o = one_row (top_at w p) i x e in
            let at : i ≡ p.mount = o.0 ∙ ap (λ (v : Mount). v.id) top_is ∙ own_id in
            ap (λ (v : Mount). (directory w.skel v.root).fs) (o.1 ∙ top_is) ∙ shows_same ∙ ap (fs_at w) (sym at)

    -- it shows the filesystem that the mount shows
    pub alone_shows : (i : ℕ) (x : Mount) → mount_at (top_at w p ∷ []) i ≡ Some x → (y : Mount) × (mount_at w.forest i ≡ Some y) × ((directory w.skel x.root).fs ≡ fs_at w i)
    alone_shows i x e =
        let o = one_row (top_at w p) i x e in
        let at : i ≡ p.mount = o.0 ∙ ap (λ (v : Mount). v.id) top_is ∙ own_id in
        (q, ap (mount_at w.forest) at ∙ row, ap (λ (v : Mount). (directory w.skel v.root).fs) (o.1 ∙ top_is) ∙ shows_same ∙ ap (fs_at w) (sym at))

    -- it is the one source mount
    pub alone_only : (i : ℕ) (m : Mount) → mount_at (top_at w p ∷ []) i ≡ Some m → i ≡ p.mount
    alone_only i m e = (one_row (top_at w p) i m e).0 ∙ ap (λ (v : Mount). v.id) top_is ∙ own_id

module _ (w : WorldView) (h : IsWellFormed w) (p : Place) (q : Mount) (row : mount_at w.forest p.mount ≡ Some q) (held : holds w.skel q.root p.dir ≡ true) where
  abbrev bound : Mount → Bool
  bound m = is_bound_along w p m.id

  abbrev cut : Mount → Mount
  cut m = cond (m.id == p.mount) (top_at w p) m

  abbrev ms : List Mount
  ms = map (λ m. cond (m.id == p.mount) (top_at w p) m) (filter (λ m. is_bound_along w p m.id) w.forest)

  top_id : (top_at w p).id ≡ p.mount
  top_id = ap (λ (m : Mount). m.id) (top_is w h p q row held) ∙ own_id w h p q row held

  cut-id : (m : Mount) → id_of (cut m) ≡ id_of m
  cut-id m = grind (arith, nat_tests, top_id)

  from_row : (i : ℕ) (m : Mount) → mount_at ms i ≡ Some m → (x : Mount) × (mount_at w.forest i ≡ Some x) × (is_bound_along w p i ≡ true) × (m ≡ cut x)
  from_row i m e =
      let x = mapped-row id_of cut cut-id (filter bound w.forest) i m e in
      let r = picked-row id_of bound w.forest h.forest.rising i x.0 x.1 in
      (x.0, r.0, ap (is_bound_along w p) (sym (row_at-key id_of i w.forest x.0 r.0)) ∙ r.1, x.2)

  to_row : (i : ℕ) (x : Mount) → mount_at w.forest i ≡ Some x → is_bound_along w p i ≡ true → mount_at ms i ≡ Some (cut x)
  to_row i x e b = row-mapped id_of cut cut-id (filter bound w.forest) i x (row-picked id_of bound w.forest h.forest.rising i x (ap (is_bound_along w p) (row_at-key id_of i w.forest x e) ∙ b) e)

  -- a mount that is cut has what the top has that shows the directory, and any other mount what it has
  cut_has : (P : Mount → Type 0) (i : ℕ) (x : Mount) → mount_at w.forest i ≡ Some x → (i ≡ p.mount → P (record x { root = p.dir })) → (i ≢ p.mount → P x) → P (cut x)
  cut_has P i x e top other =
      let k = row_at-key id_of i w.forest x e in
      elim (cases_eq x.id p.mount) [
        | inl same ↦ rw (eq-eqb x.id p.mount same, ap (mount_at w.forest) (sym (sym k ∙ same)) ∙ e) (top (sym k ∙ same))
        | inr off ↦ rw (ne_eqb x.id p.mount off) (other (λ s. off (k ∙ s)))
      ]

  -- the way from a mount leads into the directory
  abbrev leads : ℕ → Bool
  leads i = leads_within w p.dir (last_or None (path_to w p.mount i))

  -- what a mount has that is bound along
  bound_parts : (i : ℕ) → is_bound_along w p i ≡ true → (is_below w.forest p.mount i ≡ true) × (list_all (is_bindable w) (path_to w p.mount i) ≡ true) × (leads i ≡ true)
  bound_parts i b = let c = and_parts _ _ b in let d = and_parts _ _ c.0 in (d.0, d.1, c.1)

  bound_top : is_bound_along w p p.mount ≡ true
  bound_top = rw (below_self w h p.mount, path_top w h p.mount) refl

  last_in : (i : ℕ) (ks : List ℕ) → leads_within w p.dir (last_or None (i ∷ ks)) ≡ true → leads_within w p.dir (last_or None ks) ≡ true
  last_in i [] e = refl
  last_in i (k ∷ ks) e = e

  bound_parent : (i : ℕ) (x : Mount) → mount_at w.forest i ≡ Some x → i ≢ p.mount → is_bound_along w p i ≡ true
      → (r : Place) × (x.place ≡ Some r) × (is_bound_along w p r.mount ≡ true) × (r.mount ≡ p.mount → holds w.skel p.dir r.dir ≡ true)
  bound_parent i x e ne b =
      let c = bound_parts i b in
      let r = below_has_parent w h p.mount i x ne e c.0 in
      let up = parent-is w.forest i x r.0 e r.1 in
      let path = path_step w h p.mount i r.0.mount ne up in
      let free = and_parts (is_bindable w i) (list_all (is_bindable w) (path_to w p.mount r.0.mount)) (sym (ap (list_all (is_bindable w)) path) ∙ c.1) in
      let first = sym (ap (λ (ks : List ℕ). leads_within w p.dir (last_or None ks)) path) ∙ c.2 in (
        r.0,
        r.1,
        and_from _ _ (and_from _ _ (sym (below_parent w h p.mount i r.0.mount ne up) ∙ c.0) free.1) (last_in i (path_to w p.mount r.0.mount) first),
        λ same.
            let none : path_to w p.mount r.0.mount ≡ [] = ap (path_to w p.mount) same ∙ path_top w h p.mount in
            let here : stands_within w p.dir i ≡ true = sym (ap (λ (ks : List ℕ). leads_within w p.dir (last_or None (i ∷ ks))) none) ∙ first in
            sym (ap (λ o. option_map_or (λ (r : Place). holds w.skel p.dir r.dir) o false) (ap (λ o. (unwrap_or o unknown).place) e ∙ r.1)) ∙ here,
      )

  same_place : (i : ℕ) (x : Mount) → mount_at w.forest i ≡ Some x → (cut x).place ≡ x.place
  same_place i x e = cut_has (λ m. m.place ≡ x.place) i x e (λ _. refl) (λ _. refl)

  root_low : (i : ℕ) (x : Mount) → mount_at w.forest i ≡ Some x → (cut x).root < length w.skel.directories
  root_low i x e = cut_has (λ m. m.root < length w.skel.directories) i x e (λ _. holds_there w.skel q.root p.dir held) (λ _. let b = h.below i x e in b.4)

  shows_cut : (i : ℕ) (x : Mount) → mount_at w.forest i ≡ Some x → (directory w.skel (cut x).root).fs ≡ fs_at w i
  shows_cut i x e =
      cut_has (λ m. (directory w.skel m.root).fs ≡ fs_at w i) i x e (λ same. shows_same w h p q row held ∙ ap (fs_at w) (sym same))
      (λ _. ap (λ r. (directory w.skel r).fs) (sym (root_is w i x e)))

  inside : (i : ℕ) (m : Mount) → mount_at ms i ≡ Some m → i ≢ (top_at w p).id → (r : Place) × (u : Mount) × (m.place ≡ Some r) × (mount_at ms r.mount ≡ Some u) × IsTrue (holds w.skel u.root r.dir)
  inside i m e ne =
      let x = from_row i m e in
      let r = bound_parent i x.0 x.1 (λ s. ne (s ∙ sym top_id)) x.2 in
      let f = h.forest.placed i x.0 r.0 x.1 r.1 in (
        r.0,
        cut f.0,
        ap (λ (v : Mount). v.place) x.3 ∙ same_place i x.0 x.1 ∙ r.1,
        to_row r.0.mount f.0 f.1 r.2,
        cut_has (λ v. holds w.skel v.root r.0.dir ≡ true) r.0.mount f.0 f.1 r.3 (λ _. f.3),
      )

  outside : (r : Place) → (top_at w p).place ≡ Some r → mount_at ms r.mount ≡ None
  outside r at = none_found _ (λ x e. above_not_below w h p.mount q r row (ap (λ (m : Mount). m.place) (sym (top_is w h p q row held)) ∙ at) (bound_parts r.mount (from_row r.mount x e).2).0)

  pub within_source : (dest : Place) → IsSource w (tree_within w p) dest
  within_source dest = record {
    moves = λ e. let v : false ≡ true = e in absurd (cc);
    tree =
        part_tree w h ms (top_at w p) (rises-map id_of cut cut-id (filter bound w.forest) ∙ rises-filter id_of bound w.forest h.forest.rising)
        (ap (mount_at ms) top_id ∙ to_row p.mount q row bound_top ∙ (rw (eq-eqb q.id p.mount (own_id w h p q row held)) refl))
        (λ i m e.
        let x = from_row i m e in
        (x.0, x.1, sym (same_place i x.0 x.1) ∙ ap (λ (v : Mount). v.place) (sym x.3), subst (λ (v : Mount). v.root < length w.skel.directories) (sym x.3) (root_low i x.0 x.1)))
        inside outside;
    group_fs = λ i g m e is. let x = from_row i m e in ap (λ (v : Mount). (directory w.skel v.root).fs) x.3 ∙ shows_cut i x.0 x.1;
    master_fs = λ i g m e is. let x = from_row i m e in ap (λ (v : Mount). (directory w.skel v.root).fs) x.3 ∙ shows_cut i x.0 x.1;
  }

  -- its mounts are there, and show the filesystems that they show there
  pub within_shows : (i : ℕ) (m : Mount) → mount_at ms i ≡ Some m → (y : Mount) × (mount_at w.forest i ≡ Some y) × ((directory w.skel m.root).fs ≡ fs_at w i)
  within_shows i m e = let x = from_row i m e in (x.0, x.1, ap (λ (v : Mount). (directory w.skel v.root).fs) x.3 ∙ shows_cut i x.0 x.1)

  -- its mounts are below the top
  pub within_below : (i : ℕ) (m : Mount) → mount_at ms i ≡ Some m → is_below w.forest p.mount i ≡ true
  within_below i m e = (bound_parts i (from_row i m e).2).0
