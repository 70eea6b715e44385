-- A detached tree that comes to stand at a place: it is a source tree, the world stays well-formed, and contained families of namespaces stay so.
use Rattle.std.proofs.Common.{◌≡◌, ◌≢◌, ℕ, Bool, true, false, cond, not, ◌&&◌, ◌==◌, eqb-true, eq-eqb, List, [], ◌∷◌, map, Option, Some, None, Result, Ok, refl, sym, ap, ◌∙◌, subst, inl, inr, IsTrue}
use Rattle.std.specs.Prelude.{is_none, is_some, unwrap_or}
use Rattle.std.specs.List.{list_any}
use Rattle.std.proofs.lemmas.Bool.{false_from_ne_true, true≢false}
use Rattle.mt_skel.specs.declared.fault.Fault.{Fault}
use Rattle.mt_skel.specs.declared.fault.Fault.TheVariants.{NoNamespace, NotDetached, RootPlace, IntoItself, UnbindableInside}
use Rattle.mt_skel.specs.Outcome.{refusal_of, refuse_if, outcome}
use Rattle.mt_skel.specs.Skeleton.{directory, holds}
use Rattle.mt_skel.proofs.OutcomeLaws.{passed}
use Rattle.mt_skel.proofs.KeyedLaws.{rises-filter, row_at-key}
use Rattle.mt_skel.proofs.MiddleLaws.{and-true}
use Rattle.mt_skel.proofs.ElementLaws.{In, in_filter, in_row}
use Rattle.mt_mounts.specs.declared.mount.Mount.{Mount}
use Rattle.mt_mounts.specs.declared.mount.Place.{Place}
use Rattle.mt_mounts.specs.Forest.{id_of, mount_at, is_below, is_root, in_space, mounts_in, root_mount}
use Rattle.mt_mounts.specs.Walk.{walk}
use Rattle.mt_mounts.proofs.ForestLaws.{find_row, find_passes}
use Rattle.mt_peers.proofs.MemberLaws.{some-is}
use Rattle.mt_propagate.specs.World.{WorldView, is_space, is_tree, state_of, group_of, root_dir, space_of}
use Rattle.mt_propagate.specs.Named.{unknown, mount_or_unknown, place_or_nowhere, is_root_place}
use Rattle.mt_propagate.specs.WellFormed.{IsWellFormed, fs_at}
use Rattle.mt_propagate.specs.Copies.{Source, is_whole}
use Rattle.mt_propagate.specs.Plans.{member_of, top_of, copied_source}
use Rattle.mt_propagate.specs.Sound.{IsTree, IsSource, IsDestination}
use Rattle.mt_propagate.specs.Contained.{IsContained, IsSameOutside, CrossesNoBorder, IsFromInside, is_linked, may_cross}
use Rattle.mt_propagate.proofs.CopyRowLaws.{root_is, space_is}
use Rattle.mt_propagate.proofs.RowLaws.{picked-row, row-picked, any-row}
use Rattle.mt_propagate.proofs.DetachedTreeLaws.{no_place}
use Rattle.mt_propagate.proofs.WalkLaws.{root_here, walked}
use Rattle.mt_propagate.proofs.ContainedLaws.{below-space}
use Rattle.mt_propagate.proofs.MovedLaws.{source_kept}
use Rattle.mt_propagate.proofs.CopiedInsideLaws.{copied-contained, copied-outside}
use Rattle.mt_bind.specs.Mounting.{too_many}
use Rattle.mt_bind.specs.Attaching.{whole_tree, has_unbindable, has_linked, with_attached, attached}
use Rattle.mt_bind.proofs.AcceptedLaws.{path_end, IsLate, attached_accepted}
use Rattle.mt_bind.proofs.TreeOfLaws.{part_tree}
use Rattle.mt_bind.proofs.MemberLaws.{any_ids}
use Rattle.mt_bind.proofs.MountLaws.{destination}

-- the mounts of a namespace, below its root mount
module _ (w : WorldView) (h : IsWellFormed w) (n : ℕ) (top : Mount) (is : root_mount w.forest n ≡ Some top) where
  abbrev ms : List Mount
  ms = mounts_in w.forest n

  top_row : mount_at w.forest top.id ≡ Some top
  top_row = find_row (is_root n) w.forest top h.forest.rising is

  top_bare : top.place ≡ None
  top_bare = no_place top.place (root_here n top (find_passes (is_root n) w.forest top is)).0

  top_space : top.space ≡ n
  top_space = (root_here n top (find_passes (is_root n) w.forest top is)).1

  from_row : (j : ℕ) (m : Mount) → mount_at ms j ≡ Some m → (mount_at w.forest j ≡ Some m) × (m.space ≡ n)
  from_row j m e = let r = picked-row id_of (in_space n) w.forest h.forest.rising j m e in (r.0, eqb-true m.space n r.1)

  to_row : (j : ℕ) (m : Mount) → mount_at w.forest j ≡ Some m → m.space ≡ n → mount_at ms j ≡ Some m
  to_row j m e s = row-picked id_of (in_space n) w.forest h.forest.rising j m (eq-eqb m.space n s) e

  inside : (j : ℕ) (m : Mount) → mount_at ms j ≡ Some m → j ≢ top.id → (p : Place) × (u : Mount) × (m.place ≡ Some p) × (mount_at ms p.mount ≡ Some u) × IsTrue (holds w.skel u.root p.dir)
  inside j m e off = by m.place refl
    where
      by : (o : Option Place) → m.place ≡ o → (p : Place) × (u : Mount) × (m.place ≡ Some p) × (mount_at ms p.mount ≡ Some u) × IsTrue (holds w.skel u.root p.dir)
      by None at = let x = from_row j m e in absurd (off (h.forest.one_root j top.id m top x.0 top_row at top_bare (x.1 ∙ sym top_space)))
      by (Some p) at =
          let x = from_row j m e in
          let u = h.forest.placed j m p x.0 at in
          (p, u.0, at, to_row p.mount u.0 u.1 (u.2 ∙ x.1), u.3)

  tree : IsTree w.skel ms top
  tree =
      part_tree w h ms top (rises-filter id_of (in_space n) w.forest h.forest.rising) (to_row top.id top top_row top_space)
      (λ j m e. let x = from_row j m e in let b = h.below j m x.0 in (m, x.0, refl, b.4))
      inside
      (λ p at. let v : None ≡ Some p = sym top_bare ∙ at in absurd (cc))

  abbrev all_of : Source
  all_of = record { mounts = ms; top = top; moved = true }

  pub whole_is : whole_tree w n ≡ all_of
  whole_is = ap (λ (o : Option Mount). let s : Source = record { mounts = ms; top = unwrap_or o unknown; moved = true } in s) is

  shows_same : (j : ℕ) (m : Mount) → mount_at ms j ≡ Some m → (directory w.skel m.root).fs ≡ fs_at w j
  shows_same j m e = ap (λ r. (directory w.skel r).fs) (sym (root_is w j m (from_row j m e).0))

  -- as a detached tree they may go to a place of another namespace
  pub whole_source : (dest : Place) (q : Mount) → is_tree w n ≡ true → mount_at w.forest dest.mount ≡ Some q → q.space ≢ n → IsSource w (whole_tree w n) dest
  whole_source dest q detached there away = subst (λ (s : Source). IsSource w s dest) (sym whole_is) (record {
    tree = tree;
    group_fs = λ j g m e _. shows_same j m e;
    master_fs = λ j g m e _. shows_same j m e;
    moves = λ _. record {
      known = λ j m e. (from_row j m e).0;
      home = inr (record {
        root = top_bare;
        tree = ap (is_tree w) top_space ∙ detached;
        all = λ j m e s. to_row j m e (s ∙ top_space);
        alone = λ j m e. (from_row j m e).1 ∙ sym top_space;
        elsewhere = λ u e s. away (ap (λ (m : Mount). m.space) (some-is q u (sym there ∙ e)) ∙ s ∙ top_space);
      });
      outside = false_from_ne_true (is_below w.forest top.id dest.mount) (λ b. away (sym (below-space w h top.id dest.mount q there b) ∙ space_is w top.id top top_row ∙ top_space));
    };
  })

  -- the same by their IDs
  same_top : top_of w top.id (root_dir w top.id) ≡ top
  same_top = λ i. record (ap (λ (o : Option Mount). unwrap_or o unknown) top_row i) { root = root_is w top.id top top_row i }

  same_member : (m : Mount) → mount_at w.forest m.id ≡ Some m → member_of w top.id (root_dir w top.id) m.id ≡ m
  same_member m row = go (m.id == top.id) refl
    where
      go : (b : Bool) → (m.id == top.id) ≡ b → cond b (top_of w top.id (root_dir w top.id)) (mount_or_unknown w m.id) ≡ m
      go true same = same_top ∙ some-is top m (sym top_row ∙ ap (mount_at w.forest) (sym (eqb-true m.id top.id same)) ∙ row)
      go false off = ap (λ (o : Option Mount). unwrap_or o unknown) row

  same_members : (xs : List Mount) → ((m : Mount) → In m xs → mount_at w.forest m.id ≡ Some m) → map (member_of w top.id (root_dir w top.id)) (map id_of xs) ≡ xs
  same_members [] known = refl
  same_members (m ∷ xs) known = λ i. same_member m (known m (inl refl)) i ∷ same_members xs (λ x e. known x (inr e)) i

  pub whole_by_ids : (ids : List ℕ) → ids ≡ map id_of ms → copied_source w top.id (root_dir w top.id) ids true ≡ whole_tree w n
  whole_by_ids ids e =
      let members : map (member_of w top.id (root_dir w top.id)) ids ≡ ms =
      ap (map (member_of w top.id (root_dir w top.id))) e ∙ same_members ms (λ m f. in_row id_of w.forest m h.forest.rising (in_filter (in_space n) m w.forest f).0) in
      (λ i. let s : Source = record { mounts = members i; top = same_top i; moved = true } in s) ∙ sym whole_is

-- one of them is unbindable
pub unbindable_in : (w : WorldView) (n : ℕ) (ids : List ℕ) → ids ≡ map id_of (mounts_in w.forest n) → list_any (λ k. (state_of w k).unbindable) ids ≡ has_unbindable w n
unbindable_in w n ids e = ap (list_any (λ k. (state_of w k).unbindable)) e ∙ any_ids (λ k. (state_of w k).unbindable) (mounts_in w.forest n)

-- what is left to see of an attaching once its place is judged
abbrev pub past_place : WorldView → ℕ → ℕ → Place → Result WorldView Fault
past_place w tree n p = outcome (refuse_if (n == tree) IntoItself ∷ refuse_if (is_some (group_of w p.mount) && has_unbindable w tree) UnbindableInside ∷ too_many w (whole_tree w tree) p ∷ []) (with_attached w tree p)

-- and once the tree is
abbrev pub past_tree : WorldView → ℕ → ℕ → Result Place Fault → Result WorldView Fault
past_tree w tree n to =
    let p = place_or_nowhere to in
    outcome (
    refusal_of to
    ∷ refuse_if (is_root_place w p) RootPlace
    ∷ refuse_if (n == tree) IntoItself
    ∷ refuse_if (is_some (group_of w p.mount) && has_unbindable w tree) UnbindableInside
    ∷ too_many w (whole_tree w tree) p ∷ []
    ) (with_attached w tree p)

pub detached_judged : (w : WorldView) (tree n : ℕ) (path : List (List ℕ)) → is_space w tree ≡ true → is_tree w tree ≡ true → attached w tree n path ≡ past_tree w tree n (walk w.skel w.forest n path)
detached_judged w tree n path there detached =
    passed (not (is_space w tree)) NoNamespace _ _ (ap not there)
    ∙ passed (not (is_tree w tree)) NotDetached _ _ (ap not detached)

pub attached_judged : (w : WorldView) (tree n : ℕ) (path : List (List ℕ)) (p : Place) → is_space w tree ≡ true → is_tree w tree ≡ true → walk w.skel w.forest n path ≡ Ok p → is_root_place w p ≡ false
    → attached w tree n path ≡ past_place w tree n p
attached_judged w tree n path p there detached ended off =
    detached_judged w tree n path there detached
    ∙ ap (past_tree w tree n) ended
    ∙ passed (is_root_place w p) RootPlace _ _ off

pub attached_late : (w : WorldView) (tree n : ℕ) (path : List (List ℕ)) (p : Place) → attached w tree n path ≡ past_place w tree n p → (n == tree) ≡ false → is_some (group_of w p.mount) && has_unbindable w tree ≡ false
    → IsLate (attached w tree n path) w (whole_tree w tree) p (with_attached w tree p)
attached_late w tree n path p judged apart bindable = record { decided = judged ∙ passed (n == tree) IntoItself _ _ apart ∙ passed _ UnbindableInside _ _ bindable }

-- a namespace that is there has a root mount
root_of_space : (w : WorldView) (n : ℕ) → is_space w n ≡ true → (top : Mount) × (root_mount w.forest n ≡ Some top)
root_of_space w n there = by (root_mount w.forest n) refl there
  where
    by : (o : Option Mount) → root_mount w.forest n ≡ o → is_some o ≡ true → (top : Mount) × (root_mount w.forest n ≡ Some top)
    by None e is = absurd (cc)
    by (Some top) e is = (top, e)

-- what is attached moves, and its top is a root mount, of the tree
pub whole_moves : (w : WorldView) (n : ℕ) → is_whole (whole_tree w n) ≡ true
whole_moves w n = by (root_mount w.forest n) refl
  where
    by : (o : Option Mount) → root_mount w.forest n ≡ o → is_none (unwrap_or o unknown).place ≡ true
    by None e = refl
    by (Some top) e = (root_here n top (find_passes (is_root n) w.forest top e)).0

pub whole_space : (w : WorldView) (n : ℕ) → is_space w n ≡ true → (whole_tree w n).top.space ≡ n
whole_space w n there =
    let top = root_of_space w n there in
    ap (λ (o : Option Mount). (unwrap_or o unknown).space) top.1 ∙ (root_here n top.0 (find_passes (is_root n) w.forest top.0 top.1)).1

-- an attaching that is accepted
module _ (w : WorldView) (tree n : ℕ) (path : List (List ℕ)) (v : WorldView) (h : IsWellFormed w) (e : attached w tree n path ≡ Ok v) where
  place_space : space_of w (path_end w n path).mount ≡ n
  place_space = let a = attached_accepted w tree n path v e in let r = (walked w n h path (path_end w n path) a.ended).0 in space_is w (path_end w n path).mount r.0 r.1 ∙ r.2

  differs : n ≢ tree
  differs same = let a = attached_accepted w tree n path v e in let bad : true ≡ false = sym (eq-eqb n tree same) ∙ a.apart in absurd (cc)

  -- its place is a destination, and the tree a source tree
  pub goes : IsDestination w (path_end w n path)
  goes = let a = attached_accepted w tree n path v e in destination w n path (path_end w n path) h a.ended a.off_root

  pub source : IsSource w (whole_tree w tree) (path_end w n path)
  source =
      let a = attached_accepted w tree n path v e in
      let r = (walked w n h path (path_end w n path) a.ended).0 in
      let top = root_of_space w tree a.there in
      whole_source w h tree top.0 top.1 (path_end w n path) r.0 a.detached r.1 (λ same. differs (sym r.2 ∙ same))

  -- keeps the world well-formed
  pub attached_keeps : IsWellFormed v
  attached_keeps = subst IsWellFormed (attached_accepted w tree n path v e).world (source_kept w h (whole_tree w tree) (path_end w n path) source goes)

  -- a mount of the tree is of the namespace that the tree is
  whole_space_of : (i : ℕ) (m q : Mount) → mount_at (whole_tree w tree).mounts i ≡ Some m → mount_at w.forest i ≡ Some q → q.space ≡ tree
  whole_space_of i m q at row =
      let r = picked-row id_of (in_space tree) w.forest h.forest.rising i m at in
      ap (λ (m : Mount). m.space) (some-is q m (sym row ∙ r.0)) ∙ eqb-true m.space tree r.1

-- where no mount of the tree has a group or a master, each may cross
alone_crosses : (w : WorldView) (tree : ℕ) → has_linked w tree ≡ false → (i : ℕ) (m : Mount) → mount_at (whole_tree w tree).mounts i ≡ Some m → may_cross w (whole_tree w tree) i ≡ true
alone_crosses w tree none i m at =
    let key = row_at-key id_of i (mounts_in w.forest tree) m at in
    let off : is_linked w i ≡ false = ap (is_linked w) (sym key) ∙ any-row id_of (λ (m : Mount). is_linked w m.id) (mounts_in w.forest tree) i m none at in
    and-true (is_whole (whole_tree w tree)) (not (is_linked w i)) (whole_moves w tree) (ap not off)

-- and a family contained, if the tree comes from the side on which the place is, or has no group and no master
pub attached_contained : (family : ℕ → Bool) (w : WorldView) (tree n : ℕ) (path : List (List ℕ)) (v : WorldView) → IsWellFormed w → IsContained family w → (has_linked w tree ≡ true → family tree ≡ family n) → attached w tree n path ≡ Ok v → IsContained family v
attached_contained family w tree n path v h c beside e =
    let p = path_end w n path in
    subst (IsContained family) (attached_accepted w tree n path v e).world
    (copied-contained w h (whole_tree w tree) p (source w tree n path v h e) (goes w tree n path v h e) family (by (has_linked w tree) refl) c)
  where
    by : (b : Bool) → has_linked w tree ≡ b → CrossesNoBorder family w (whole_tree w tree) (path_end w n path)
    by true linked i m q at row stays = ap family (whole_space_of w tree n path v h e i m q at row) ∙ beside linked ∙ sym (ap family (place_space w tree n path v h e))
    by false none i m q at row stays = absurd (true≢false (sym (alone_crosses w tree none i m at) ∙ stays))

-- nothing changes outside a family that the tree and the namespace of the place are of
pub attached_outside : (family : ℕ → Bool) (w : WorldView) (tree n : ℕ) (path : List (List ℕ)) (v : WorldView) → IsWellFormed w → IsContained family w → family tree ≡ true → family n ≡ true → attached w tree n path ≡ Ok v → IsSameOutside family w v
attached_outside family w tree n path v h c of_tree here e =
    let p = path_end w n path in
    let at_place = ap family (place_space w tree n path v h e) ∙ here in
    let within : IsFromInside family w (whole_tree w tree) = λ i m q at row. ap family (whole_space_of w tree n path v h e i m q at row) ∙ of_tree in
    subst (IsSameOutside family w) (attached_accepted w tree n path v e).world
    (copied-outside w h (whole_tree w tree) p (source w tree n path v h e) (goes w tree n path v h e) family (λ i m q at row _. within i m q at row ∙ sym at_place) c within at_place)
