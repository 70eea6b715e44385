-- An accepted mount makes new mounts just at its place and at the propagation targets.
use Rattle.std.proofs.Common.{◌≡◌, ℕ, ◌+◌, ◌<◌, ◌≤◌, Bool, true, false, not, List, [], ◌∷◌, ◌++◌, map, Option, Some, None, Ok, Result, refl, sym, ap, subst, ◌∙◌, arith, inl, inr}
use Rattle.std.specs.Prelude.{is_some}
use Rattle.std.specs.List.{filter, flat_map, position_or_len}
use Rattle.mt_skel.specs.declared.fault.Fault.{Fault}
use Rattle.mt_skel.specs.Keyed.{has}
use Rattle.mt_skel.specs.Skeleton.{is_directory}
use Rattle.mt_skel.proofs.ElementLaws.{In, in_map, in_row, in_flat}
use Rattle.mt_skel.proofs.MiddleLaws.{and_first}
use Rattle.mt_mounts.specs.declared.mount.Mount.{Mount}
use Rattle.mt_mounts.specs.declared.mount.Place.{Place}
use Rattle.mt_mounts.specs.Forest.{id_of, mount_at}
use Rattle.mt_mounts.specs.Walk.{walk}
use Rattle.mt_propagate.specs.World.{WorldView}
use Rattle.mt_propagate.specs.WellFormed.{IsWellFormed}
use Rattle.mt_propagate.specs.Receivers.{is_attached, targets}
use Rattle.mt_propagate.specs.Copies.{Source, destinations, new_copies, copy_eq}
use Rattle.mt_propagate.specs.Places.{arranged, copied_mount, new_mounts}
use Rattle.mt_propagate.specs.Copied.{copied}
use Rattle.mt_propagate.proofs.ListedLaws.{arranged-id}
use Rattle.mt_bind.specs.Sources.{fresh}
use Rattle.mt_bind.specs.Mounting.{mounted}
use Rattle.mt_bind.proofs.AcceptedLaws.{path_end, fs_of, mount_accepted}
use Rattle.mt_bind.proofs.MountLaws.{destination}
use Rattle.mt_reach.specs.Seen.{seen_rows, seen_directory}
use Rattle.mt_reach.specs.Reached.{reached}
use Rattle.mt_reach.specs.Laws.{new_places}
use Rattle.mt_reach.proofs.HitLaws.{reached_hits}

-- of two lists one passes, and the other does not
all_pass : {X : Type 0} (t : X → Bool) (xs : List X) → ((x : X) → In x xs → t x ≡ true) → filter t xs ≡ xs
all_pass t [] each = refl
all_pass t (x ∷ xs) each = let ih = all_pass t xs (λ y at. each y (inr at)) in let here = each x (inl refl) in grind arith

second_passes : {X : Type 0} (t : X → Bool) (xs ys : List X) → ((x : X) → In x xs → t x ≡ false) → filter t (xs ++ ys) ≡ filter t ys
second_passes t [] ys none = refl
second_passes t (x ∷ xs) ys none = let ih = second_passes t xs ys (λ y at. none y (inr at)) in let here = none x (inl refl) in grind arith

-- one element from each
single : {A B C : Type 0} (f : A → B) (g : B → C) (xs : List A) → map g (flat_map (λ x. f x ∷ []) xs) ≡ map (λ x. g (f x)) xs
single f g [] = refl
single f g (x ∷ xs) = let ih = single f g xs in λ i. g (f x) ∷ ih i

module _ (w : WorldView) (h : IsWellFormed w) (fs : ℕ) (p : Place) where
  abbrev src : Source
  src = fresh w fs

  abbrev is_new : Mount → Bool
  is_new m = not (has id_of m.id w.forest)

  -- what was there is not new, whatever becomes of it
  old_there : (m : Mount) → In m (map (arranged w src p) w.forest) → is_new m ≡ false
  old_there m at =
      let r = in_map (arranged w src p) m w.forest at in
      let id : m.id ≡ id_of r.0 = ap id_of (sym r.2) ∙ arranged-id w src p r.0 in
      ap (λ o. not (is_some o)) (ap (mount_at w.forest) id ∙ in_row id_of w.forest r.0 h.forest.rising r.1)

  -- no mount has a number as high as the next
  high_absent : (i : ℕ) → w.next_mount ≤ i → mount_at w.forest i ≡ None
  high_absent i l = go (mount_at w.forest i) refl
    where
      go : (o : Option Mount) → mount_at w.forest i ≡ o → o ≡ None
      go None e = refl
      go (Some m) e = let b = h.below i m e in absurd (let low : i < w.next_mount = b.1 in omega (arith, low, l))

  copy_high : (t : ℕ) → w.next_mount ≤ (copied_mount w src p t src.top).id
  copy_high t = let k = position_or_len (copy_eq (record { target = t; source = 0 })) (new_copies w src p) in let l : w.next_mount ≤ w.next_mount + k = omega arith in l

  new_there : (m : Mount) → In m (new_mounts w src p) → is_new m ≡ true
  new_there m at =
      let r = in_flat (λ t. map (copied_mount w src p t) src.mounts) m (destinations w src p) at in
      elim r.2 [
        | inl e ↦ ap (λ o. not (is_some o)) (ap (λ (x : Mount). mount_at w.forest x.id) (sym e) ∙ high_absent (copied_mount w src p r.0 src.top).id (copy_high r.0))
        | inr none ↦ absurd none
      ]

  places : map (λ (m : Mount). m.place) (new_mounts w src p) ≡ map (λ t. Some (record { mount = t; dir = p.dir })) (p.mount ∷ targets w p)
  places = single (λ t. copied_mount w src p t src.top) (λ (m : Mount). m.place) (destinations w src p)

  pub new_at : new_places w (copied w src p) ≡ map (λ t. Some (record { mount = t; dir = p.dir })) (p.mount ∷ targets w p)
  unfolding copied
  new_at =
      ap (map (λ (m : Mount). m.place)) (second_passes is_new (map (arranged w src p) w.forest) (new_mounts w src p) old_there ∙ all_pass is_new (new_mounts w src p) new_there)
      ∙ places

same_end : (r : Result Place Fault) (p q : Place) → r ≡ Ok p → r ≡ Ok q → p ≡ q
same_end r p q e f = let s : Ok p ≡ Ok q = sym e ∙ f in cc

pub come_where_reached : (w v : WorldView) (n i : ℕ) (name : List ℕ) (path : List (List ℕ)) (p : Place) → IsWellFormed w → mounted w n name path ≡ Ok (v, i) → walk w.skel w.forest n path ≡ Ok p
    → new_places w v ≡ map (λ t. Some (record { mount = t; dir = p.dir })) (p.mount ∷ filter (is_attached w) (reached (seen_rows w) p.mount (seen_directory w p.dir)))
come_where_reached w v n i name path p h e ended =
    let a = mount_accepted w n name path v i e in
    let q = path_end w n path in
    let d = destination w n path q h a.ended a.off_root in
    let there : is_directory w.skel q.dir ≡ true = and_first _ _ (and_first _ _ d.there.2) in
    let one = ap (new_places w) (sym a.world) ∙ new_at w h (fs_of w name) q
    ∙ ap (λ ts. map (λ t. Some (record { mount = t; dir = q.dir })) (q.mount ∷ filter (is_attached w) ts)) (sym (reached_hits w q h there)) in
    subst (λ (p : Place). new_places w v ≡ map (λ t. Some (record { mount = t; dir = p.dir })) (p.mount ∷ filter (is_attached w) (reached (seen_rows w) p.mount (seen_directory w p.dir)))) (same_end _ q p a.ended ended) one
