-- Which candidates of a detach go, and that they can.
use Rattle.std.proofs.Common.{◌≡◌, ◌⊎◌, ℕ, Bool, true, false, not, ◌&&◌, eqb, eqb-true, [], map, Option, Some, None, refl, sym, ap, subst, ◌∙◌, inl, inr}
use Rattle.std.specs.List.{filter, flat_map, list_all}
use Rattle.std.specs.Option.{option_map, option_map_or, is_none}
use Rattle.std.proofs.lemmas.Bool.{true≢false, and_parts, and_from, false_from_ne_true, true_from_ne_false}
use Rattle.std.proofs.NetLemmas.Options.{map_some}
use Rattle.mt_skel.proofs.ElementLaws.{In, in_append, in_filter, in_filtered, in_flat, in_map, in_mapped, in_row, row_in}
use Rattle.mt_skel.proofs.KeyedLaws.{row_at-key}
use Rattle.mt_mounts.specs.declared.mount.Mount.{Mount}
use Rattle.mt_mounts.specs.declared.mount.Place.{Place}
use Rattle.mt_mounts.specs.Forest.{id_of, mount_at, on, parent, is_below, subtree}
use Rattle.mt_mounts.proofs.CycleLaws.{above_of}
use Rattle.mt_propagate.specs.World.{WorldView, space_of}
use Rattle.mt_propagate.specs.WellFormed.{IsWellFormed}
use Rattle.mt_propagate.specs.Contained.{IsContained}
use Rattle.mt_propagate.specs.Receivers.{hits}
use Rattle.mt_propagate.proofs.BelowGroupLaws.{in-among}
use Rattle.mt_propagate.proofs.ContainedLaws.{below-space}
use Rattle.mt_propagate.proofs.CopyRowLaws.{space_is}
use Rattle.mt_propagate.proofs.RowLaws.{all_in, in_all}
use Rattle.mt_propagate.proofs.TreeLaws.{parent-from}
use Rattle.mt_unmount.specs.Sliding.{place_of, is_inside, inside, stands_inside, CanGo}
use Rattle.mt_unmount.specs.Detaching.{standing_at, received, candidates, is_candidate, is_detached}
use Rattle.mt_unmount.specs.Holding.{AreHeld}
use Rattle.mt_unmount.proofs.StandingLaws.{place-at, placed-mount, within-place, any-last, inside-inside, IsReceived, received-at, received-placed, received-inside}
use Rattle.mt_unmount.proofs.FoundLaws.{in_filter_map}

module _ (w : WorldView) (h : IsWellFormed w) where
  -- the mounts that pass a test are among its IDs, and those among them are mounts that pass
  picked-in : (t : ℕ → Bool) (j : ℕ) (m : Mount) → mount_at w.forest j ≡ Some m → t j ≡ true → In j (filter t (map id_of w.forest))
  picked-in t j m e is =
      in_filtered t j (map id_of w.forest) (subst (λ k. In k (map id_of w.forest)) (row_at-key id_of j w.forest m e) (in_mapped id_of m w.forest (row_in id_of j w.forest m e))) is

  in-picked : (t : ℕ → Bool) (j : ℕ) → In j (filter t (map id_of w.forest)) → (m : Mount) × (mount_at w.forest j ≡ Some m) × (t j ≡ true)
  in-picked t j e =
      let f = in_filter t j (map id_of w.forest) e in
      let r = in_map id_of j w.forest f.0 in
      (r.0, subst (λ k. mount_at w.forest k ≡ Some r.0) r.2 (in_row id_of w.forest r.0 h.forest.rising r.1), f.1)

  module _ (i : ℕ) where
    -- those that are not held go
    pub not-held : (held : ℕ → Bool) → AreHeld w (is_candidate w i) held → (j : ℕ) → (is_candidate w i j && not (held j)) ≡ is_detached w i j
    not-held held are j = go (is_candidate w i j) refl
      where
        one : is_candidate w i j ≡ true → (b : Bool) → held j ≡ b → not b ≡ list_all (is_candidate w i) (inside w j)
        one on true is = sym (false_from_ne_true (list_all (is_candidate w i) (inside w j)) (λ all.
            let z = are.only j is in
            true≢false (sym (all_in (is_candidate w i) (inside w j) z.0 all (picked-in (is_inside w j) z.0 z.1 z.2 z.4)) ∙ z.3)))
        one on false is = sym (in_all (is_candidate w i) (inside w j) (λ x e.
            let z = in-picked (is_inside w j) x e in
            true_from_ne_false (is_candidate w i x) (λ off. true≢false (sym (are.each j x z.0 on z.1 off z.2) ∙ is))))

        go : (b : Bool) → is_candidate w i j ≡ b → (b && not (held j)) ≡ (b && list_all (is_candidate w i) (inside w j))
        go true on = one on (held j) refl
        go false off = refl

    -- candidates that can go are among those that go
    pub detached-most : (goes : ℕ → Bool) → ((j : ℕ) → goes j ≡ true → is_candidate w i j ≡ true) → CanGo w goes → (j : ℕ) → goes j ≡ true → is_detached w i j ≡ true
    detached-most goes within can j e =
        and_from (is_candidate w i j) (list_all (is_candidate w i) (inside w j)) (within j e)
        (in_all (is_candidate w i) (inside w j) (λ x f. within x (can.inside j x e (in-picked (is_inside w j) x f).2)))

    -- a candidate is of the tree, or is received at a place of it
    candidate-cases : (j : ℕ) → is_candidate w i j ≡ true → In j (subtree w.forest i) ⊎ ((k : ℕ) × In k (subtree w.forest i) × IsReceived w h k j)
    candidate-cases j e = elim (in_append j (subtree w.forest i) (flat_map (received w) (subtree w.forest i)) (in-among (candidates w i) j e)) [
      | inl tree ↦ inl tree
      | inr other ↦ let k = in_flat (received w) j (subtree w.forest i) other in inr (k.0, k.1, by k.0 (place_of w k.0) refl k.2)
    ]
      where
        by : (k : ℕ) (o : Option Place) → place_of w k ≡ o → In j (option_map_or (λ (p : Place). standing_at w (hits w p) p.dir) o []) → IsReceived w h k j
        by k None own e = absurd e
        by k (Some p) own e =
            let t = in_filter_map (λ t. option_map id_of (on w.forest (record { mount = t; dir = p.dir }))) j (hits w p) e in
            map_some id_of (on w.forest (record { mount = t.0; dir = p.dir })) j t.2 (λ m at id. subst (IsReceived w h k) id (received-at w h k t.0 p m own t.1 at))

    -- so all that goes is in a contained family of namespaces, if the mount is
    pub detached-inside : (family : ℕ → Bool) → IsContained family w → family (space_of w i) ≡ true → (j : ℕ) → is_detached w i j ≡ true → family (space_of w j) ≡ true
    detached-inside family c here j e = elim (candidate-cases j (and_parts (is_candidate w i j) (list_all (is_candidate w i) (inside w j)) e).0) [
      | inl tree ↦ of-tree j tree
      | inr other ↦ received-inside w h family c other.0 j other.2 (of-tree other.0 other.1)
    ]
      where
        of-tree : (k : ℕ) → In k (subtree w.forest i) → family (space_of w k) ≡ true
        of-tree k f = let z = in-picked (is_below w.forest i) k f in ap family (space_is w k z.0 z.1 ∙ sym (below-space w h i k z.0 z.1 z.2)) ∙ here

    module _ (rooted : is_none (place_of w i) ≡ false) where
      -- a mount of the tree has a place
      tree-placed : (j : ℕ) (m : Mount) → In j (subtree w.forest i) → mount_at w.forest j ≡ Some m → (p : Place) × (m.place ≡ Some p)
      tree-placed j m e at = go m.place refl
        where
          go : (o : Option Place) → m.place ≡ o → (p : Place) × (o ≡ Some p)
          go (Some p) is = (p, refl)
          go None is =
              let none : parent w.forest j ≡ None = ap above_of at ∙ ap (option_map (λ (p : Place). p.mount)) is in
              let same = eqb-true i j (any-last w h (eqb i) j none (in-picked (is_below w.forest i) j e).2) in
              absurd (true≢false (ap is_none (sym (place-at w j m at ∙ is)) ∙ ap (λ k. is_none (place_of w k)) (sym same) ∙ rooted))

      candidate-placed : (j : ℕ) (m : Mount) → is_candidate w i j ≡ true → mount_at w.forest j ≡ Some m → (p : Place) × (m.place ≡ Some p)
      candidate-placed j m e at = elim (candidate-cases j e) [
        | inl tree ↦ tree-placed j m tree at
        | inr other ↦ received-placed w h other.0 j m other.2 at
      ]

      -- what is inside one that goes is a candidate, and so is all inside that
      pub detached-can-go : CanGo w (is_detached w i)
      detached-can-go = record {
        placed = λ j m e at. candidate-placed j m (and_parts (is_candidate w i j) (list_all (is_candidate w i) (inside w j)) e).0 at;
        inside = λ k j e is.
            let each : (x : ℕ) (m : Mount) → mount_at w.forest x ≡ Some m → is_inside w k x ≡ true → is_candidate w i x ≡ true =
            λ x m there in_k. all_in (is_candidate w i) (inside w k) x (and_parts (is_candidate w i k) (list_all (is_candidate w i) (inside w k)) e).1 (picked-in (is_inside w k) x m there in_k) in
            let there = inside-there k j is in
            and_from (is_candidate w i j) (list_all (is_candidate w i) (inside w j)) (each j there.0 there.1 is) (in_all (is_candidate w i) (inside w j) (λ x f.
            let z = in-picked (is_inside w j) x f in
            each x z.0 z.1 (inside-inside w h k j is x z.2)));
      }
        where
          -- what is inside a mount is a mount
          inside-there : (k j : ℕ) → is_inside w k j ≡ true → (m : Mount) × (mount_at w.forest j ≡ Some m)
          inside-there k j e = go (parent w.forest j) refl
            where
              go : (o : Option ℕ) → parent w.forest j ≡ o → (m : Mount) × (mount_at w.forest j ≡ Some m)
              go (Some y) up = let r = parent-from w.forest j y up in (r.0, r.2)
              go None up =
                  let p = within-place w k j (any-last w h (stands_inside w k) j up e) in
                  let m = placed-mount w j p.0 p.1 in
                  (m.0, m.1)
