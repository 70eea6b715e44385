-- Which mounts an unmount takes away, and that their children stand at their root directories.
use Rattle.std.proofs.Common.{◌≡◌, ◌⊎◌, ℕ, Bool, true, false, ◌==◌, eqb-true, eq-eqb, [], Option, Some, None, refl, sym, ap, ◌∙◌, subst, inl, inr}
use Rattle.std.specs.List.{filter, filter_map, list_any}
use Rattle.std.specs.Option.{option_map, option_map_or, is_none}
use Rattle.std.proofs.lemmas.Bool.{true≢false}
use Rattle.mt_skel.specs.Keyed.{among}
use Rattle.mt_skel.proofs.ElementLaws.{In, in_map, in_filter}
use Rattle.mt_skel.proofs.KeyedLaws.{row_at-key}
use Rattle.mt_mounts.specs.declared.mount.Mount.{Mount}
use Rattle.mt_mounts.specs.declared.mount.Place.{Place}
use Rattle.mt_mounts.specs.Forest.{id_of, mount_at, on, stands_on}
use Rattle.mt_propagate.specs.World.{WorldView, root_dir, space_of}
use Rattle.mt_propagate.specs.Receivers.{hits}
use Rattle.mt_propagate.specs.WellFormed.{IsWellFormed}
use Rattle.mt_propagate.specs.Contained.{IsContained}
use Rattle.mt_propagate.proofs.BelowGroupLaws.{in-among, among-in}
use Rattle.mt_propagate.proofs.RowLaws.{row-picked, all-row, any-row}
use Rattle.mt_propagate.proofs.CopyRowLaws.{root_is}
use Rattle.mt_unmount.specs.Sliding.{place_of, stands_inside, CanGo}
use Rattle.mt_unmount.specs.Unmounting.{may_go, going_at, removed, is_removed}
use Rattle.mt_unmount.specs.Detaching.{standing_at, received}
use Rattle.mt_unmount.proofs.StandingLaws.{place-at, placed-mount, within-place, any-is, IsReceived, received-at, received-placed, received-inside}
use Rattle.mt_unmount.proofs.FoundLaws.{in_filter_map, in_filter_mapped}

module _ (w : WorldView) (h : IsWellFormed w) (i : ℕ) where
  -- a mount that is received, and may go
  abbrev GoesToo : ℕ → Type 0
  GoesToo j = (r : IsReceived w h i j) × (may_go w r.mount ≡ true)

  -- what goes is the mount itself, or goes too
  removed-cases : (j : ℕ) → is_removed w i j ≡ true → (i ≡ j) ⊎ GoesToo j
  removed-cases j e = elim (in-among (removed w i) j e) [ inl here ↦ inl here | inr other ↦ inr (by (place_of w i) refl other) ]
    where
      by : (o : Option Place) → place_of w i ≡ o → In j (option_map_or (λ (p : Place). going_at w (hits w p) p.dir) o []) → GoesToo j
      by None own e = absurd e
      by (Some p) own e =
          let at : ℕ → Option Mount = λ t. on w.forest (record { mount = t; dir = p.dir }) in
          let m = in_map id_of j (filter (may_go w) (filter_map at (hits w p))) e in
          let f = in_filter (may_go w) m.0 (filter_map at (hits w p)) m.1 in
          let t = in_filter_map at m.0 (hits w p) f.0 in
          subst GoesToo m.2 (received-at w h i t.0 p m.0 own t.1 t.2, f.1)

  -- so all of it is in a contained family of namespaces, if the mount is
  pub removed-inside : (family : ℕ → Bool) → IsContained family w → family (space_of w i) ≡ true → (j : ℕ) → is_removed w i j ≡ true → family (space_of w j) ≡ true
  removed-inside family c here j e = elim (removed-cases j e) [ inl same ↦ ap (λ k. family (space_of w k)) (sym same) ∙ here | inr too ↦ received-inside w h family c i j too.0 here ]

  child-stands : (m : Mount) (p : Place) (j : ℕ) → m.place ≡ Some p → p.mount ≡ j → stands_on j m ≡ true
  child-stands m p j at on = ap (λ o. option_map_or (λ (p : Place). p.mount == j) o false) at ∙ eq-eqb p.mount j on

  -- the children of a mount that may go stand at its root directory
  child-at-root : (r : Mount) → may_go w r ≡ true → (k : ℕ) (m : Mount) (p : Place) → mount_at w.forest k ≡ Some m → m.place ≡ Some p → p.mount ≡ r.id → p.dir ≡ r.root
  child-at-root r may k m p e at on =
      let child = row-picked id_of (stands_on r.id) w.forest h.forest.rising k m (child-stands m p r.id at on) e in
      let passes = all-row id_of (λ (c : Mount). option_map_or (λ (p : Place). p.dir == r.root) c.place false) (filter (stands_on r.id) w.forest) k m may child in
      eqb-true p.dir r.root (ap (λ o. option_map_or (λ (p : Place). p.dir == r.root) o false) (sym at) ∙ passes)

  module _ (rooted : is_none (place_of w i) ≡ false) (bare : list_any (stands_on i) w.forest ≡ false) where
    -- no mount that goes is the root of a namespace
    removed-placed : (j : ℕ) (r : Mount) → is_removed w i j ≡ true → mount_at w.forest j ≡ Some r → (p : Place) × (r.place ≡ Some p)
    removed-placed j r e at = elim (removed-cases j e) [
      | inl same ↦ by r.place refl (ap is_none (sym (place-at w j r at) ∙ ap (place_of w) (sym same)) ∙ rooted)
      | inr too ↦ received-placed w h i j r too.0 at
    ]
      where
        by : (o : Option Place) → r.place ≡ o → is_none o ≡ false → (p : Place) × (r.place ≡ Some p)
        by None is e = absurd (cc)
        by (Some p) is e = (p, is)

    -- and none that goes has a mount inside it, so that the others can do without those that go
    pub removed-can-go : CanGo w (is_removed w i)
    removed-can-go = record {
      placed = removed-placed;
      inside = λ k j gone e.
          let c = any-is w h (stands_inside w k) j e in
          let p = within-place w k c.0 c.2 in
          absurd (none-within k c.0 p.0 p.1 p.2 p.3 gone);
    }
      where
        none-within : (k j : ℕ) (p : Place) → place_of w j ≡ Some p → p.mount ≡ k → (p.dir == root_dir w k) ≡ false → is_removed w i k ≡ true → ⊥
        none-within k j p e on off gone =
            let m = placed-mount w j p e in
            elim (removed-cases k gone) [
              | inl same ↦ absurd (true≢false (sym (child-stands m.0 p i m.2 (on ∙ sym same)) ∙ any-row id_of (stands_on i) w.forest j m.0 bare m.1))
              | inr too ↦
                  let id : too.0.mount.id ≡ k = row_at-key id_of k w.forest too.0.mount too.0.there in
                  let dir : p.dir ≡ too.0.mount.root = child-at-root too.0.mount too.1 j m.0 p m.1 m.2 (on ∙ sym id) in
                  absurd (true≢false (sym (eq-eqb p.dir (root_dir w k) (dir ∙ sym (root_is w k too.0.mount too.0.there))) ∙ off))
            ]

-- what goes but for the mount itself is what that one receives
pub removed-received : (w : WorldView) (i j : ℕ) → is_removed w i j ≡ true → (i ≡ j) ⊎ (among (received w i) j ≡ true)
removed-received w i j e = elim (in-among (removed w i) j e) [ inl here ↦ inl here | inr other ↦ inr (among-in (received w i) j (by (place_of w i) other)) ]
  where
    by : (o : Option Place) → In j (option_map_or (λ (p : Place). going_at w (hits w p) p.dir) o []) → In j (option_map_or (λ (p : Place). standing_at w (hits w p) p.dir) o [])
    by None e = e
    by (Some p) e =
        let at : ℕ → Option Mount = λ t. on w.forest (record { mount = t; dir = p.dir }) in
        let m = in_map id_of j (filter (may_go w) (filter_map at (hits w p))) e in
        let f = in_filter (may_go w) m.0 (filter_map at (hits w p)) m.1 in
        let t = in_filter_map at m.0 (hits w p) f.0 in
        in_filter_mapped (λ (s : ℕ). option_map id_of (at s)) j t.0 (hits w p) t.1 (ap (option_map id_of) t.2 ∙ ap (λ k. Some k) m.2)
