-- Where mounts stand: what is inside a mount, what a mount receives, and that what stays, or is below what stays,
-- stands at the root of a mount that goes.
use Rattle.std.proofs.Common.{◌≡◌, ℕ, zero, suc, Bool, true, false, not, ◌&&◌, ◌==◌, eqb, eqb-true, eq-eqb, length, Option, Some, None, refl, sym, ap, ◌∙◌}
use Rattle.std.specs.List.{list_any}
use Rattle.std.specs.Option.{option_map_or, unwrap_or}
use Rattle.std.proofs.lemmas.Bool.{true≢false, and_parts, not-true, or_left, or_right, false_from_ne_true, true_from_ne_false}
use Rattle.std.proofs.Math.Bool.{or-false}
use Rattle.mt_skel.specs.Chain.{chain}
use Rattle.mt_skel.proofs.ChainLaws.{chain-step, chain-last}
use Rattle.mt_skel.proofs.ElementLaws.{in_any, any_in, In}
use Rattle.mt_skel.proofs.KeyedLaws.{row_at-key}
use Rattle.mt_mounts.specs.declared.mount.Mount.{Mount}
use Rattle.mt_mounts.specs.declared.mount.Place.{Place}
use Rattle.mt_mounts.specs.Forest.{id_of, mount_at, parent, parents_up, is_below, root_place, on, is_at}
use Rattle.mt_mounts.proofs.ForestLaws.{find_row, find_passes}
use Rattle.mt_peers.proofs.AlikeLaws.{along}
use Rattle.mt_peers.proofs.MemberLaws.{some-is}
use Rattle.mt_propagate.specs.World.{WorldView, root_dir, space_of}
use Rattle.mt_propagate.specs.Named.{unknown}
use Rattle.mt_propagate.specs.WellFormed.{IsWellFormed}
use Rattle.mt_propagate.specs.Receivers.{hits}
use Rattle.mt_propagate.specs.Contained.{IsContained}
use Rattle.mt_propagate.proofs.TreeLaws.{parent-is}
use Rattle.mt_propagate.proofs.CopyRowLaws.{root_is, space_is}
use Rattle.mt_propagate.proofs.ContainLaws.{hit_contained}
use Rattle.mt_propagate.proofs.WalkLaws.{stands_at}
use Rattle.mt_unmount.specs.Sliding.{place_of, stands_inside, is_inside, CanGo}

module _ (w : WorldView) where
  -- the place of a mount, and a mount with a place
  pub place-at : (j : ℕ) (r : Mount) → mount_at w.forest j ≡ Some r → place_of w j ≡ r.place
  place-at j r e = ap (λ o. (unwrap_or o unknown).place) e

  pub placed-mount : (j : ℕ) (p : Place) → place_of w j ≡ Some p → (r : Mount) × (mount_at w.forest j ≡ Some r) × (r.place ≡ Some p)
  placed-mount j p e = go (mount_at w.forest j) refl e
    where
      go : (o : Option Mount) → mount_at w.forest j ≡ o → (unwrap_or o unknown).place ≡ Some p → (r : Mount) × (mount_at w.forest j ≡ Some r) × (r.place ≡ Some p)
      go None is e = absurd (let v : None ≡ Some p = e in cc)
      go (Some r) is e = (r, is, e)

  -- a mount that stands on another one, at its root or within it
  pub within-at : (i j : ℕ) (p : Place) → place_of w j ≡ Some p → p.mount ≡ i → stands_inside w i j ≡ not (p.dir == root_dir w i)
  within-at i j p e on =
      ap (λ o. option_map_or (λ (p : Place). (p.mount == i) && not (p.dir == root_dir w i)) o false) e
      ∙ ap (λ b. b && not (p.dir == root_dir w i)) (eq-eqb p.mount i on)

  -- whether it is within the root of the mount that it stands on tells which mount that is
  pub within-place : (i j : ℕ) → stands_inside w i j ≡ true → (p : Place) × (place_of w j ≡ Some p) × (p.mount ≡ i) × ((p.dir == root_dir w i) ≡ false)
  within-place i j e = go (place_of w j) refl e
    where
      go : (o : Option Place) → place_of w j ≡ o → option_map_or (λ (p : Place). (p.mount == i) && not (p.dir == root_dir w i)) o false ≡ true
          → (p : Place) × (place_of w j ≡ Some p) × (p.mount ≡ i) × ((p.dir == root_dir w i) ≡ false)
      go None is e = absurd (cc)
      go (Some p) is e =
          let b = and_parts (p.mount == i) (not (p.dir == root_dir w i)) e in
          (p, is, eqb-true p.mount i b.0, not-true (p.dir == root_dir w i) b.1)

  -- the place of a mount is on its parent
  pub parent-place : (j : ℕ) (p : Place) → place_of w j ≡ Some p → parent w.forest j ≡ Some p.mount
  parent-place j p e = let m = placed-mount j p e in parent-is w.forest j m.0 p m.1 m.2

module _ (w : WorldView) (h : IsWellFormed w) where
  -- whether a test holds of a mount or of one on its way up
  module _ (t : ℕ → Bool) where
    abbrev pub any_up : ℕ → Bool
    any_up j = list_any t (parents_up w.forest j)

    pub any-here : (j : ℕ) → t j ≡ true → any_up j ≡ true
    any-here j e = go (length w.forest)
      where
        go : (n : ℕ) → list_any t (chain (parent w.forest) n j) ≡ true
        go zero = or_left (t j) _ e
        go (suc n) = or_left (t j) _ e

    pub any-further : (j k : ℕ) → parent w.forest j ≡ Some k → any_up k ≡ true → any_up j ≡ true
    any-further j k up e = ap (list_any t) (chain-step (parent w.forest) (length w.forest) j k up (h.forest.no_cycle j)) ∙ or_right (t j) (any_up k) e

    pub any-last : (j : ℕ) → parent w.forest j ≡ None → any_up j ≡ true → t j ≡ true
    any-last j none e = sym (or-false (t j)) ∙ ap (list_any t) (sym (chain-last (parent w.forest) (length w.forest) j none)) ∙ e

    pub any-above : (j k : ℕ) → is_below w.forest k j ≡ true → any_up k ≡ true → any_up j ≡ true
    any-above j k below e = along (parent w.forest) (λ x. any_up x ≡ true → any_up j ≡ true) (λ x y holds up f. holds (any-further x y up f)) (length w.forest) j k (λ f. f) below e

    pub any-is : (j : ℕ) → any_up j ≡ true → (k : ℕ) × (is_below w.forest k j ≡ true) × (t k ≡ true)
    any-is j e = let k = in_any t (parents_up w.forest j) e in (k.0, any_in (eqb k.0) k.0 (parents_up w.forest j) k.1 (eq-eqb k.0 k.0 refl), k.2)

  -- what is inside a mount that is inside another one is inside that one
  pub inside-inside : (i k : ℕ) → is_inside w i k ≡ true → (j : ℕ) → is_inside w k j ≡ true → is_inside w i j ≡ true
  inside-inside i k out j e =
      let x = any-is (stands_inside w k) j e in
      let p = within-place w k x.0 x.2 in
      any-above (stands_inside w i) j x.0 x.1 (any-further (stands_inside w i) x.0 p.0.mount (parent-place w x.0 p.0 p.1) (ap (is_inside w i) p.2 ∙ out))

module _ (w : WorldView) (h : IsWellFormed w) (goes : ℕ → Bool) (can : CanGo w goes) where
  -- a mount inside none that goes
  abbrev pub Spared : ℕ → Type 0
  Spared j = (i : ℕ) → goes i ≡ true → is_inside w i j ≡ false

  -- so is one that stays, and the mount that it stands on
  pub spared : (j : ℕ) → goes j ≡ false → Spared j
  spared j off i on = false_from_ne_true (is_inside w i j) (λ is. true≢false (sym (can.inside i j on is) ∙ off))

  pub spared-above : (j k : ℕ) → parent w.forest j ≡ Some k → Spared j → Spared k
  spared-above j k e s i on = false_from_ne_true (is_inside w i k) (λ is. true≢false (sym (any-further w h (stands_inside w i) j k e is) ∙ s i on))

  -- where such a mount stands on one that goes, it stands at that one's root directory, and that one has a place
  pub record Gap (p : Place) : Type 0 where
    pub mount : Mount
    pub place : Place
    pub there : mount_at w.forest p.mount ≡ Some mount
    pub stands : mount.place ≡ Some place
    pub at_root : root_place mount ≡ p

  pub gap-below : (j : ℕ) (m : Mount) (p : Place) → Spared j → mount_at w.forest j ≡ Some m → m.place ≡ Some p → goes p.mount ≡ true → Gap p
  gap-below j m p s e at gone =
      let q = h.forest.placed j m p e at in
      let r = can.placed p.mount q.0 gone q.1 in
      let id : q.0.id ≡ p.mount = row_at-key id_of p.mount w.forest q.0 q.1 in
      let at_dir : (p.dir == root_dir w p.mount) ≡ true =
      true_from_ne_false (p.dir == root_dir w p.mount) (λ is.
      true≢false (sym (any-here w h (stands_inside w p.mount) j (within-at w p.mount j p (place-at w j m e ∙ at) refl ∙ ap not is)) ∙ s p.mount gone)) in
      let dir : p.dir ≡ q.0.root = eqb-true p.dir q.0.root (ap (λ d. p.dir == d) (sym (root_is w p.mount q.0 q.1)) ∙ at_dir) in
      record { mount = q.0; place = r.0; there = q.1; stands = r.1; at_root = (λ i. record { mount = id i; dir = sym dir i }) }

module _ (w : WorldView) (h : IsWellFormed w) where
  -- a mount that is found at a place is there, and stands at it
  pub found-on : (p : Place) (m : Mount) → on w.forest p ≡ Some m → (mount_at w.forest m.id ≡ Some m) × (m.place ≡ Some p)
  found-on p m e = (find_row (is_at p) w.forest m h.forest.rising e, stands_at p m (find_passes (is_at p) w.forest m e))

  -- it is in the namespace of the mount that it stands on
  pub under-space : (j : ℕ) (m : Mount) (p : Place) → mount_at w.forest j ≡ Some m → m.place ≡ Some p → space_of w p.mount ≡ space_of w j
  under-space j m p e at = let q = h.forest.placed j m p e at in space_is w p.mount q.0 q.1 ∙ q.2 ∙ sym (space_is w j m e)

  -- a mount j that another one receives: it stands at a target of that one's place, at the same directory
  pub record IsReceived (from j : ℕ) : Type 0 where
    pub place : Place
    pub stands : place_of w from ≡ Some place
    pub target : ℕ
    pub hit : In target (hits w place)
    pub mount : Mount
    pub there : mount_at w.forest j ≡ Some mount
    pub at : mount.place ≡ Some (record { mount = target; dir = place.dir })

  abbrev pub received-at : (from t : ℕ) (p : Place) (m : Mount) → place_of w from ≡ Some p → In t (hits w p) → on w.forest (record { mount = t; dir = p.dir }) ≡ Some m → IsReceived from m.id
  received-at from t p m own hit found = let f = found-on (record { mount = t; dir = p.dir }) m found in record { place = p; stands = own; target = t; hit = hit; mount = m; there = f.0; at = f.1 }

  pub received-placed : (from j : ℕ) (m : Mount) → IsReceived from j → mount_at w.forest j ≡ Some m → (p : Place) × (m.place ≡ Some p)
  received-placed from j m r e = (record { mount = r.target; dir = r.place.dir }, ap (λ (m : Mount). m.place) (some-is m r.mount (sym e ∙ r.there)) ∙ r.at)

  -- it is in a contained family of namespaces, if the other one is
  pub received-inside : (family : ℕ → Bool) → IsContained family w → (from j : ℕ) → IsReceived from j → family (space_of w from) ≡ true → family (space_of w j) ≡ true
  received-inside family c from j r here =
      let m = placed-mount w from r.place r.stands in
      ap family (sym (under-space j r.mount (record { mount = r.target; dir = r.place.dir }) r.there r.at))
      ∙ hit_contained family w c h.peering.rising r.place r.target r.hit (ap family (under-space from m.0 r.place m.1 m.2) ∙ here)
