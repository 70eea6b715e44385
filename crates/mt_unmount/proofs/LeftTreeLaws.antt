-- The mounts of each namespace stay one tree where mounts go.
use Rattle.std.proofs.Common.{◌≡◌, ℕ, ◌<◌, Bool, true, false, not, List, map, Some, None, refl, sym, ap, subst, ◌∙◌}
use Rattle.std.specs.Option.{option_map}
use Rattle.std.proofs.lemmas.Bool.{false_from_ne_true, true≢false}
use Rattle.std.proofs.lemmas.Option.{none-some}
use Rattle.std.proofs.NetLemmas.Options.{map_some}
use Rattle.mt_skel.specs.Keyed.{without}
use Rattle.mt_skel.specs.Skeleton.{holds}
use Rattle.mt_skel.proofs.KeyedLaws.{row_at-key, rises-map, rises-filter}
use Rattle.mt_mounts.specs.declared.mount.Mount.{Mount}
use Rattle.mt_mounts.specs.declared.mount.Place.{Place}
use Rattle.mt_mounts.specs.Forest.{id_of, mount_at}
use Rattle.mt_mounts.proofs.SlotLaws.{none_found}
use Rattle.mt_mounts.proofs.CycleLaws.{no_cycle, rank_of}
use Rattle.mt_propagate.specs.World.{WorldView}
use Rattle.mt_propagate.specs.WellFormed.{IsForest, IsWellFormed}
use Rattle.mt_propagate.proofs.RowLaws.{mapped-row, row-mapped, kept-row, row-kept}
use Rattle.mt_propagate.proofs.TreeLaws.{parent-from}
use Rattle.mt_unmount.specs.Sliding.{CanGo, slid}
use Rattle.mt_unmount.proofs.SlideLaws.{StaysAt, slid-there, slid-single}

module _ (w : WorldView) (goes : ℕ → Bool) where
  abbrev pub leaves : Mount → Bool
  leaves m = goes m.id

  abbrev pub moved : Mount → Mount
  moved m = record m { place = option_map (slid w goes) m.place }

  abbrev pub left_mounts : List Mount
  left_mounts = map moved (without leaves w.forest)

module _ (w : WorldView) (h : IsWellFormed w) (goes : ℕ → Bool) where
  -- the mount that stays as y with the ID k
  pub record Stays (k : ℕ) (y : Mount) : Type 0 where
    pub mount : Mount
    pub there : mount_at w.forest k ≡ Some mount
    pub stays : goes k ≡ false
    pub made : y ≡ moved w goes mount

  pub row-of : (k : ℕ) (y : Mount) → mount_at (left_mounts w goes) k ≡ Some y → Stays k y
  row-of k y e =
      let m = mapped-row id_of (moved w goes) (λ m. refl) (without (leaves w goes) w.forest) k y e in
      let x = kept-row id_of (leaves w goes) w.forest h.forest.rising k m.0 m.1 in
      record { mount = m.0; there = x.0; stays = ap goes (sym (row_at-key id_of k w.forest m.0 x.0)) ∙ x.1; made = m.2 }

  pub stays-in : (k : ℕ) (m : Mount) → mount_at w.forest k ≡ Some m → goes k ≡ false → mount_at (left_mounts w goes) k ≡ Some (moved w goes m)
  stays-in k m e off =
      row-mapped id_of (moved w goes) (λ m. refl) (without (leaves w goes) w.forest) k m
      (row-kept id_of (leaves w goes) w.forest h.forest.rising k m (ap goes (row_at-key id_of k w.forest m e) ∙ off) e)

  -- one that goes is not there then
  pub gone-from : (k : ℕ) → goes k ≡ true → mount_at (left_mounts w goes) k ≡ None
  gone-from k is = none_found _ (λ y e. true≢false (sym is ∙ (row-of k y e).stays))

  -- where it came from
  place-was : (k : ℕ) (y : Mount) (q : Place) (s : Stays k y) → y.place ≡ Some q → (p : Place) × StaysAt w h goes k s.mount p × (q ≡ slid w goes p)
  place-was k y q s e =
      map_some (slid w goes) s.mount.place q (ap (λ (m : Mount). m.place) (sym s.made) ∙ e) (λ p at same. (p, record { there = s.there; stands = at; stays = s.stays }, sym same))

  root-was : (k : ℕ) (y : Mount) (s : Stays k y) → y.place ≡ None → s.mount.place ≡ None
  root-was k y s e = none_found s.mount.place (λ p at. none-some (slid w goes p) (sym e ∙ ap (λ (m : Mount). m.place) s.made ∙ ap (option_map (slid w goes)) at))

  space-was : (k : ℕ) (y : Mount) (s : Stays k y) → y.space ≡ s.mount.space
  space-was k y s = ap (λ (m : Mount). m.space) s.made

  module _ (can : CanGo w goes) where
    pub root-stays : (j : ℕ) (r : Mount) → mount_at w.forest j ≡ Some r → r.place ≡ None → goes j ≡ false
    root-stays j r e none = false_from_ne_true (goes j) (λ is. let p = can.placed j r is e in none-some p.0 (sym none ∙ p.1))

    pub left-forest : IsForest w.skel (left_mounts w goes)
    left-forest = record {
      rising =
          rises-map id_of (moved w goes) (λ m. refl) (without (leaves w goes) w.forest) ∙ rises-filter id_of (λ m. not (leaves w goes m)) w.forest h.forest.rising;
      placed = λ k y q e at.
          let s = row-of k y e in
          let p = place-was k y q s at in
          let t = slid-there w h goes can p.1 in
          let on = h.forest.placed t.0.id t.0.mount (slid w goes p.0) t.0.there t.0.stands in (
            moved w goes on.0,
            ap (λ (q : Place). mount_at (left_mounts w goes) q.mount) p.2 ∙ stays-in (slid w goes p.0).mount on.0 on.1 t.1,
            on.2 ∙ t.0.space ∙ sym (space-was k y s),
            ap (λ (q : Place). holds w.skel on.0.root q.dir) p.2 ∙ on.3,
          );
      apart = λ k j a b q ea eb pa pb.
          let s = row-of k a ea in
          let t = row-of j b eb in
          let p = place-was k a q s pa in
          let r = place-was j b q t pb in
          let same = slid-single w h goes can p.1 r.1 (sym p.2 ∙ r.2) in
          h.forest.apart k j s.mount t.mount p.0 s.there t.there p.1.stands (r.1.stands ∙ ap (λ (q : Place). Some q) (sym same));
      rooted = λ k y e.
          let s = row-of k y e in
          let r = h.forest.rooted k s.mount s.there in
          (r.0, moved w goes r.1, stays-in r.0 r.1 r.2 (root-stays r.0 r.1 r.2 r.3), ap (option_map (slid w goes)) r.3, r.4 ∙ sym (space-was k y s));
      one_root = λ k j a b ea eb pa pb same.
          let s = row-of k a ea in
          let t = row-of j b eb in
          h.forest.one_root k j s.mount t.mount s.there t.there (root-was k a s pa) (root-was j b t pb) (sym (space-was k a s) ∙ same ∙ space-was j b t);
      no_cycle = no_cycle (left_mounts w goes) (rank_of w.forest) (λ k j e.
          let m = parent-from (left_mounts w goes) k j e in
          let s = row-of k m.0 m.2 in
          let p = place-was k m.0 m.1 s m.3 in
          let t = slid-there w h goes can p.1 in
          subst (λ j. rank_of w.forest j < rank_of w.forest k) (ap (λ (q : Place). q.mount) (sym p.2) ∙ m.4) t.0.lower);
    }
