-- A row is as it was except for the mounts that were touched, and those below one that was touched and moved.
use Rattle.std.proofs.Common.{◌≡◌, ℕ, zero, suc, Bool, true, false, not, ◌&&◌, ◌==◌, eqb, eqb-true, eq-eqb, List, map, length, Option, Some, None, refl, sym, ap, ◌∙◌, arith}
use Rattle.std.specs.List.{list_any}
use Rattle.std.specs.Option.{unwrap_or}
use Rattle.std.proofs.lemmas.Bool.{true≢false, not-false, or_parts, false_from_ne_true, true_from_ne_false}
use Rattle.std.proofs.lemmas.Bool.Decides.{nat_tests}
use Rattle.mt_skel.specs.Chain.{chain}
use Rattle.mt_skel.specs.Keyed.{among}
use Rattle.mt_skel.specs.Skeleton.{directory, filesystem}
use Rattle.mt_skel.proofs.ChainLaws.{chain-step}
use Rattle.mt_skel.proofs.ElementLaws.{in_any, any_in, in_filtered, in_mapped, row_in}
use Rattle.mt_skel.proofs.MiddleLaws.{and_first, and_second, and-true}
use Rattle.mt_mounts.specs.declared.mount.Mount.{Mount}
use Rattle.mt_mounts.specs.declared.mount.Place.{Place}
use Rattle.mt_mounts.specs.Forest.{id_of, mount_at, parent, parents_up, is_below, subtree}
use Rattle.mt_mounts.proofs.PlaceLaws.{same_place}
use Rattle.mt_propagate.specs.World.{WorldView, private}
use Rattle.mt_propagate.specs.WellFormed.{IsWellFormed}
use Rattle.mt_propagate.specs.Touched.{IsTouched}
use Rattle.mt_propagate.proofs.BelowGroupLaws.{in-among, among-in}
use Rattle.mt_info.specs.Table.{row_of}
use Rattle.mt_info.specs.MayDiffer.{place_stays, is_elsewhere, has_moved, may_differ}
use Rattle.mt_info.proofs.RowPaths.{row_alike}
use Rattle.mt_info.proofs.PointLaws.{parent_there}
use Rattle.mt_info.proofs.AlikeLaws.{IsAlike, same_parent, same_point}

same_stays : (o p : Option Place) → place_stays o p ≡ true → o ≡ p
same_stays None None e = refl
same_stays (Some p) (Some q) e = ap (λ x. Some x) (same_place p q e)
same_stays None (Some q) e = absurd (cc)
same_stays (Some p) None e = absurd (cc)

stays_same : (o : Option Place) → place_stays o o ≡ true
stays_same None = refl
stays_same (Some p) = grind (arith, nat_tests)

module _ (w v : WorldView) where
  -- what is there before and after and did not move is alike
  alike : (i : ℕ) (m n : Mount) → mount_at w.forest i ≡ Some m → mount_at v.forest i ≡ Some n → has_moved w v i ≡ false → IsAlike w v i
  alike i m n at to still =
      let both : (place_stays m.place n.place && (m.root == n.root)) ≡ true = not-false _ (sym (λ k. is_elsewhere (at k) (to k)) ∙ still) in
      (m, n, at, to, same_stays m.place n.place (and_first _ _ both), eqb-true m.root n.root (and_second _ _ both))

  -- what did not change did not move
  unmoved : (i : ℕ) → mount_at w.forest i ≡ mount_at v.forest i → has_moved w v i ≡ false
  unmoved i e = ap (λ o. is_elsewhere o (mount_at v.forest i)) e ∙ go (mount_at v.forest i)
    where
      go : (o : Option Mount) → is_elsewhere o o ≡ false
      go None = refl
      go (Some m) = ap not (and-true (place_stays m.place m.place) (m.root == m.root) (stays_same m.place) (grind (arith, nat_tests)))

-- what moved was touched
pub moved_touched : (w v : WorldView) (ids : List ℕ) → IsTouched w v ids → (i : ℕ) → has_moved w v i ≡ true → among ids i ≡ true
moved_touched w v ids t i e = true_from_ne_false (among ids i) (λ is. true≢false (sym e ∙ unmoved w v i (t.mounts i is)))

-- the first of a way
start-off : (next : ℕ → Option ℕ) (t : ℕ → Bool) (n x : ℕ) → list_any t (chain next n x) ≡ false → t x ≡ false
start-off next t zero x e = (or_parts (t x) false e).0
start-off next t (suc n) x e = (or_parts (t x) _ e).0

module _ (w v : WorldView) (h : IsWellFormed w) (g : IsWellFormed v) (same : w.skel ≡ v.skel) where
  -- a mount is alike, and neither it nor one above it moved: then that is true of its parent
  abbrev Still : ℕ → Type 0
  Still i = IsAlike w v i × (list_any (has_moved w v) (parents_up v.forest i) ≡ false)

  still_above : (i j : ℕ) → Still i → parent v.forest i ≡ Some j → Still j
  still_above i j x up =
      let a = x.0 in
      let before = parent_there w h i j a.0 a.2 (same_parent w v i a ∙ up) in
      let after = parent_there v g i j a.1 a.3 up in
      let rest : list_any (has_moved w v) (parents_up v.forest j) ≡ false =
      (or_parts (has_moved w v i) _ (ap (list_any (has_moved w v)) (sym (chain-step (parent v.forest) (length v.forest) i j up (g.forest.no_cycle i))) ∙ x.1)).1 in
      (alike w v j before.0 after.0 before.1 after.1 (start-off (parent v.forest) (has_moved w v) (length v.forest) j rest), rest)

  module _ (ids : List ℕ) (t : IsTouched w v ids) (m : Mount) (before : mount_at w.forest m.id ≡ Some m) (after : mount_at v.forest m.id ≡ Some m) (stays : may_differ w v ids m.id ≡ false) where
    -- no mount above one whose row stays has moved
    none_moved : list_any (has_moved w v) (parents_up v.forest m.id) ≡ false
    none_moved = false_from_ne_true _ (λ moved.
        let x = in_any (has_moved w v) (parents_up v.forest m.id) moved in
        let below : is_below v.forest x.0 m.id ≡ true = any_in (λ y. eqb x.0 y) x.0 (parents_up v.forest m.id) x.1 (eq-eqb x.0 x.0 refl) in
        let here = in_filtered (is_below v.forest x.0) m.id (map id_of v.forest) (in_mapped id_of m v.forest (row_in id_of m.id v.forest m after)) below in
        true≢false (sym (any_in (λ y. has_moved w v y && among (subtree v.forest y) m.id) x.0 ids (in-among ids x.0 (moved_touched w v ids t x.0 x.2)) (and-true _ _ x.2 (among-in (subtree v.forest x.0) m.id here)))
        ∙ (or_parts (among ids m.id) _ stays).1))

    pub row_kept : row_of w m ≡ row_of v m
    row_kept =
        let untouched = (or_parts (among ids m.id) _ stays).0 in
        row_alike w v m (λ i. directory (same i) m.root) (λ i. filesystem (same i) (directory (same i) m.root).fs)
        (same_point w v h g same Still (λ i x. x.0) still_above m.id ((m, m, before, after, refl, refl), none_moved))
        (ap (λ o. unwrap_or o private) (t.states m.id untouched)) (t.tags m.id untouched)
