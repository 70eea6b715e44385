-- Of the mounts that moved, those that stand on no other one have in their trees all that is below any.
use Rattle.std.proofs.Common.{◌≡◌, ℕ, zero, suc, ◌+◌, ◌-◌, ◌<◌, Bool, true, false, not, ◌&&◌, ◌||◌, eqb, eqb-true, eq-eqb, List, [], ◌∷◌, map, length, drop, Option, Some, None, refl, sym, ap, subst, ◌∙◌, inl, inr}
use Rattle.std.specs.List.{list_any}
use Rattle.std.specs.Option.{option_map_or}
use Rattle.std.proofs.Math.Bool.{or-false}
use Rattle.mt_skel.specs.Chain.{chain, ends}
use Rattle.mt_skel.specs.Keyed.{among}
use Rattle.mt_skel.proofs.ChainLaws.{chain-step, chain-last}
use Rattle.mt_skel.proofs.ElementLaws.{In, in_any, any_in, in_filter, in_filtered}
use Rattle.mt_skel.proofs.MiddleLaws.{and_first, and_second, and-true}
use Rattle.mt_mounts.proofs.Walks.{fuel_step}
use Rattle.mt_mounts.specs.Forest.{id_of, parent, parents_up, is_below, subtree}
use Rattle.mt_propagate.specs.World.{WorldView}
use Rattle.mt_propagate.specs.WellFormed.{IsWellFormed}
use Rattle.mt_propagate.specs.Touched.{IsTouched}
use Rattle.mt_propagate.proofs.BelowGroupLaws.{in-among, among-in}
use Rattle.mt_propagate.proofs.OutsideTagLaws.{same-bool}
use Rattle.mt_info.specs.MayDiffer.{has_moved, moves_along, moves_first, may_differ}
use Rattle.mt_info.proofs.PointLaws.{from_end}
use Rattle.mt_info.proofs.KeptRows.{moved_touched}

module _ (next : ℕ → Option ℕ) (t : ℕ → Bool) where
  -- some value above this one passes
  abbrev pub above : ℕ → ℕ → Bool
  above n x = list_any t (drop 1 (chain next n x))

  pub above-none : (n x : ℕ) → next x ≡ None → above n x ≡ false
  above-none n x e = ap (λ l. list_any t (drop 1 l)) (chain-last next n x e)

  above-first : (n y : ℕ) → list_any t (chain next n y) ≡ (t y || above n y)
  above-first zero y = refl
  above-first (suc n) y = refl

  above-step : (n i x y : ℕ) → i < n → next x ≡ Some y → above (n - i) x ≡ (t y || above (n - (i + 1)) y)
  above-step n i x y l e =
      ap (λ k. above k x) (fuel_step n i l) ∙ ap (λ o. list_any t (option_map_or (λ z. chain next (n - (i + 1)) z) o [])) e ∙ above-first (n - (i + 1)) y

  -- the one that is met passes, or the way goes on
  pub above-met : (n i x y : ℕ) (all b : Bool) → i < n → next x ≡ Some y → above (n - i) x ≡ all → t y ≡ b → (b || above (n - (i + 1)) y) ≡ all
  above-met n i x y all b l e is at = ap (λ c. c || above (n - (i + 1)) y) (sym at) ∙ sym (above-step n i x y l e) ∙ is

  -- the last one that passes on a way up has none above it
  module _ (m : ℕ) (all : (x : ℕ) → ends next m x ≡ true) where
    abbrev pub IsLast : ℕ → Type 0
    IsLast x = (z : ℕ) × In z (chain next m x) × (t z ≡ true) × (above m z ≡ false)

    alone : (x : ℕ) → next x ≡ None → list_any t (chain next m x) ≡ true → IsLast x
    alone x e some =
        let one = chain-last next m x e in
        (x, subst (In x) (sym one) (inl refl), sym (or-false (t x)) ∙ (ap (list_any t) (sym one) ∙ some), above-none m x e)

    stepped : (x y : ℕ) → next x ≡ Some y → (list_any t (chain next m y) ≡ true → IsLast y) → list_any t (chain next m x) ≡ true → IsLast x
    stepped x y e later some = go (list_any t (chain next m y)) refl
      where
        more : chain next m x ≡ x ∷ chain next m y
        more = chain-step next m x y e (all x)

        go : (b : Bool) → list_any t (chain next m y) ≡ b → IsLast x
        go true is = let z = later is in (z.0, subst (In z.0) (sym more) (inr z.1), z.2, z.3)
        go false is =
            let here : t x ≡ true = sym (or-false (t x)) ∙ ap (λ b. t x || b) (sym is) ∙ ap (list_any t) (sym more) ∙ some in
            (x, subst (In x) (sym more) (inl refl), here, ap (λ l. list_any t (drop 1 l)) more ∙ is)

    pub last_of : (x : ℕ) → list_any t (chain next m x) ≡ true → IsLast x
    last_of x = from_end next (λ x. list_any t (chain next m x) ≡ true → IsLast x) alone stepped m x (all x)

module _ (w v : WorldView) (ids : List ℕ) (h : IsWellFormed v) (t : IsTouched w v ids) (j : ℕ) where
  -- what is below one that moved is below one that moved first
  found : list_any (λ i. has_moved w v i && among (subtree v.forest i) j) ids ≡ true → list_any (λ i. moves_first w v i && among (subtree v.forest i) j) ids ≡ true
  found e =
      let i = in_any (λ i. has_moved w v i && among (subtree v.forest i) j) ids e in
      let under = in_filter (is_below v.forest i.0) j (map id_of v.forest) (in-among (subtree v.forest i.0) j (and_second _ _ i.2)) in
      let k = in_any (λ k. eqb i.0 k) (parents_up v.forest j) under.1 in
      let moved : has_moved w v k.0 ≡ true = ap (has_moved w v) (sym (eqb-true i.0 k.0 k.2)) ∙ and_first _ _ i.2 in
      let z = last_of (parent v.forest) (has_moved w v) (length v.forest) h.forest.no_cycle j (any_in (has_moved w v) k.0 (parents_up v.forest j) k.1 moved) in
      let below : is_below v.forest z.0 j ≡ true = any_in (λ y. eqb z.0 y) z.0 (parents_up v.forest j) z.1 (eq-eqb z.0 z.0 refl) in
      any_in (λ i. moves_first w v i && among (subtree v.forest i) j) z.0 ids (in-among ids z.0 (moved_touched w v ids t z.0 z.2))
      (and-true (moves_first w v z.0) (among (subtree v.forest z.0) j) (and-true (has_moved w v z.0) (not (moves_along w v z.0)) z.2 (ap not z.3)) (among-in (subtree v.forest z.0) j (in_filtered (is_below v.forest z.0) j (map id_of v.forest) under.0 below)))

  kept : list_any (λ i. moves_first w v i && among (subtree v.forest i) j) ids ≡ true → list_any (λ i. has_moved w v i && among (subtree v.forest i) j) ids ≡ true
  kept e =
      let i = in_any (λ i. moves_first w v i && among (subtree v.forest i) j) ids e in
      any_in (λ i. has_moved w v i && among (subtree v.forest i) j) i.0 ids i.1
      (and-true (has_moved w v i.0) (among (subtree v.forest i.0) j) (and_first (has_moved w v i.0) _ (and_first (moves_first w v i.0) _ i.2)) (and_second (moves_first w v i.0) _ i.2))

  pub firsts_suffice : (among ids j || list_any (λ i. moves_first w v i && among (subtree v.forest i) j) ids) ≡ may_differ w v ids j
  firsts_suffice = ap (λ b. among ids j || b) (same-bool _ _ kept found)
