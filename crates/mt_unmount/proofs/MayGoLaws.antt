-- Whether a mount may go: how many stand on it, and whether one stands at its root.
use Rattle.std.proofs.Common.{◌≡◌, ℕ, ◌<◌, Bool, true, false, cond, ◌&&◌, ◌||◌, ◌==◌, List, [], ◌∷◌, length, Option, Some, None, refl, sym, ap, ◌∙◌, inl, inr, arith}
use Rattle.std.specs.Prelude.{is_some}
use Rattle.std.specs.List.{filter, find, list_all, list_any}
use Rattle.std.specs.Option.{option_map_or}
use Rattle.std.proofs.lemmas.Bool.{and_from, false_from_ne_true}
use Rattle.std.proofs.lemmas.Bool.Decides.{nat_tests}
use Rattle.std.proofs.lemmas.List.{length-map}
use Rattle.std.proofs.Math.Bool.{or-false, and-true}
use Rattle.mt_skel.specs.Keyed.{rises}
use Rattle.mt_skel.proofs.ElementLaws.{In, in_filter, in_row}
use Rattle.mt_skel.proofs.KeyedLaws.{rises-filter}
use Rattle.mt_mounts.specs.declared.mount.Mount.{Mount}
use Rattle.mt_mounts.specs.declared.mount.Place.{Place}
use Rattle.mt_mounts.specs.Forest.{id_of, mount_at, on, is_at, place_eq, root_place, stands_on, children}
use Rattle.mt_propagate.specs.World.{WorldView}
use Rattle.mt_propagate.specs.WellFormed.{IsWellFormed}
use Rattle.mt_propagate.proofs.RowLaws.{all_in}
use Rattle.mt_propagate.proofs.WalkLaws.{stands_at}
use Rattle.mt_unmount.specs.Unmounting.{may_go}

-- a search finds a mount where one passes, and one passes two tests where one of those that pass the first passes the
-- second
found : (t : Mount → Bool) (xs : List Mount) → is_some (find t xs) ≡ list_any t xs
found t [] = refl
found t (x ∷ xs) = elim (t x) as (λ b. is_some (cond b (Some x) (find t xs)) ≡ (b || list_any t xs)) [ true ↦ refl | false ↦ found t xs ]

any-both : (s t both : Mount → Bool) → ((x : Mount) → both x ≡ (s x && t x)) → (xs : List Mount) → list_any both xs ≡ list_any t (filter s xs)
any-both s t both same [] = refl
any-both s t both same (x ∷ xs) =
    let rest = any-both s t both same xs in
    elim (s x) as (λ b. s x ≡ b → (both x || list_any both xs) ≡ list_any t (cond b (x ∷ filter s xs) (filter s xs))) [
      | true ↦ λ is. (λ i. (same x ∙ ap (λ b. b && t x) is) i || rest i)
      | false ↦ λ is. (λ i. (same x ∙ ap (λ b. b && t x) is) i || rest i)
    ] refl

-- of one mount alone any passes where all do
any-of-one : (t : Mount → Bool) (xs : List Mount) → length xs ≡ 1 → list_any t xs ≡ list_all t xs
any-of-one t [] e = absurd (omega (arith, e))
any-of-one t (x ∷ []) e = or-false (t x) ∙ sym (and-true (t x))
any-of-one t (x ∷ y ∷ xs) e = absurd (omega (arith, e))

-- and two mounts have two IDs
two-differ : (xs : List Mount) → 1 < length xs → rises id_of xs ≡ true → ((x y : Mount) → In x xs → In y xs → x.id ≡ y.id) → ⊥
two-differ [] more up one = absurd (omega (arith, more))
two-differ (x ∷ []) more up one = absurd (omega (arith, more))
two-differ (x ∷ y ∷ xs) more up one = let same = one x y (inl refl) (inr (inl refl)) in absurd (grind (arith, nat_tests, up, same))

module _ (w : WorldView) (h : IsWellFormed w) (m : Mount) where
  abbrev at_root_dir : Mount → Bool
  at_root_dir c = option_map_or (λ (p : Place). p.dir == m.root) c.place false

  abbrev standing : List Mount
  standing = filter (stands_on m.id) w.forest

  -- at the root of a mount stands what stands on it, at its root directory
  at-root : (c : Mount) → is_at (root_place m) c ≡ (stands_on m.id c && at_root_dir c)
  at-root c = go c.place
    where
      go : (o : Option Place) → option_map_or (place_eq (root_place m)) o false ≡ (option_map_or (λ (p : Place). p.mount == m.id) o false && option_map_or (λ (p : Place). p.dir == m.root) o false)
      go None = refl
      go (Some p) = grind (arith, nat_tests)

  how_many : (n : ℕ) → n ≡ length (children w.forest m.id) → length standing ≡ n
  how_many n e = sym (e ∙ length-map standing id_of)

  -- one mount does
  pub goes-under-one : (n : ℕ) → n ≡ length (children w.forest m.id) → n ≡ 1 → is_some (on w.forest (root_place m)) ≡ may_go w m
  goes-under-one n e one = found (is_at (root_place m)) w.forest ∙ any-both (stands_on m.id) at_root_dir (is_at (root_place m)) at-root w.forest ∙ any-of-one at_root_dir standing (how_many n e ∙ one)

  -- more do
  pub stays-under-more : (n : ℕ) → n ≡ length (children w.forest m.id) → 1 < n → false ≡ may_go w m
  stays-under-more n e more = sym (false_from_ne_true (may_go w m) (λ all.
      let many = how_many n e in
      two-differ standing (omega (arith, more, many)) (rises-filter id_of (stands_on m.id) w.forest h.forest.rising) (λ x y f g.
      let a = row x f all in
      let b = row y g all in
      h.forest.apart x.id y.id x y (root_place m) a.0 b.0 a.1 b.1)))
    where
      row : (x : Mount) → In x standing → list_all at_root_dir standing ≡ true → (mount_at w.forest x.id ≡ Some x) × (x.place ≡ Some (root_place m))
      row x f all =
          let g = in_filter (stands_on m.id) x w.forest f in
          (in_row id_of w.forest x h.forest.rising g.0, stands_at (root_place m) x (at-root x ∙ and_from (stands_on m.id x) (at_root_dir x) g.1 (all_in at_root_dir standing x all f)))
