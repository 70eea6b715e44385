-- The mounts that are named for a refusal are none exactly where it does not hold.
use Rattle.std.proofs.Common.{◌≡◌, ◌↔◌, ℕ, Bool, true, false, cond, ◌&&◌, ◌||◌, List, [], ◌∷◌, map, Option, Some, None, refl, sym, ap, subst, ◌∙◌, arith}
use Rattle.std.specs.Prelude.{is_some}
use Rattle.std.specs.List.{filter, list_any}
use Rattle.std.specs.Option.{option_map_or}
use Rattle.mt_mounts.specs.declared.mount.Mount.{Mount}
use Rattle.mt_mounts.specs.Forest.{id_of, is_below, stands_on, parent}
use Rattle.mt_propagate.specs.World.{WorldView, state_of, group_of}
use Rattle.mt_propagate.specs.WellFormed.{IsWellFormed}
use Rattle.mt_bind.specs.Mounting.{stands_on_shared, any_unbindable}
use Rattle.mt_reach.specs.declared.row.SeenRow.{SeenRow}
use Rattle.mt_reach.specs.Rows.{seen_group}
use Rattle.mt_reach.specs.Tree.{seen_parent, seen_children, in_tree}
use Rattle.mt_reach.specs.Seen.{seen_rows}
use Rattle.mt_reach.specs.Refusals.{IsWitness, shared_parent, shared_of, is_unbindable_in, unbindable_inside, into_itself}
use Rattle.mt_reach.proofs.SeenLaws.{group_seen}
use Rattle.mt_reach.proofs.ParentLaws.{parent_seen, children_seen, tree_seen, mounts_seen}

-- no mount passes exactly where none is listed
none_passes : (s : Mount → Bool) (ms : List Mount) → IsWitness (map id_of (filter s ms)) (list_any s ms)
none_passes s [] = (λ e. refl, λ e. refl)
none_passes s (m ∷ ms) = go (s m) (none_passes s ms)
  where
    go : (b : Bool) → IsWitness (map id_of (filter s ms)) (list_any s ms) → IsWitness (map id_of (cond b (m ∷ filter s ms) (filter s ms))) (b || list_any s ms)
    go true ih = (λ e. absurd (cc), λ e. absurd (cc))
    go false ih = ih

-- those that pass two tests
any_both : (s t : Mount → Bool) (ms : List Mount) → list_any (λ m. s m && t m) ms ≡ list_any s (filter t ms)
any_both s t [] = refl
any_both s t (m ∷ ms) = grind (arith, any_both s t ms)

-- under a condition
only_if : (b : Bool) (ids : List ℕ) (c : Bool) → IsWitness ids c → IsWitness (cond b ids []) (b && c)
only_if true ids c w = w
only_if false ids c w = (λ e. refl, λ e. refl)

some_if : (b : Bool) (i : ℕ) (ids : List ℕ) → IsWitness (cond b (i ∷ ids) []) b
some_if true i ids = (λ e. absurd (cc), λ e. absurd (cc))
some_if false i ids = (λ e. refl, λ e. refl)

-- an option that a test leaves
none_left : (t : ℕ → Option ℕ) (o : Option ℕ) → (shared_of t o ≡ None) ↔ (option_map_or (λ k. is_some (t k)) o false ≡ false)
none_left t None = (λ e. refl, λ e. refl)
none_left t (Some k) = go (is_some (t k))
  where
    go : (b : Bool) → (cond b (Some k) None ≡ None) ↔ (b ≡ false)
    go true = (λ e. absurd (cc), λ e. absurd (cc))
    go false = (λ e. refl, λ e. refl)

module _ (w : WorldView) (h : IsWellFormed w) where
  pub busy_witnessed : (i : ℕ) → IsWitness (seen_children (seen_rows w) i) (list_any (stands_on i) w.forest)
  busy_witnessed i = subst (λ ids. IsWitness ids (list_any (stands_on i) w.forest)) (sym (children_seen w h i)) (none_passes (stands_on i) w.forest)

  shared_seen : (i : ℕ) → shared_parent (seen_rows w) i ≡ shared_of (group_of w) (parent w.forest i)
  shared_seen i =
      let groups : seen_group (seen_rows w) ≡ group_of w = λ k x. group_seen w h x k in
      ap (λ f. shared_of f (seen_parent (seen_rows w) i)) groups ∙ ap (shared_of (group_of w)) (parent_seen w h i)

  pub shared_witnessed : (i : ℕ) → (shared_parent (seen_rows w) i ≡ None) ↔ (stands_on_shared w i ≡ false)
  shared_witnessed i = subst (λ o. (o ≡ None) ↔ (stands_on_shared w i ≡ false)) (sym (shared_seen i)) (none_left (group_of w) (parent w.forest i))

  unbindable_seen : (i dest : ℕ) → unbindable_inside (seen_rows w) i dest ≡ cond (is_some (group_of w dest)) (map id_of (filter (λ (m : Mount). (state_of w m.id).unbindable && is_below w.forest i m.id) w.forest)) []
  unfolding is_unbindable_in
  unbindable_seen i dest =
      let listed = mounts_seen w h (λ (r : SeenRow). r.unbindable && in_tree (seen_rows w) i r.id) (λ (m : Mount). (state_of w m.id).unbindable && is_below w.forest i m.id)
      (λ m. ap (λ b. (state_of w m.id).unbindable && b) (tree_seen w h i m.id)) in
      (λ k. cond (is_some (group_seen w h dest k)) (listed k) [])

  pub unbindable_witnessed : (i dest : ℕ) → IsWitness (unbindable_inside (seen_rows w) i dest) (is_some (group_of w dest) && any_unbindable w i)
  unbindable_witnessed i dest =
      let u : Mount → Bool = λ m. (state_of w m.id).unbindable in
      let b : Mount → Bool = λ m. is_below w.forest i m.id in
      let one = subst (IsWitness (map id_of (filter (λ m. u m && b m) w.forest))) (any_both u b w.forest) (none_passes (λ m. u m && b m) w.forest) in
      subst (λ ids. IsWitness ids (is_some (group_of w dest) && any_unbindable w i)) (sym (unbindable_seen i dest)) (only_if (is_some (group_of w dest)) (map id_of (filter (λ m. u m && b m) w.forest)) (any_unbindable w i) one)

  pub into_witnessed : (i dest : ℕ) → IsWitness (into_itself (seen_rows w) i dest) (is_below w.forest i dest)
  into_witnessed i dest = subst (IsWitness (into_itself (seen_rows w) i dest)) (tree_seen w h i dest) (some_if (in_tree (seen_rows w) i dest) i _)
