-- Where mounts are changed, a contained family of namespaces stays contained, and a change in it changes nothing outside.
use Rattle.std.proofs.Common.{◌≡◌, ℕ, Bool, true, false, cond, ◌||◌, ◌&&◌, eqb, eqb-true, List, map, length, Option, Some, None, Ok, refl, sym, ap, subst, ◌∙◌}
use Rattle.std.specs.Prelude.{unwrap_or}
use Rattle.std.specs.List.{filter}
use Rattle.std.specs.Option.{option_map, option_map_or, option_and_then}
use Rattle.std.proofs.lemmas.Bool.{true≢false}
use Rattle.mt_skel.proofs.KeyedLaws.{row_at-map}
use Rattle.mt_skel.proofs.MiddleLaws.{and_second, each_still}
use Rattle.mt_mounts.specs.declared.mount.Mount.{Mount}
use Rattle.mt_mounts.specs.declared.mount.Place.{Place}
use Rattle.mt_mounts.specs.Forest.{id_of, mount_at, in_space, parent, is_below}
use Rattle.mt_mounts.proofs.Walks.{below_stop}
use Rattle.mt_peers.specs.declared.state.Kind.{Kind}
use Rattle.mt_peers.specs.Peers.{Peering, state_at}
use Rattle.mt_peers.specs.Making.{made}
use Rattle.mt_peers.proofs.ClosedLaws.{IsClosed, same-IsClosed}
use Rattle.mt_propagate.specs.World.{WorldView, state_of, space_of, private}
use Rattle.mt_propagate.specs.WellFormed.{IsWellFormed}
use Rattle.mt_propagate.specs.Contained.{IsContained, IsSameOutside}
use Rattle.mt_propagate.proofs.ContainedLaws.{closed, contained, made-contained, made-state, below-space, ended-inside}
use Rattle.mt_propagate.proofs.CopyRowLaws.{space_is}
use Rattle.mt_propagate.proofs.RowLaws.{found-each, part-mapped}
use Rattle.mt_setattr.specs.declared.change.Change.{Change}
use Rattle.mt_setattr.specs.Change.{changed_attrs, changed_mount, is_chosen, with_change, attributed}
use Rattle.mt_setattr.proofs.AcceptedLaws.{path_end, change_accepted}
use Rattle.mt_setattr.proofs.ChangeLaws.{change-kept}

module _ (w : WorldView) (h : IsWellFormed w) (c : Change) (i : ℕ) (family : ℕ → Bool) (a : IsContained family w) where
  abbrev change : Mount → Mount
  change = changed_mount c (is_chosen w c i)

  abbrev remade : Option Kind → Peering
  remade o = option_map_or (λ k. made k (is_chosen w c i) w.peering) o w.peering

  -- each mount stays in its namespace
  same-space : (j : ℕ) → unwrap_or (option_map (λ (m : Mount). m.space) (mount_at (map change w.forest) j)) 0 ≡ space_of w j
  same-space j = ap (λ o. unwrap_or (option_map (λ (m : Mount). m.space) o) 0) (row_at-map id_of change (λ m. refl) j w.forest) ∙ go (mount_at w.forest j)
    where
      go : (o : Option Mount) → unwrap_or (option_map (λ (m : Mount). m.space) (option_map change o)) 0 ≡ unwrap_or (option_map (λ (m : Mount). m.space) o) 0
      go None = refl
      go (Some m) = refl

  remade-closed : (o : Option Kind) → IsClosed (λ i. family (space_of w i) ≡ true) (remade o).peers
  remade-closed None = closed family w a
  remade-closed (Some k) = made-contained family w h a k (is_chosen w c i)

  -- a contained namespace stays so, wherever the mounts are
  pub change-contained : IsContained family (with_change w c i)
  unfolding with_change
  change-contained =
      contained family (with_change w c i) (change-kept w h c i).peering.rising
      (same-IsClosed (λ x. family (space_of w x) ≡ true) (λ x. family (space_of (with_change w c i) x) ≡ true) (remade c.prop).peers (λ j s e. let same = same-space j in (λ q. ap family same ∙ q, λ q. ap family (sym same) ∙ q)) (remade-closed c.prop))

  module _ (here : family (space_of w i) ≡ true) where
    -- the chosen mounts that are there are in the family
    chosen-inside : (j : ℕ) (m : Mount) → mount_at w.forest j ≡ Some m → is_chosen w c i j ≡ true → family m.space ≡ true
    chosen-inside j m e is = go (eqb i j) refl is
      where
        go : (b : Bool) → eqb i j ≡ b → (b || (c.recursive && is_below w.forest i j)) ≡ true → family m.space ≡ true
        go true same r = ap family (sym (space_is w j m e) ∙ ap (space_of w) (sym (eqb-true i j same))) ∙ here
        go false off r = ap family (sym (below-space w h i j m e (and_second c.recursive (is_below w.forest i j) r))) ∙ here

    unchanged : (m : Mount) → mount_at w.forest m.id ≡ Some m → family m.space ≡ false → change m ≡ m
    unchanged m e off = ap (λ b. let y : Mount = record m { attrs = cond b (changed_attrs c m.attrs) m.attrs } in y) (go (is_chosen w c i m.id) refl)
      where
        go : (b : Bool) → is_chosen w c i m.id ≡ b → is_chosen w c i m.id ≡ false
        go true is = absurd (true≢false (sym (chosen-inside m.id m e is) ∙ off))
        go false is = is

    same-mounts : (k : ℕ) → family k ≡ false → filter (in_space k) (map change w.forest) ≡ filter (in_space k) w.forest
    same-mounts k off =
        part-mapped (in_space k) change w.forest
        (each_still (λ m. mount_at w.forest m.id ≡ Some m) (λ m. (in_space k (change m) ≡ in_space k m) × (in_space k m ≡ true → change m ≡ m))
        (λ m e. (refl, λ is. unchanged m e (ap family (eqb-true m.space k is) ∙ off))) w.forest (found-each id_of w.forest h.forest.rising))

    same-state : (o : Option Kind) (j : ℕ) (m : Mount) → mount_at w.forest j ≡ Some m → family m.space ≡ false → unwrap_or (state_at (remade o).peers j) private ≡ state_of w j
    same-state None j m e off = refl
    same-state (Some k) j m e off = made-state family w h a k (is_chosen w c i) (λ x is. within x is) j m e off
      where
        within : (x : ℕ) → is_chosen w c i x ≡ true → family (space_of w x) ≡ true
        within x is = go (mount_at w.forest x) refl
          where
            -- no mount that is not there is chosen but the named one
            by : (b : Bool) → eqb i x ≡ b → parent w.forest x ≡ None → (b || (c.recursive && is_below w.forest i x)) ≡ true → family (space_of w x) ≡ true
            by true same up r = ap (λ k. family (space_of w k)) (sym (eqb-true i x same)) ∙ here
            by false off up r =
                absurd (true≢false (sym (and_second c.recursive (is_below w.forest i x) r) ∙ below_stop w.forest i (length w.forest) x up ∙ ap (λ b. b || false) off))

            go : (o : Option Mount) → mount_at w.forest x ≡ o → family (space_of w x) ≡ true
            go None at = by (eqb i x) refl (ap (option_and_then (λ m. option_map (λ (p : Place). p.mount) m.place)) at) is
            go (Some q) at = ap family (space_is w x q at) ∙ chosen-inside x q at is

    -- nothing changes outside
    pub change-outside : IsSameOutside family w (with_change w c i)
    unfolding with_change
    change-outside = record { skel = refl; mounts = same-mounts; states = same-state c.prop }

-- so it is where a change was accepted, in any namespace and in one of the family
pub attributed-contained : (family : ℕ → Bool) (w : WorldView) (n : ℕ) (path : List (List ℕ)) (c : Change) (v : WorldView) → IsWellFormed w → IsContained family w → attributed w n path c ≡ Ok v → IsContained family v
attributed-contained family w n path c v h inside e =
    subst (IsContained family) (change_accepted w n path c v e).world (change-contained w h c (path_end w n path).mount family inside)

pub attributed-outside : (family : ℕ → Bool) (w : WorldView) (n : ℕ) (path : List (List ℕ)) (c : Change) (v : WorldView) → IsWellFormed w → IsContained family w → family n ≡ true → attributed w n path c ≡ Ok v → IsSameOutside family w v
attributed-outside family w n path c v h inside here e =
    let a = change_accepted w n path c v e in
    subst (IsSameOutside family w) a.world (change-outside w h c (path_end w n path).mount family inside (ap family (ended-inside w h n path a.ended) ∙ here))
