-- What keeps the parents free of cycles, for callers that change a forest.
--     no_cycle_new       one mount more, with a new ID, on a mount that is there, where every parent is there
--     no_cycle_leaf      one mount more, on which none stands
--     no_cycle_moved     a mount moved to a place that is not below it
--     top_is_free        the place that `top` answers is free
use Rattle.std.proofs.Common.{◌≡◌, ◌≢◌, ℕ, zero, suc, ◌+◌, ◌-◌, ◌<◌, ◌≤◌, Bool, true, false, cond, ◌||◌, eqb, eq-eqb, List, [], map, length, Option, Some, None, refl, sym, ap, subst, ◌∙◌, inl, inr, arith}
use Rattle.std.specs.List.{list_any}
use Rattle.std.specs.Option.{option_map, option_map_or, option_and_then}
use Rattle.std.proofs.lemmas.Bool.{cases_eq, ne_eqb, cond-true, cond-false}
use Rattle.std.proofs.lemmas.Option.{none-some, option_and_then_some}
use Rattle.mt_skel.specs.Keyed.{put, rises}
use Rattle.mt_skel.specs.Chain.{chain, ends}
use Rattle.mt_skel.proofs.KeyedLaws.{row_at-key}
use Rattle.mt_skel.proofs.CountLaws.{length-of-map}
use Rattle.mt_skel.proofs.ElementLaws.{row_in, in_mapped, any_in}
use Rattle.mt_skel.proofs.ChainLaws.{chain-step, length-chain, ends-within, ends-rank, chain-some, follow-holds}
use Rattle.mt_mounts.specs.declared.mount.Mount.{Mount}
use Rattle.mt_mounts.specs.declared.mount.Place.{Place}
use Rattle.mt_mounts.specs.Forest.{id_of, mount_at, parent, is_below, on, is_at, root_place, top}
use Rattle.mt_mounts.specs.Tree.{HasNoCycle, HasParents}
use Rattle.mt_mounts.specs.ForestView.{with_place}
use Rattle.mt_mounts.proofs.SlotLaws.{none_found, mapped, row_put_here, row_put_later}
use Rattle.mt_mounts.proofs.ForestLaws.{find_row, find_passes}
use Rattle.mt_mounts.proofs.WrittenLaws.{moved_to, place_rows}
use Rattle.mt_mounts.proofs.PlaceLaws.{placed}
use Rattle.mt_mounts.proofs.Walks.{stacked, below_within, below_here, below_stop, below_step}

-- the parent of a mount, if there is one
abbrev pub above_of : Option Mount → Option ℕ
above_of o = option_and_then (λ m. option_map (λ (p : Place). p.mount) m.place) o

-- a mount that has a parent is there
known : (ms : List Mount) (x y : ℕ) → parent ms x ≡ Some y → list_any (eqb x) (map id_of ms) ≡ true
known ms x y e =
    option_and_then_some _ (mount_at ms x) y e
    (λ m is above. any_in (eqb x) m.id (map id_of ms) (in_mapped id_of m ms (row_in id_of x ms m is)) (eq-eqb x m.id (sym (row_at-key id_of x ms m is))))

-- parents have no cycle where some number of each mount falls from mount to parent
pub no_cycle : (ms : List Mount) (rank : ℕ → ℕ) → ((x y : ℕ) → parent ms x ≡ Some y → rank y < rank x) → HasNoCycle ms
no_cycle ms rank falls i = ap (λ n. ends (parent ms) n i) (sym (length-of-map id_of ms)) ∙ ends-within (parent ms) rank falls (map id_of ms) (known ms) i

-- where they have none, the length of the way up is such a number
abbrev pub rank_of : List Mount → ℕ → ℕ
rank_of ms x = length (chain (parent ms) (length ms) x)

pub rank_falls : (ms : List Mount) → HasNoCycle ms → (x y : ℕ) → parent ms x ≡ Some y → rank_of ms y < rank_of ms x
rank_falls ms h x y e = length-chain (parent ms) (length ms) x y e (h x)

-- one mount stands elsewhere, with all below it, on none of these: they get the numbers above that of its new parent
module _ (ms after : List Mount) (i : ℕ) (h : HasNoCycle ms) (others : (x : ℕ) → x ≢ i → parent after x ≡ parent ms x) (apart : (y : ℕ) → parent after i ≡ Some y → is_below ms i y ≡ false) where
  above_rank : ℕ
  above_rank = suc (option_map_or (rank_of ms) (parent after i) 0)

  moved_rank : ℕ → ℕ
  moved_rank x = cond (is_below ms i x) (rank_of ms x + above_rank) (rank_of ms x)

  no_cycle_at : HasNoCycle after
  unfolding above_rank moved_rank
  no_cycle_at = no_cycle after moved_rank (λ x y e.
      elim (cases_eq x i) [
        | inl at ↦
            let up : parent after i ≡ Some y = ap (parent after) (sym at) ∙ e in
            let rx : moved_rank x ≡ rank_of ms x + above_rank = cond-true _ _ _ (below_here ms i (length ms) x at) in
            let ry : moved_rank y ≡ rank_of ms y = cond-false _ _ _ (apart y up) in
            let high : above_rank ≡ suc (rank_of ms y) = ap (λ o. suc (option_map_or (rank_of ms) o 0)) up in
            omega arith
        | inr off ↦
            let was : parent ms x ≡ Some y = sym (others x off) ∙ e in
            let same : is_below ms i x ≡ is_below ms i y =
            ap (list_any (λ k. eqb i k)) (chain-step (parent ms) (length ms) x y was (h x)) ∙ ap (λ b. b || is_below ms i y) (ne_eqb i x (λ s. off (sym s))) in
            subst (λ b. cond b (rank_of ms y + above_rank) (rank_of ms y) < moved_rank x) same (shifted (is_below ms i x) (rank_of ms x) (rank_of ms y) (rank_falls ms h x y was))
      ])
    where
      shifted : (b : Bool) (rx ry : ℕ) → ry < rx → cond b (ry + above_rank) ry < cond b (rx + above_rank) rx
      shifted true rx ry f = omega arith
      shifted false rx ry f = f

-- one mount more, on which none stands
not_below : (ms : List Mount) (i : ℕ) → ((x : ℕ) → parent ms x ≢ Some i) → (n x : ℕ) → x ≢ i → below_within ms i n x ≡ false
not_below ms i leaf zero x ne = ap (λ b. b || false) (ne_eqb i x (λ s. ne (sym s)))
not_below ms i leaf (suc n) x ne = go (parent ms x) refl (λ y. not_below ms i leaf n y)
  where
    go : (o : Option ℕ) → parent ms x ≡ o → ((y : ℕ) → y ≢ i → below_within ms i n y ≡ false) → below_within ms i (suc n) x ≡ false
    go None e ih = below_stop ms i (suc n) x e ∙ ap (λ b. b || false) (ne_eqb i x (λ s. ne (sym s)))
    go (Some y) e ih = below_step ms i n x y ne e ∙ ih y (λ s. leaf x (e ∙ ap (λ k. Some k) s))

pub no_cycle_leaf : (ms : List Mount) (m : Mount) (h : HasNoCycle ms) (leaf : (x : ℕ) → parent ms x ≢ Some m.id) (off_itself : (p : Place) → m.place ≡ Some p → p.mount ≢ m.id) → HasNoCycle (put id_of m ms)
no_cycle_leaf ms m h leaf off_itself = no_cycle_at ms (put id_of m ms) m.id h (λ x ne. ap above_of (row_put_later ms m x (λ s. ne (sym s))))
    (λ y e.
    let p = mapped (λ (p : Place). p.mount) m.place y (sym (ap above_of (row_put_here ms m m.id refl)) ∙ e) in
    not_below ms m.id leaf (length ms) y (λ s. off_itself p.0 p.1 (p.2 ∙ s)))

-- where every parent is there, no mount stands on a new ID
pub no_cycle_new : (ms : List Mount) (m : Mount) → HasNoCycle ms → HasParents ms → mount_at ms m.id ≡ None
    → ((p : Place) → m.place ≡ Some p → mount_at ms p.mount ≢ None) → HasNoCycle (put id_of m ms)
no_cycle_new ms m h there new on_one =
    no_cycle_leaf ms m h (λ x e. there x m.id e new) (λ p e s. on_one p e (ap (mount_at ms) s ∙ new))

-- a mount moves to a place that is not below it
pub no_cycle_moved : (ms : List Mount) (i : ℕ) (p : Place) (h : HasNoCycle ms) (apart : is_below ms i p.mount ≡ false) → HasNoCycle (with_place i p ms)
no_cycle_moved ms i p h apart = no_cycle_at ms (with_place i p ms) i h (λ x ne. ap above_of (place_rows ms i p x ∙ cond-false _ _ _ (ne_eqb x i ne)))
    (λ y e. subst (λ z. is_below ms i z ≡ false) (go (mount_at ms i) y (sym (ap above_of (place_rows ms i p i ∙ cond-true _ _ _ (eq-eqb i i refl))) ∙ e)) apart)
  where
    go : (o : Option Mount) (y : ℕ) → above_of (option_map (moved_to p) o) ≡ Some y → p.mount ≡ y
    go None y e = absurd (cc)
    go (Some m) y e = cc

-- where parents have no cycle, the top of a stack is free: the way up gets longer along a stack
length_within : {X : Type 0} (next : X → Option X) (n : ℕ) (x : X) → length (chain next n x) ≤ suc n
length_within next zero x = omega arith
length_within next (suc n) x =
    elim (next x) as (λ o. suc (length (option_map_or (λ y. chain next n y) o [])) ≤ suc (suc n)) [ None ↦ omega arith | Some y ↦ omega (arith, length_within next n y) ]

module _ (ms : List Mount) (r : rises id_of ms ≡ true) (h : HasNoCycle ms) where
  parent_here : (p : Place) (m : Mount) → on ms p ≡ Some m → parent ms m.id ≡ Some p.mount
  parent_here p m e = ap above_of (find_row (is_at p) ms m r e) ∙ ap (option_map (λ (q : Place). q.mount)) (placed p m.place (find_passes (is_at p) ms m e))

  place_rank : Place → ℕ
  place_rank q = suc (length ms) - rank_of ms q.mount

  place_falls : (p q : Place) → stacked ms p ≡ Some q → place_rank q < place_rank p
  unfolding place_rank
  place_falls p q e =
      let m = mapped root_place (on ms p) q e in
      let same : rank_of ms m.0.id ≡ rank_of ms q.mount = ap (λ (x : Place). rank_of ms x.mount) m.2 in
      let falls = rank_falls ms h m.0.id p.mount (parent_here p m.0 m.1) in
      let high = length_within (parent ms) (length ms) m.0.id in
      omega arith

  pub stack_ends : (p : Place) → ends (stacked ms) (length ms) p ≡ true
  unfolding place_rank
  stack_ends p = ends-rank (stacked ms) place_rank place_falls (length ms) p (let some = chain-some (parent ms) (length ms) p.mount in omega arith)

  pub top_is_free : (p : Place) → on ms (top ms p) ≡ None
  top_is_free p =
      let free = (follow-holds (stacked ms) (λ q. Unit {0}) (λ q r h e. tt) (length ms) p tt (stack_ends p)).1 in
      none_found _ (λ m e. none-some (root_place m) (sym free ∙ ap (option_map root_place) e))
