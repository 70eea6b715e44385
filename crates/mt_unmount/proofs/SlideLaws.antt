-- Where the mounts slide that stand on mounts that go.
use Rattle.std.proofs.Common.{◌≡◌, ℕ, ◌-◌, ◌<◌, Bool, true, false, cond, not, length, Option, Some, None, refl, sym, ap, ◌∙◌, arith}
use Rattle.std.specs.List.{find}
use Rattle.std.specs.Option.{option_map, option_map_or}
use Rattle.std.proofs.lemmas.Bool.{false_from_ne_true}
use Rattle.std.proofs.lemmas.Option.{none-some}
use Rattle.mt_skel.specs.Chain.{chain, ends}
use Rattle.mt_skel.proofs.KeyedLaws.{row_at-key}
use Rattle.mt_skel.proofs.ChainLaws.{chain-step, ends-rank, chain-some, follow-stop, follow-holds}
use Rattle.mt_mounts.specs.declared.mount.Mount.{Mount}
use Rattle.mt_mounts.specs.declared.mount.Place.{Place}
use Rattle.mt_mounts.specs.Forest.{id_of, mount_at, on, parent, root_place}
use Rattle.mt_mounts.proofs.CycleLaws.{rank_of, stack_ends}
use Rattle.mt_mounts.proofs.Walks.{stacked}
use Rattle.mt_peers.proofs.MemberLaws.{some-is, length-chain-le}
use Rattle.mt_propagate.specs.World.{WorldView}
use Rattle.mt_propagate.specs.WellFormed.{IsWellFormed}
use Rattle.mt_propagate.proofs.TreeLaws.{parent-is, rank-fell, on-is}
use Rattle.mt_unmount.specs.Sliding.{place_of, is_inside, CanGo, slide, slid}
use Rattle.mt_unmount.proofs.StandingLaws.{place-at, placed-mount, spared, spared-above, gap-below}
use Rattle.mt_unmount.proofs.FoundLaws.{where_true}

module _ (w : WorldView) (h : IsWellFormed w) (goes : ℕ → Bool) where
  abbrev rank : ℕ → ℕ
  rank = rank_of w.forest

  -- a place on a mount that stays stays
  pub slid-here : (p : Place) → goes p.mount ≡ false → slid w goes p ≡ p
  slid-here p off = follow-stop (slide w goes) (length w.forest) p (ap (λ b. cond b (place_of w p.mount) None) off)

  -- the way of a slide ends, since each step leads to a mount further up
  falls : (x y : Place) → slide w goes x ≡ Some y → rank y.mount < rank x.mount
  falls x y e =
      let m = placed-mount w x.mount y (where_true (goes x.mount) (place_of w x.mount) y e).1 in
      rank-fell w.skel w.forest h.forest x.mount m.0 y m.1 m.2

  slide-ends : (p : Place) → ends (slide w goes) (length w.forest) p ≡ true
  slide-ends p =
      ends-rank (slide w goes) (λ q. rank q.mount - 1)
      (λ x y e. let f = falls x y e in let some = chain-some (parent w.forest) (length w.forest) y.mount in omega arith)
      (length w.forest) p (let l = length-chain-le (parent w.forest) (length w.forest) p.mount in omega arith)

  -- the first place of the stack at a place where a mount stands that stays
  abbrev heir_place : Place → Option Place
  heir_place q = find (λ r. option_map_or (λ (x : Mount). not (goes x.id)) (on w.forest r) false) (chain (stacked w.forest) (length w.forest) q)

  heir-step : (k : ℕ) (m : Mount) (p : Place) → mount_at w.forest k ≡ Some m → m.place ≡ Some p → heir_place p ≡ cond (not (goes k)) (Some p) (heir_place (root_place m))
  heir-step k m p e at =
      let found = on-is w.forest h.forest.rising h.forest.apart k m p e at in
      let next = chain-step (stacked w.forest) (length w.forest) p (root_place m) (ap (option_map root_place) found) (stack_ends w.forest h.forest.rising h.forest.no_cycle p) in
      ap (find (λ r. option_map_or (λ (x : Mount). not (goes x.id)) (on w.forest r) false)) next
      ∙ ap (λ b. cond b (Some p) (heir_place (root_place m)))
      (ap (λ o. option_map_or (λ (x : Mount). not (goes x.id)) o false) found ∙ ap (λ k. not (goes k)) (row_at-key id_of k w.forest m e))

  -- the mount m with the ID k stays, and its place is p
  pub record StaysAt (k : ℕ) (m : Mount) (p : Place) : Type 0 where
    pub there : mount_at w.forest k ≡ Some m
    pub stands : m.place ≡ Some p
    pub stays : goes k ≡ false

  -- a place q that the mount m with the ID k comes to from the place p: a mount of its namespace stood there, below m
  pub record Slides (k : ℕ) (m : Mount) (p q : Place) : Type 0 where
    pub id : ℕ
    pub mount : Mount
    pub there : mount_at w.forest id ≡ Some mount
    pub stands : mount.place ≡ Some q
    pub space : mount.space ≡ m.space
    pub lower : rank q.mount < rank k
    pub leads : heir_place q ≡ Some p
    pub spared : (j : ℕ) → goes j ≡ true → is_inside w j id ≡ false

  module _ (can : CanGo w goes) where
    slides-on : (k : ℕ) (m : Mount) (p q r : Place) → Slides k m p q → slide w goes q ≡ Some r → Slides k m p r
    slides-on k m p q r s e =
        let from = where_true (goes q.mount) (place_of w q.mount) r e in
        let gap = gap-below w h goes can s.id s.mount q s.spared s.there s.stands from.0 in
        let stands : gap.mount.place ≡ Some r = sym (place-at w q.mount gap.mount gap.there) ∙ from.1 in
        let below = h.forest.placed s.id s.mount q s.there s.stands in
        let same : below.0 ≡ gap.mount = some-is below.0 gap.mount (sym below.1 ∙ gap.there) in
        let f = falls q r e in
        let l = s.lower in
        record {
          id = q.mount;
          mount = gap.mount;
          there = gap.there;
          stands = stands;
          space = ap (λ (m : Mount). m.space) (sym same) ∙ below.2 ∙ s.space;
          lower = omega (arith, f, l);
          leads = heir-step q.mount gap.mount r gap.there stands ∙ ap (λ b. cond (not b) (Some r) (heir_place (root_place gap.mount))) from.0 ∙ ap heir_place gap.at_root ∙ s.leads;
          spared = spared-above w h goes can s.id q.mount (parent-is w.forest s.id s.mount q s.there s.stands) s.spared;
        }

    -- a mount that stays comes to a place on a mount that stays
    pub slid-there : {k : ℕ} {m : Mount} {p : Place} → StaysAt k m p → Slides k m p (slid w goes p) × (goes (slid w goes p).mount ≡ false)
    slid-there {k} {m} {p} s =
        let start : Slides k m p p =
        record {
          id = k;
          mount = m;
          there = s.there;
          stands = s.stands;
          space = refl;
          lower = rank-fell w.skel w.forest h.forest k m p s.there s.stands;
          leads = heir-step k m p s.there s.stands ∙ ap (λ b. cond (not b) (Some p) (heir_place (root_place m))) s.stays;
          spared = spared w h goes can k s.stays;
        } in
        let end = follow-holds (slide w goes) (Slides k m p) (slides-on k m p) (length w.forest) p start (slide-ends p) in
        (end.0, false_from_ne_true (goes (slid w goes p).mount) (ends-there (slid w goes p) end.0 end.1))
      where
        ends-there : (q : Place) → Slides k m p q → slide w goes q ≡ None → goes q.mount ≡ true → ⊥
        ends-there q s none is =
            let gap = gap-below w h goes can s.id s.mount q s.spared s.there s.stands is in
            none-some gap.place (sym none ∙ ap (λ b. cond b (place_of w q.mount) None) is ∙ place-at w q.mount gap.mount gap.there ∙ gap.stands)

    -- no two mounts that stay come to one place
    pub slid-single : {k j : ℕ} {m x : Mount} {p q : Place} → StaysAt k m p → StaysAt j x q → slid w goes p ≡ slid w goes q → p ≡ q
    slid-single {k} {j} {m} {x} {p} {q} s t same = some-is p q (sym (slid-there s).0.leads ∙ ap heir_place same ∙ (slid-there t).0.leads)
