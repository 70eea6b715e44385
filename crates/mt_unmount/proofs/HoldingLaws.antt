-- Which mounts hold others: upwards from those that stand on candidates and are none, each is met once. What is held is
-- what holds a mount inside it that is no candidate.
use Rattle.std.proofs.Common.{◌≡◌, ℕ, ◌+◌, ◌<◌, ◌≤◌, Bool, true, false, cond, not, ◌||◌, ◌==◌, eqb, eqb-true, eq-eqb, List, [], ◌∷◌, ◌++◌, take, map, length, get_or, Option, Some, None, refl, sym, ap, subst, ◌∙◌, inl, inr, arith, drop}
use Rattle.std.specs.Prelude.{nat_eq}
use Rattle.std.specs.List.{filter, flat_map, list_any, IsDistinct, filter_map}
use Rattle.std.specs.Option.{option_map_or, option_and_then}
use Rattle.std.proofs.lemmas.Bool.{not-true, not_from_false, or_cases, or_left, or_right, cases_lt}
use Rattle.std.proofs.lemmas.Bool.Decides.{nat_tests}
use Rattle.std.proofs.lemmas.Cmp.{nat_eq_equiv}
use Rattle.std.proofs.lemmas.List.{get_or_append_left, drop_all, append-nil}
use Rattle.std.proofs.lemmas.List.Folds.{list_any-append, list_any_at, list_any_more}
use Rattle.std.proofs.lemmas.Map.Made.{length-le_from_is_member}
use Rattle.std.proofs.lemmas.Option.{cond_some, option_and_then_some}
use Rattle.std.proofs.Math.Bool.{or-true, or-false}
use Rattle.indexmap.specs.IndexSet.{insert_key}
use Rattle.mt_skel.specs.Keyed.{among}
use Rattle.mt_skel.proofs.ElementLaws.{In, in_map, in_mapped, in_filter, in_filtered, in_flat, in_flatted, in_row, row_in}
use Rattle.mt_skel.proofs.KeyedLaws.{row_at-key}
use Rattle.mt_mounts.specs.declared.mount.Mount.{Mount}
use Rattle.mt_mounts.specs.declared.mount.Place.{Place}
use Rattle.mt_mounts.specs.Forest.{id_of, mount_at, parent, children, stands_on, is_below}
use Rattle.mt_peers.proofs.AlikeLaws.{along}
use Rattle.mt_peers.proofs.MemberLaws.{some-is}
use Rattle.mt_propagate.specs.World.{WorldView, root_dir}
use Rattle.mt_propagate.specs.WellFormed.{IsWellFormed}
use Rattle.mt_propagate.proofs.RowLaws.{length-keys, among-keys}
use Rattle.mt_propagate.proofs.TreeLaws.{parent-from}
use Rattle.mt_propagate.proofs.BelowGroupLaws.{in-among, among-in}
use Rattle.mt_unmount.specs.Holding.{staying_on, candidate_under, AreHolding, around, AreHeld}
use Rattle.mt_unmount.specs.Sliding.{place_of, stands_inside}
use Rattle.mt_unmount.proofs.StandingLaws.{any-here, any-further, any-above, within-at, within-place, parent-place, any-is}
use Rattle.mt_unmount.proofs.FoundLaws.{among-at, where_false, in_filter_map, in_filter_mapped}

-- numbers of a list
turned : (xs : List ℕ) (x : ℕ) → list_any (nat_eq x) xs ≡ among xs x
turned [] x = refl
turned (y ∷ ys) x = let ih = turned ys x in grind (arith, nat_tests)

-- one number more, if it is none of them
among-inserted : (ks : List ℕ) (k j : ℕ) → among (insert_key nat_eq ks k) j ≡ (among ks j || nat_eq k j)
among-inserted ks k j = go (list_any (nat_eq k) ks) refl (nat_eq k j) refl
  where
    go : (b : Bool) → list_any (nat_eq k) ks ≡ b → (c : Bool) → nat_eq k j ≡ c → among (cond b ks (ks ++ k ∷ [])) j ≡ (among ks j || c)
    go true is true same = (let e : among ks j ≡ true = ap (among ks) (sym (eqb-true k j same)) ∙ sym (turned ks k) ∙ is in e ∙ sym (or-true (among ks j)))
    go true is false same = sym (or-false (among ks j))
    go false is c same = list_any-append (λ i. nat_eq i j) ks (k ∷ []) ∙ ap (λ b. among ks j || b) (or-false (nat_eq k j) ∙ same)

-- a number of a list goes into a set, which has those before it already
pub inserted-next : (ks new ids : List ℕ) (v : ℕ) → v < length ids → new ≡ insert_key nat_eq ks (get_or ids v 0) → ((j : ℕ) → among ks j ≡ among (take v ids) j) → (j : ℕ) → among new j ≡ among (take (v + 1) ids) j
inserted-next ks new ids v l e all j =
    ap (λ xs. among xs j) e ∙ among-inserted ks (get_or ids v 0) j ∙ ap (λ b. b || nat_eq (get_or ids v 0) j) (all j) ∙ sym (list_any_more (λ k. nat_eq k j) ids v 0 l)

-- below a mount, or at it, there is one that is no candidate
abbrev pub HasStaying : WorldView → (ℕ → Bool) → ℕ → Type 0
HasStaying w candidate i = (j : ℕ) × (m : Mount) × (mount_at w.forest j ≡ Some m) × (candidate j ≡ false) × (is_below w.forest i j ≡ true)

-- all that were met, the first n of which were gone over
pub record IsMet (w : WorldView) (candidate : ℕ → Bool) (n : ℕ) (all : List ℕ) : Type 0 where
  pub starts : (i j : ℕ) → candidate i ≡ true → parent w.forest j ≡ Some i → candidate j ≡ false → among all j ≡ true
  pub closed : (i k : ℕ) → k < n → candidate i ≡ true → parent w.forest (get_or all k 0) ≡ Some i → among all i ≡ true
  pub sound : (i : ℕ) → among all i ≡ true → HasStaying w candidate i

module _ (w : WorldView) (h : IsWellFormed w) where
  -- what is on the way up from a mount is a mount
  up-there : (i j : ℕ) (m : Mount) → mount_at w.forest j ≡ Some m → is_below w.forest i j ≡ true → (x : Mount) × (mount_at w.forest i ≡ Some x)
  up-there i j m e b =
      along (parent w.forest) (λ k. (x : Mount) × (mount_at w.forest k ≡ Some x)) (λ x y here up.
      let r = parent-from w.forest x y up in
      let p = h.forest.placed x r.0 r.1 r.2 r.3 in
      (p.0, ap (mount_at w.forest) (sym r.4) ∙ p.1))
      (length w.forest) j i (m, e) b

  module _ (candidate : ℕ → Bool) where
    pub met-all : (v : ℕ) (all : List ℕ) → IsMet w candidate v all → length all ≤ v → AreHolding w candidate all
    met-all v all m l = record {
      starts = m.starts;
      closed = λ i j c up e.
          let k = among-at all j e in
          let in_all = k.1 in
          m.closed i k.0 (omega (arith, in_all, l)) c (ap (parent w.forest) k.2 ∙ up);
      sound = m.sound;
    }

    -- no more are met than there are mounts
    pub met-bound : (n : ℕ) (all : List ℕ) → IsMet w candidate n all → IsDistinct nat_eq all → length all ≤ length w.forest
    met-bound n all m distinct =
        let some = length-le_from_is_member nat_eq_equiv all (map id_of w.forest) distinct (λ q e.
        let s = m.sound q (sym (turned all q) ∙ e) in
        let x = up-there q s.0 s.1 s.2 s.4 in
        among-keys id_of q w.forest x.0 x.1) in
        let same = length-keys id_of w.forest in
        omega (arith, some, same)

    -- one more is gone over
    module _ (v : ℕ) (all : List ℕ) (m : IsMet w candidate v all) (within : v < length all) where
      abbrev y : ℕ
      y = get_or all v 0

      abbrev grown : Option ℕ → List ℕ
      grown o = option_map_or (insert_key nat_eq all) o all

      -- all that were met stay, where they are
      still : (o : Option ℕ) (j : ℕ) → among all j ≡ true → among (grown o) j ≡ true
      still None j e = e
      still (Some x) j e = among-inserted all x j ∙ or_left (among all j) (nat_eq x j) e

      same-at : (o : Option ℕ) (k : ℕ) → k < length all → get_or (grown o) k 0 ≡ get_or all k 0
      same-at None k l = refl
      same-at (Some x) k l = elim (list_any (nat_eq x) all) as (λ b. get_or (cond b all (all ++ x ∷ [])) k 0 ≡ get_or all k 0) [ true ↦ refl | false ↦ get_or_append_left all (x ∷ []) 0 k l ]

      closed : (i k : ℕ) → k < v + 1 → candidate i ≡ true → parent w.forest (get_or (grown (candidate_under w candidate y)) k 0) ≡ Some i → among (grown (candidate_under w candidate y)) i ≡ true
      closed i k l c e =
          let up : parent w.forest (get_or all k 0) ≡ Some i = ap (parent w.forest) (sym (same-at (candidate_under w candidate y) k (omega (arith, l, within)))) ∙ e in
          elim (cases_lt k v) [
            | inl before ↦ still (candidate_under w candidate y) i (m.closed i k before c up)
            | inr last ↦
                let same : k ≡ v = omega (arith, l, last) in
                let under : candidate_under w candidate y ≡ Some i =
                ap (option_and_then (λ i. cond (candidate i) (Some i) None)) (ap (λ k. parent w.forest (get_or all k 0)) (sym same) ∙ up) ∙ ap (λ b. cond b (Some i) None) c in
                ap (λ o. among (grown o) i) under ∙ among-inserted all i i ∙ or_right (among all i) (nat_eq i i) (eq-eqb i i refl)
          ]

      sound : (i : ℕ) (o : Option ℕ) → candidate_under w candidate y ≡ o → among (grown o) i ≡ true → HasStaying w candidate i
      sound i None under e = m.sound i e
      sound i (Some x) under e = elim (or_cases (among all i) (nat_eq x i) (sym (among-inserted all x i) ∙ e)) [
        | inl old ↦ m.sound i old
        | inr new ↦
            let z = m.sound y (list_any_at (λ k. nat_eq k y) all v 0 within (eq-eqb y y refl)) in
            let up : parent w.forest y ≡ Some i =
            option_and_then_some (λ i. cond (candidate i) (Some i) None) (parent w.forest y) x under (λ k at is. at ∙ ap (λ k. Some k) ((cond_some (candidate k) k x is).1 ∙ eqb-true x i new)) in
            (z.0, z.1, z.2, z.3, any-above w h (eqb i) z.0 y z.4 (any-further w h (eqb i) y i up (any-here w h (eqb i) i (eq-eqb i i refl))))
      ]

      pub met-next : (new : List ℕ) → new ≡ grown (candidate_under w candidate y) → IsMet w candidate (v + 1) new
      met-next new e = subst (IsMet w candidate (v + 1)) (sym e) (record {
        starts = λ i j c up off. still (candidate_under w candidate y) j (m.starts i j c up off);
        closed = closed;
        sound = λ i e. sound i (candidate_under w candidate y) refl e;
      })

  -- the start: the mounts that stand on a candidate and are none
  pub met-start : (ids all : List ℕ) → ((j : ℕ) → among all j ≡ among (flat_map (staying_on w (among ids)) ids) j) → IsMet w (among ids) 0 all
  met-start ids all same = record {
    starts = λ i j c up off.
        let r = parent-from w.forest j i up in
        let child : In r.0 (filter (stands_on i) w.forest) =
        in_filtered (stands_on i) r.0 w.forest (row_in id_of j w.forest r.0 r.2) (ap (λ o. option_map_or (λ (p : Place). p.mount == i) o false) r.3 ∙ eq-eqb r.1.mount i r.4) in
        let named : In j (children w.forest i) = subst (λ k. In k (children w.forest i)) (row_at-key id_of j w.forest r.0 r.2) (in_mapped id_of r.0 (filter (stands_on i) w.forest) child) in
        same j ∙ among-in (flat_map (staying_on w (among ids)) ids) j
        (in_flatted (staying_on w (among ids)) j i ids (in-among ids i c) (in_filtered (λ k. not (among ids k)) j (children w.forest i) named (not_from_false (among ids j) off)));
    closed = λ i k l. absurd (omega (arith, l));
    sound = λ j e.
        let f = in_flat (staying_on w (among ids)) j ids (in-among (flat_map (staying_on w (among ids)) ids) j (sym (same j) ∙ e)) in
        let g = in_filter (λ k. not (among ids k)) j (children w.forest f.0) f.2 in
        let r = in_map id_of j (filter (stands_on f.0) w.forest) g.0 in
        let x = in_filter (stands_on f.0) r.0 w.forest r.1 in
        (j, r.0, subst (λ k. mount_at w.forest k ≡ Some r.0) r.2 (in_row id_of w.forest r.0 h.forest.rising x.0), not-true (among ids j) g.1, any-here w h (eqb j) j (eq-eqb j j refl));
  }

-- once all of a list were passed
pub passed-all : (f : ℕ → Option ℕ) (found xs : List ℕ) (i : ℕ) → length xs ≤ i → found ++ filter_map f (drop i xs) ≡ filter_map f xs → found ≡ filter_map f xs
passed-all f found xs i l e = sym (append-nil found) ∙ ap (λ (ys : List ℕ). found ++ filter_map f ys) (sym (drop_all i xs l)) ∙ e

-- the mount around one is the one that it stands within
module _ (w : WorldView) where
  around-is : (i j : ℕ) → stands_inside w i j ≡ true → around w j ≡ Some i
  around-is i j e =
      let p = within-place w i j e in
      ap (option_and_then (λ (p : Place). cond (p.dir == root_dir w p.mount) None (Some p.mount))) p.1
      ∙ ap (λ b. cond b None (Some p.0.mount)) (ap (λ k. p.0.dir == root_dir w k) p.2 ∙ p.3) ∙ ap (λ k. Some k) p.2

  around-from : (i j : ℕ) → around w j ≡ Some i → stands_inside w i j ≡ true
  around-from i j e = option_and_then_some (λ (p : Place). cond (p.dir == root_dir w p.mount) None (Some p.mount)) (place_of w j) i e (λ p at f.
      let g = where_false (p.dir == root_dir w p.mount) (Some p.mount) i f in
      let same = some-is p.mount i g.1 in
      within-at w i j p at same ∙ not_from_false (p.dir == root_dir w i) (ap (λ k. p.dir == root_dir w k) (sym same) ∙ g.0))

module _ (w : WorldView) (h : IsWellFormed w) (candidate : ℕ → Bool) (ids : List ℕ) (are : AreHolding w candidate ids) where
  -- on the way up from a mount that is no candidate all that stand on a candidate hold it
  holds-up : (i j c : ℕ) → candidate j ≡ false → is_below w.forest c j ≡ true → parent w.forest c ≡ Some i → candidate i ≡ true → among ids c ≡ true
  holds-up i j c off on up is =
      along (parent w.forest) (λ x. (k : ℕ) → parent w.forest x ≡ Some k → candidate k ≡ true → among ids x ≡ true)
      (λ x y holds at k up is. elim (candidate y) as (λ b. candidate y ≡ b → among ids y ≡ true) [
        | true ↦ λ too. are.closed y x too at (holds y at too)
        | false ↦ λ off. are.starts k y is up off
      ] refl)
      (length w.forest) j c (λ k up is. are.starts k j is up off) on i up is

  pub held-are : AreHeld w candidate (among (filter_map (around w) ids))
  held-are = record {
    each = λ i j m is at off within.
        let c = any-is w h (stands_inside w i) j within in
        let p = within-place w i c.0 c.2 in
        let holds = holds-up i j c.0 off c.1 (parent-place w c.0 p.0 p.1 ∙ ap (λ k. Some k) p.2) is in
        among-in (filter_map (around w) ids) i (in_filter_mapped (around w) i c.0 ids (in-among ids c.0 holds) (around-is w i c.0 c.2));
    only = λ i e.
        let c = in_filter_map (around w) i ids (in-among (filter_map (around w) ids) i e) in
        let z = are.sound c.0 (among-in ids c.0 c.1) in
        (z.0, z.1, z.2, z.3, any-above w h (stands_inside w i) z.0 c.0 z.4 (any-here w h (stands_inside w i) c.0 (around-from w i c.0 c.2)));
  }
