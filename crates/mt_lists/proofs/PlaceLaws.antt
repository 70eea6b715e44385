-- A walk along the places of a list, to where a new ID goes.
use Rattle.std.proofs.Common.{◌≡◌, ℕ, suc, ◌<◌, ◌≤◌, ◌-◌, true, false, is_some, nat_eq, subst, List, Option, Some, None, refl, sym, ap, ◌∙◌, arith}
use Rattle.std.specs.Option.{IfSome, option_map, option_map_or, option_and_then}
use Rattle.indexmap.specs.IndexMap.{get}
use Rattle.mt_skel.specs.Keyed.{row_at, among}
use Rattle.mt_lists.specs.declared.ties.Tie.{Tie}
use Rattle.mt_lists.specs.declared.tops.Top.{Top}
use Rattle.mt_lists.specs.Lists.{ListRow, listed_id, ids, above}
use Rattle.mt_lists.specs.Neighbours.{Ends, below, ends_of, IsSought}
use Rattle.mt_lists.specs.SlotLists.{LeadsTo}
use Rattle.mt_lists.specs.Tables.{Index}
use Rattle.mt_lists.specs.Ties.{id_of_tie, id_at, tied_row, ends_in, IsTied, IsBelow}
use Rattle.mt_lists.proofs.NeighbourLaws.{above-among, below-among, sought-member, sought-next, sought-end, sought-up, sought-end-last, above-below, above-first, above-past, ends-first}
use Rattle.mt_lists.proofs.IdLaws.{rising-ids}
use Rattle.mt_lists.proofs.ListLaws.{in-own, in-none, number-in}
use Rattle.mt_lists.proofs.LeadLaws.{ends-parts}

-- each place on the way has an ID
abbrev pub IsThere : (ℕ → Option ℕ) → Option ℕ → Type 0
IsThere f o = IfSome o (λ s. is_some (f s) ≡ true)

pub lead-of : (f : ℕ → Option ℕ) (o i : Option ℕ) → IsThere f o → option_and_then f o ≡ i → LeadsTo f o i
lead-of f None i h e = ap (option_map (λ j. Some j)) e
lead-of f (Some s) i h e = go (f s) h e
  where
    go : (p : Option ℕ) → is_some p ≡ true → p ≡ i → Some p ≡ option_map (λ j. Some j) i
    go None h e = absurd (let v : false ≡ true = h in cc)
    go (Some q) h e = ap (option_map (λ j. Some j)) e

pub of-lead : (f : ℕ → Option ℕ) (o i : Option ℕ) → LeadsTo f o i → option_and_then f o ≡ i
of-lead f None None e = refl
of-lead f None (Some i) e = absurd (cc)
of-lead f (Some s) None e = absurd (cc)
of-lead f (Some s) (Some i) e = let v : f s ≡ Some i = cc in v

-- where a place leads to an ID, it has one
pub lead-there : (f : ℕ → Option ℕ) (o i : Option ℕ) → LeadsTo f o i → IsThere f o
lead-there f None i e = tt
lead-there f (Some s) None e = absurd (cc)
lead-there f (Some s) (Some i) e = let v : f s ≡ Some i = cc in ap is_some v

some-of : (o : Option ℕ) → is_some o ≡ true → (i : ℕ) × (o ≡ Some i)
some-of None e = absurd (let v : false ≡ true = e in cc)
some-of (Some i) e = (i, refl)

-- a place with an ID has a tie
tie-of : (ties : ℕ → Option Tie) (place i : ℕ) → id_at ties place ≡ Some i → (t : Tie) × (ties place ≡ Some t) × (t.id ≡ i)
tie-of ties place i e = go (ties place) refl e
  where
    go : (o : Option Tie) → ties place ≡ o → id_of_tie o ≡ Some i → (t : Tie) × (ties place ≡ Some t) × (t.id ≡ i)
    go None is e = absurd (cc)
    go (Some t) is e = (t, is, let v : t.id ≡ i = cc in v)

module _ (ties : ℕ → Option Tie) (rows : List ListRow) (tops : Index Top) (x : IsTied ties rows tops) where
  abbrev place_before : ℕ → Option ℕ
  place_before place = option_and_then (λ (t : Tie). t.before) (ties place)

  abbrev place_after : ℕ → Option ℕ
  place_after place = option_and_then (λ (t : Tie). t.after) (ties place)

  -- the ID at a place of a list is in the list of its number
  pub tie-member : (place : ℕ) (t : Tie) → ties place ≡ Some t → among (ids rows t.number) t.id ≡ true
  tie-member place t there = in-own rows x.rising t.id (tied_row t) (x.rows_told place t there)

  -- what comes before and after a place in a list where its ID is
  module _ (place i n : ℕ) (at : id_at ties place ≡ Some i) (m : among (ids rows n) i ≡ true) where
    number-is : (t : Tie) → ties place ≡ Some t → t.id ≡ i → t.number ≡ n
    number-is t there same = number-in rows n t.id (tied_row t) x.rising (ap (among (ids rows n)) same ∙ m) (x.rows_told place t there)

    pub before-at : LeadsTo (id_at ties) (place_before place) (below i (ids rows n))
    before-at =
        let t = tie-of ties place i at in
        ap (λ o. option_map (id_at ties) (option_and_then (λ (t : Tie). t.before) o)) t.1 ∙ (x.ties_told place t.0 t.1).before_told
        ∙ ap (λ j. option_map (λ i. Some i) (below j (ids rows t.0.number))) t.2 ∙ ap (λ g. option_map (λ i. Some i) (below i (ids rows g))) (number-is t.0 t.1 t.2)

    pub after-at : LeadsTo (id_at ties) (place_after place) (above i (ids rows n))
    after-at =
        let t = tie-of ties place i at in
        ap (λ o. option_map (id_at ties) (option_and_then (λ (t : Tie). t.after) o)) t.1 ∙ (x.ties_told place t.0 t.1).after_told
        ∙ ap (λ j. option_map (λ i. Some i) (above j (ids rows t.0.number))) t.2 ∙ ap (λ g. option_map (λ i. Some i) (above i (ids rows g))) (number-is t.0 t.1 t.2)

  -- each leads to an ID
  pub before-there : (place : ℕ) → IsThere (id_at ties) (place_before place)
  before-there place = go (ties place) refl
    where
      go : (o : Option Tie) → ties place ≡ o → IsThere (id_at ties) (option_and_then (λ (t : Tie). t.before) o)
      go None is = tt
      go (Some t) is = lead-there (id_at ties) t.before _ (x.ties_told place t is).before_told

  after-there : (place : ℕ) → IsThere (id_at ties) (place_after place)
  after-there place = go (ties place) refl
    where
      go : (o : Option Tie) → ties place ≡ o → IsThere (id_at ties) (option_and_then (λ (t : Tie). t.after) o)
      go None is = tt
      go (Some t) is = lead-there (id_at ties) t.after _ (x.ties_told place t is).after_told

  -- the one after has a higher ID, and the one before a lower one
  after-higher : (place i next j : ℕ) → id_at ties place ≡ Some i → place_after place ≡ Some next → id_at ties next ≡ Some j → i < j
  after-higher place i next j at is there =
      let t = tie-of ties place i at in
      let m = ap (among (ids rows t.0.number)) (sym t.2) ∙ tie-member place t.0 t.1 in
      let l = of-lead (id_at ties) _ _ (after-at place i t.0.number at m) in
      (above-among i j (ids rows t.0.number) (sym l ∙ ap (option_and_then (id_at ties)) is ∙ there)).1

  before-lower : (place i before j : ℕ) → id_at ties place ≡ Some i → place_before place ≡ Some before → id_at ties before ≡ Some j → j < i
  before-lower place i before j at is there =
      let t = tie-of ties place i at in
      let m = ap (among (ids rows t.0.number)) (sym t.2) ∙ tie-member place t.0 t.1 in
      let l = of-lead (id_at ties) _ _ (before-at place i t.0.number at m) in
      (below-among i j (ids rows t.0.number) (sym l ∙ ap (option_and_then (id_at ties)) is ∙ there)).1

  -- the search downwards: its end, that it ends, and its steps
  pub down-end : (id n : ℕ) (here : Option ℕ) → IsThere (id_at ties) here → IsSought id (ids rows n) (option_and_then (id_at ties) here) → ((place i : ℕ) → here ≡ Some place → id_at ties place ≡ Some i → i < id) → LeadsTo (id_at ties) here (below id (ids rows n))
  down-end id n here there s low =
      lead-of (id_at ties) here (below id (ids rows n)) there (sought-end id (ids rows n) (option_and_then (id_at ties) here) (rising-ids rows n x.rising) s (go here low))
    where
      go : (o : Option ℕ) → ((place i : ℕ) → o ≡ Some place → id_at ties place ≡ Some i → i < id) → (i : ℕ) → option_and_then (id_at ties) o ≡ Some i → i < id
      go None low i e = absurd (cc)
      go (Some place) low i e = low place i refl e

  module _ (here : Option ℕ) (place : ℕ) (is : here ≡ Some place) (there : IsThere (id_at ties) here) where
    here-id : (i : ℕ) × (id_at ties place ≡ Some i)
    here-id = some-of (id_at ties place) (rw is at there)

    pub down-smaller : option_map_or (λ i. suc i) (option_and_then (id_at ties) (place_before place)) 0 < option_map_or (λ i. suc i) (option_and_then (id_at ties) here) 0
    down-smaller =
        let i = here-id in
        rw (is, i.1) (go (place_before place) (λ before j e f. before-lower place i.0 before j i.1 e f))
      where
        go : (o : Option ℕ) → ((before j : ℕ) → o ≡ Some before → id_at ties before ≡ Some j → j < here-id.0) → option_map_or (λ i. suc i) (option_and_then (id_at ties) o) 0 < suc here-id.0
        go None low = omega arith
        go (Some before) low = by (id_at ties before) (λ j e. low before j refl e)
          where
            by : (p : Option ℕ) → ((j : ℕ) → p ≡ Some j → j < here-id.0) → option_map_or (λ i. suc i) p 0 < suc here-id.0
            by None low = omega arith
            by (Some j) low = let l = low j refl in omega arith

    pub down-next : (id n : ℕ) → ((i : ℕ) → id_at ties place ≡ Some i → id ≤ i) → IsSought id (ids rows n) (option_and_then (id_at ties) here) → IsSought id (ids rows n) (option_and_then (id_at ties) (place_before place))
    down-next id n high s =
        let i = here-id in
        let m = sought-member id i.0 (ids rows n) (option_and_then (id_at ties) here) s (ap (option_and_then (id_at ties)) is ∙ i.1) in
        sought-next id i.0 (ids rows n) _ (high i.0 i.1) (of-lead (id_at ties) _ _ (before-at place i.0 n i.1 m))

  -- the search upwards
  module _ (id place : ℕ) (low : IsBelow ties id place) where
    pub up-end : (n : ℕ) → among (ids rows n) low.other ≡ true → ((next i : ℕ) → place_after place ≡ Some next → id_at ties next ≡ Some i → id ≤ i) → LeadsTo (id_at ties) (Some place) (below id (ids rows n))
    up-end n m high =
        ap (λ o. Some o) low.there
        ∙ ap (option_map (λ i. Some i))
        (sought-up low.other id (ids rows n) _ (rising-ids rows n x.rising) m low.below (of-lead (id_at ties) _ _ (after-at place low.other n low.there m))
        (λ i e. go (place_after place) high i e))
      where
        go : (o : Option ℕ) → ((next i : ℕ) → o ≡ Some next → id_at ties next ≡ Some i → id ≤ i) → (i : ℕ) → option_and_then (id_at ties) o ≡ Some i → id ≤ i
        go None high i e = absurd (cc)
        go (Some next) high i e = high next i refl e

    -- the next place has an ID, below the new one where the search goes on
    module _ (next : ℕ) (is : place_after place ≡ Some next) where
      next-id : (i : ℕ) × (id_at ties next ≡ Some i)
      next-id = let h = after-there place in some-of (id_at ties next) (subst (IsThere (id_at ties)) is h)

      pub up-inside : (n j : ℕ) → among (ids rows n) low.other ≡ true → id_at ties next ≡ Some j → among (ids rows n) j ≡ true
      up-inside n j m at =
          (above-among low.other j (ids rows n) (sym (of-lead (id_at ties) _ _ (after-at place low.other n low.there m)) ∙ ap (option_and_then (id_at ties)) is ∙ at)).0

      module _ (lower : (i : ℕ) → id_at ties next ≡ Some i → i < id) where
        pub up-below : IsBelow ties id next
        up-below =
            let i = next-id in
            record { other = i.0; there = i.1; below = lower i.0 i.1 }

        pub up-smaller : id - option_map_or (λ i. i) (id_at ties next) 0 < id - option_map_or (λ i. i) (id_at ties place) 0
        up-smaller =
            let i = next-id in
            let l = after-higher place low.other next i.0 low.there is i.1 in
            let k = lower i.0 i.1 in
            rw (i.1, low.there) (omega arith)

  -- what the top of a list tells
  module _ (id n : ℕ) where
    module _ (top : Top) (found : get nat_eq tops n ≡ Some top) where
      pub top-ends : (e : Ends) × (ends_of (ids rows n) ≡ Some e) × (ends_in ties top ≡ Some e)
      top-ends = go (ends_of (ids rows n)) refl (ap (option_map (ends_in ties)) (sym found) ∙ x.tops_told n)
        where
          go : (e : Option Ends) → ends_of (ids rows n) ≡ e → Some (ends_in ties top) ≡ option_map (λ e. Some e) e → (e : Ends) × (ends_of (ids rows n) ≡ Some e) × (ends_in ties top ≡ Some e)
          go None is f = absurd (cc)
          go (Some e) is f = (e, is, let v : ends_in ties top ≡ Some e = cc in v)

      -- the last of the list, where it is below a new ID, and that none follows it
      pub last-below : ((i : ℕ) → id_at ties top.last ≡ Some i → i < id) → LeadsTo (id_at ties) (Some top.last) (below id (ids rows n))
      last-below low =
          let e = top-ends in
          let at = (ends-parts ties top e.0 e.2).1 in
          ap (λ o. Some o) at ∙ ap (option_map (λ i. Some i)) (sought-end-last id e.0.last (ids rows n) (rising-ids rows n x.rising) (ap (option_map (λ (y : Ends). y.last)) e.1) (low e.0.last at))

      pub follow-none : LeadsTo (id_at ties) (Some top.last) (below id (ids rows n)) → LeadsTo (id_at ties) None (above id (ids rows n))
      follow-none before =
          let e = top-ends in
          let low = (below-among id e.0.last (ids rows n) (sym (of-lead (id_at ties) (Some top.last) _ before) ∙ (ends-parts ties top e.0 e.2).1)).1 in
          ap (option_map (λ i. Some i)) (above-past id e.0.last (ids rows n) (rising-ids rows n x.rising) (ap (option_map (λ (y : Ends). y.last)) e.1) low)

      pub follow-first : row_at listed_id id rows ≡ None → LeadsTo (id_at ties) None (below id (ids rows n)) → LeadsTo (id_at ties) (Some top.first) (above id (ids rows n))
      follow-first absent before =
          let e = top-ends in
          let xs = ids rows n in
          ap (λ o. Some o) (ends-parts ties top e.0 e.2).0
          ∙ ap (option_map (λ i. Some i)) (sym (above-first id xs (in-none rows x.rising id n absent) (sym (of-lead (id_at ties) None _ before)) ∙ sym (ends-first xs) ∙ ap (option_map (λ (y : Ends). y.first)) e.1))

    pub follow-some : row_at listed_id id rows ≡ None → (other : ℕ) → LeadsTo (id_at ties) (Some other) (below id (ids rows n)) → LeadsTo (id_at ties) (place_after other) (above id (ids rows n))
    follow-some absent other before =
        let xs = ids rows n in
        let there = lead-there (id_at ties) (Some other) _ before in
        let i = some-of (id_at ties other) there in
        let is = sym (of-lead (id_at ties) (Some other) _ before) ∙ i.1 in
        after-at other i.0 n i.1 (below-among id i.0 xs is).0
        ∙ ap (option_map (λ i. Some i)) (above-below id i.0 xs (rising-ids rows n x.rising) (in-none rows x.rising id n absent) is)
