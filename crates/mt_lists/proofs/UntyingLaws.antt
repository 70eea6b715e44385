-- What the writes of a call make of the ties and of the table of numbers when an ID goes.
use Rattle.std.proofs.Common.{◌≡◌, ◌≢◌, ◌⊎◌, ℕ, suc, ◌-◌, Bool, true, false, cond, not, eqb, eq-eqb, nat_eq, List, [], ◌∷◌, length, subst, Option, Some, None, refl, sym, ap, ◌∙◌, inl, inr, arith}
use Rattle.std.specs.Option.{option_map, option_and_then, unwrap_or}
use Rattle.std.proofs.lemmas.Bool.{cases_eq, ne_eqb, true≢false}
use Rattle.std.proofs.lemmas.Bool.Decides.{nat_tests}
use Rattle.indexmap.specs.IndexMap.{get}
use Rattle.mt_skel.specs.Keyed.{row_at, rises, among}
use Rattle.mt_skel.proofs.KeyedLaws.{rises-filter}
use Rattle.mt_lists.specs.declared.ties.Tie.{Tie}
use Rattle.mt_lists.specs.declared.tops.Top.{Top}
use Rattle.mt_lists.specs.Lists.{ListRow, listed_id, ids, above, without_row, names}
use Rattle.mt_lists.specs.Neighbours.{Ends, below, last_from, ends_of, shrunk}
use Rattle.mt_lists.specs.SlotLists.{LeadsTo}
use Rattle.mt_lists.specs.Tables.{Index}
use Rattle.mt_lists.specs.Ties.{id_of_tie, id_at, AreApart, tied_row, HasNeighbours, ends_in, IsTied, with_before, with_after, given_tie, shrunk_top}
use Rattle.mt_lists.proofs.NeighbourLaws.{rising, less, ends-some, above-among, below-among}
use Rattle.mt_lists.proofs.IdLaws.{rising-ids, ids-without, row-without}
use Rattle.mt_lists.proofs.ListLaws.{in-own, in-other, low-less, high-less, ends-less-in}
use Rattle.mt_lists.proofs.LeadLaws.{lead-cond, lead-names, lead-less, given-both, given-neither, given-ids, over-last, ends-parts, ends-whole}
use Rattle.mt_lists.proofs.TiedLaws.{tied-same}

-- the only ID of a list
one-first : (i y : ℕ) (ys : List ℕ) → rising (y ∷ ys) ≡ true → y ≡ i → above i (y ∷ ys) ≡ None → length ys ≡ 0
one-first i y [] r e n = refl
one-first i y (z ∷ zs) r e n = absurd (grind (arith, nat_tests))

one-last : (i y : ℕ) (ys : List ℕ) → rising (y ∷ ys) ≡ true → last_from y ys ≡ i → below i (y ∷ ys) ≡ None → length ys ≡ 0
one-last i y [] r e n = refl
one-last i y (z ∷ zs) r e n =
    let low = over-last y z zs r in
    absurd (grind (arith, nat_tests))

-- the ends are in the list
last-among : (x : ℕ) (xs : List ℕ) → among (x ∷ xs) (last_from x xs) ≡ true
last-among x [] = grind (arith, nat_tests)
last-among x (y ∷ ys) =
    let ih = last-among y ys in
    grind (arith, nat_tests)

ends-among : (xs : List ℕ) (e : Ends) → ends_of xs ≡ Some e → (among xs e.first ≡ true) × (among xs e.last ≡ true)
ends-among [] e is = absurd (cc)
ends-among (x ∷ xs) e is =
    let v : record { first = x; last = last_from x xs; count = suc (length xs) } ≡ e = cc in
    (ap (λ (y : Ends). among (x ∷ xs) y.first) (sym v) ∙ grind (arith, nat_tests), ap (λ (y : Ends). among (x ∷ xs) y.last) (sym v) ∙ last-among x xs)

-- an ID that is taken away is not there
not-among : (i : ℕ) (xs : List ℕ) → among (less i xs) i ≡ false
not-among i [] = refl
not-among i (y ∷ ys) =
    let ih = not-among i ys in
    grind (arith, nat_tests)

-- an ID is taken away from its place and out of the list of its number
module _ (ties : ℕ → Option Tie) (rows : List ListRow) (tops : Index Top) (x : IsTied ties rows tops) (place : ℕ) (t : Tie) (there : ties place ≡ Some t)
    (taken_t after_t before_t : ℕ → Option Tie) (takes : (k : ℕ) → taken_t k ≡ cond (nat_eq place k) None (ties k))
    (afters : (k : ℕ) → after_t k ≡ given_tie t.before (with_after t.after) taken_t k)
    (befores : (k : ℕ) → before_t k ≡ given_tie t.after (with_before t.before) after_t k)
    (new_rows : List ListRow) (rows-less : new_rows ≡ without_row t.id rows) where
  abbrev low_ids : List ℕ
  low_ids = ids rows t.number

  row-there : row_at listed_id t.id rows ≡ Some (tied_row t)
  row-there = x.rows_told place t there

  taken-here : taken_t place ≡ None
  taken-here = takes place ∙ ap (λ c. cond c None (ties place)) (eq-eqb place place refl)

  taken-other : (k : ℕ) → k ≢ place → taken_t k ≡ ties k
  taken-other k ne = takes k ∙ ap (λ c. cond c None (ties k)) (ne_eqb place k (λ s. ne (sym s)))

  same-ids : (k : ℕ) → id_at before_t k ≡ id_at taken_t k
  same-ids k = given-ids t.after t.before t.before t.after taken_t after_t before_t afters befores k

  id-less : (s q : ℕ) → id_at ties s ≡ Some q → q ≢ t.id → id_at before_t s ≡ Some q
  id-less s q e ne = same-ids s ∙ ap id_of_tie (taken-other s (λ u. (let v : Some t.id ≡ Some q = sym (ap id_of_tie there) ∙ ap (id_at ties) (sym u) ∙ e in ne (let w : q ≡ t.id = cc in w)))) ∙ e

  id-was : (s q : ℕ) → id_at before_t s ≡ Some q → (s ≢ place) × (id_at ties s ≡ Some q)
  id-was s q e = elim (cases_eq s place) [
    | inl same ↦ absurd (let v : None ≡ Some q = sym (ap id_of_tie taken-here) ∙ ap (id_at taken_t) (sym same) ∙ sym (same-ids s) ∙ e in cc)
    | inr ne ↦ (ne, sym (ap id_of_tie (taken-other s ne)) ∙ sym (same-ids s) ∙ e)
  ]

  apart-less : AreApart before_t
  apart-less j k i e f = x.apart j k i (id-was j i e).1 (id-was k i f).1

  told-t : HasNeighbours ties rows t
  told-t = x.ties_told place t there

  -- the gone ID is no neighbour
  gone-below : (q n : ℕ) → below q (ids (without_row t.id rows) n) ≡ Some t.id → ⊥
  gone-below q n e = true≢false (sym (below-among q t.id _ e).0 ∙ ap (λ xs. among xs t.id) (ids-without t.id rows n) ∙ not-among t.id (ids rows n))

  gone-above : (q n : ℕ) → above q (ids (without_row t.id rows) n) ≡ Some t.id → ⊥
  gone-above q n e = true≢false (sym (above-among q t.id _ e).0 ∙ ap (λ xs. among xs t.id) (ids-without t.id rows n) ∙ not-among t.id (ids rows n))

  told-left : (k : ℕ) (u : Tie) → k ≢ place → ties k ≡ Some u
      → HasNeighbours before_t new_rows (record { id = u.id; number = u.number; before = cond (names t.after k) t.before u.before; after = cond (names t.before k) t.after u.after })
  told-left k u ne e =
      let up = x.rising in
      let row = x.rows_told k u e in
      let m = in-own rows up u.id (tied_row u) row in
      let off : u.number ≢ t.number → among (ids rows t.number) u.id ≡ false = λ d. in-other rows up u.id t.number (tied_row u) row (λ s. d (sym s)) in
      let differs : u.id ≢ t.id = λ s. ne (x.apart k place t.id (ap id_of_tie e ∙ ap (λ i. Some i) s) (ap id_of_tie there)) in
      let told = x.ties_told k u e in
      let low = low-less rows up t.id (tied_row t) row-there u.id u.number differs m off in
      let high = high-less rows up t.id (tied_row t) row-there u.id u.number differs m off in
      record {
        before_told =
            lead-less (id_at ties) (id_at before_t) t.id _ _ id-less (λ g. gone-below u.id u.number (ap (λ r. below u.id (ids r u.number)) (sym rows-less) ∙ g))
            (lead-cond (id_at ties) (names t.after k) t.before u.before _ _ told-t.before_told told.before_told
            ∙ ap (λ c. option_map (λ i. Some i) (cond c (below t.id (ids rows t.number)) (below u.id (ids rows u.number)))) (sym (lead-names ties x.apart k u.id (ap id_of_tie e) t.after _ told-t.after_told))
            ∙ ap (option_map (λ i. Some i)) (sym (ap (λ r. below u.id (ids r u.number)) rows-less ∙ low)));
        after_told =
            lead-less (id_at ties) (id_at before_t) t.id _ _ id-less (λ g. gone-above u.id u.number (ap (λ r. above u.id (ids r u.number)) (sym rows-less) ∙ g))
            (lead-cond (id_at ties) (names t.before k) t.after u.after _ _ told-t.after_told told.after_told
            ∙ ap (λ c. option_map (λ i. Some i) (cond c (above t.id (ids rows t.number)) (above u.id (ids rows u.number)))) (sym (lead-names ties x.apart k u.id (ap id_of_tie e) t.before _ told-t.before_told))
            ∙ ap (option_map (λ i. Some i)) (sym (ap (λ r. above u.id (ids r u.number)) rows-less ∙ high)));
      }

  row-left : (k : ℕ) (u : Tie) → k ≢ place → ties k ≡ Some u → row_at listed_id u.id new_rows ≡ Some (tied_row u)
  row-left k u ne e =
      let other : t.id ≢ u.id = λ s. ne (x.apart k place t.id (ap id_of_tie e ∙ ap (λ i. Some i) (sym s)) (ap id_of_tie there)) in
      ap (row_at listed_id u.id) rows-less ∙ row-without t.id u.id rows x.rising ∙ ap (λ c. cond c None (row_at listed_id u.id rows)) (ne_eqb t.id u.id other) ∙ x.rows_told k u e

  abbrev IsLeft : Tie → Type 0
  IsLeft u = (row_at listed_id u.id new_rows ≡ Some (tied_row u)) × HasNeighbours before_t new_rows u

  told-less : (k : ℕ) (u : Tie) → before_t k ≡ Some u → IsLeft u
  told-less k u e = elim (cases_eq k place) [
    | inl same ↦
        let none : None ≡ Some u = sym (given-neither t.after t.before t.before t.after taken_t after_t before_t afters befores k (ap taken_t same ∙ taken-here)) ∙ e in
        absurd (cc)
    | inr ne ↦ go ne (ties k) refl
  ]
    where
      go : k ≢ place → (o : Option Tie) → ties k ≡ o → IsLeft u
      go ne None is =
          let v : None ≡ Some u = sym (given-neither t.after t.before t.before t.after taken_t after_t before_t afters befores k (taken-other k ne ∙ is)) ∙ e in
          absurd (cc)
      go ne (Some w) is =
          let new : Tie = record { id = w.id; number = w.number; before = cond (names t.after k) t.before w.before; after = cond (names t.before k) t.after w.after } in
          let v : Some new ≡ Some u = sym (given-both t.after t.before t.before t.after taken_t after_t before_t afters befores k w (taken-other k ne ∙ is)) ∙ e in
          let s : new ≡ u = cc in
          subst IsLeft s (row-left k w ne is, told-left k w ne is)

  -- the ends of the list
  end-left : (s e : ℕ) (o i : Option ℕ) → id_at ties s ≡ Some e → LeadsTo (id_at ties) o i → (i ≡ Some t.id → ⊥) → (e ≡ t.id → i ≡ None → ⊥) → id_at before_t (cond (eqb s place) (unwrap_or o place) s) ≡ Some (cond (eqb e t.id) (unwrap_or i t.id) e)
  end-left s e o i at lead ne some = elim (cases_eq s place) [
    | inl same ↦
        let v : Some t.id ≡ Some e = sym (ap id_of_tie there) ∙ ap (id_at ties) (sym same) ∙ at in
        let w : e ≡ t.id = cc in
        ap (λ c. id_at before_t (cond c (unwrap_or o place) s)) (eq-eqb s place same) ∙ go w o i lead ne (some w) ∙ ap (λ c. Some (cond c (unwrap_or i t.id) e)) (sym (eq-eqb e t.id w))
    | inr other ↦
        let w : e ≢ t.id = λ u. other (x.apart s place t.id (at ∙ ap (λ j. Some j) u) (ap id_of_tie there)) in
        ap (λ c. id_at before_t (cond c (unwrap_or o place) s)) (ne_eqb s place other) ∙ id-less s e at w ∙ ap (λ c. Some (cond c (unwrap_or i t.id) e)) (sym (ne_eqb e t.id w))
  ]
    where
      go : e ≡ t.id → (o i : Option ℕ) → LeadsTo (id_at ties) o i → (i ≡ Some t.id → ⊥) → (i ≡ None → ⊥) → id_at before_t (unwrap_or o place) ≡ Some (unwrap_or i t.id)
      go w o None lead ne some = absurd (some refl)
      go w None (Some j) lead ne some = absurd (cc)
      go w (Some p) (Some j) lead ne some = id-less p j (let v : Some (id_at ties p) ≡ Some (Some j) = lead in cc) (λ u. ne (ap (λ k. Some k) u))

  shrunk-ends : (top : Top) (xs : List ℕ) → rising xs ≡ true → LeadsTo (id_at ties) t.before (below t.id xs) → LeadsTo (id_at ties) t.after (above t.id xs) → option_map (ends_in ties) (Some top) ≡ option_map (λ e. Some e) (ends_of xs)
      → option_map (ends_in before_t) (shrunk_top place t.before t.after top) ≡ option_map (λ e. Some e) (option_and_then (shrunk t.id (below t.id xs) (above t.id xs)) (ends_of xs))
  shrunk-ends top [] r lo hi e = absurd (cc)
  shrunk-ends top (y ∷ ys) r lo hi e =
      let p = ends-parts ties top (record { first = y; last = last_from y ys; count = suc (length ys) }) (let v : Some (ends_in ties top) ≡ Some (Some (record { first = y; last = last_from y ys; count = suc (length ys) })) = e in cc) in
      let low : (below t.id (y ∷ ys) ≡ Some t.id → ⊥) = λ f. (let l = (below-among t.id t.id (y ∷ ys) f).1 in omega (arith, l)) in
      let high : (above t.id (y ∷ ys) ≡ Some t.id → ⊥) = λ f. (let l = (above-among t.id t.id (y ∷ ys) f).1 in omega (arith, l)) in
      go p.2 (eqb top.count 1) refl
      (λ more. end-left top.first y t.after (above t.id (y ∷ ys)) p.0 hi high (λ a n. more (one-first t.id y ys r a n)))
      (λ more. end-left top.last (last_from y ys) t.before (below t.id (y ∷ ys)) p.1 lo low (λ a n. more (one-last t.id y ys r a n)))
    where
      go : top.count ≡ suc (length ys) → (c : Bool) → eqb top.count 1 ≡ c
          → ((length ys ≡ 0 → ⊥) → id_at before_t (cond (eqb top.first place) (unwrap_or t.after place) top.first) ≡ Some (cond (eqb y t.id) (unwrap_or (above t.id (y ∷ ys)) t.id) y))
          → ((length ys ≡ 0 → ⊥) → id_at before_t (cond (eqb top.last place) (unwrap_or t.before place) top.last) ≡ Some (cond (eqb (last_from y ys) t.id) (unwrap_or (below t.id (y ∷ ys)) t.id) (last_from y ys)))
          → option_map (ends_in before_t) (shrunk_top place t.before t.after top) ≡ option_map (λ e. Some e) (shrunk t.id (below t.id (y ∷ ys)) (above t.id (y ∷ ys)) (record { first = y; last = last_from y ys; count = suc (length ys) }))
      go n true is f l =
          ap (λ c. option_map (ends_in before_t) (cond c None (Some (record { first = cond (eqb top.first place) (unwrap_or t.after place) top.first; last = cond (eqb top.last place) (unwrap_or t.before place) top.last; count = top.count - 1; recent = top.recent })))) is
          ∙ sym (ap (λ c. option_map (λ e. Some e) (cond c None (Some (record { first = cond (eqb y t.id) (unwrap_or (above t.id (y ∷ ys)) t.id) y; last = cond (eqb (last_from y ys) t.id) (unwrap_or (below t.id (y ∷ ys)) t.id) (last_from y ys); count = suc (length ys) - 1 })))) (ap (λ k. eqb k 1) (sym n) ∙ is))
      go n false is f l =
          let more : (length ys ≡ 0 → ⊥) = λ z. true≢false (sym (eq-eqb top.count 1 (n ∙ ap suc z)) ∙ is) in
          ap (λ c. option_map (ends_in before_t) (cond c None (Some (record { first = cond (eqb top.first place) (unwrap_or t.after place) top.first; last = cond (eqb top.last place) (unwrap_or t.before place) top.last; count = top.count - 1; recent = top.recent })))) is
          ∙ ap (λ o. Some o) (ends-whole before_t (record { first = cond (eqb top.first place) (unwrap_or t.after place) top.first; last = cond (eqb top.last place) (unwrap_or t.before place) top.last; count = top.count - 1; recent = top.recent }) _ _ (f more) (l more)
          ∙ ap (λ c. Some (record { first = cond (eqb y t.id) (unwrap_or (above t.id (y ∷ ys)) t.id) y; last = cond (eqb (last_from y ys) t.id) (unwrap_or (below t.id (y ∷ ys)) t.id) (last_from y ys); count = c - 1 })) n)
          ∙ sym (ap (λ c. option_map (λ e. Some e) (cond c None (Some (record { first = cond (eqb y t.id) (unwrap_or (above t.id (y ∷ ys)) t.id) y; last = cond (eqb (last_from y ys) t.id) (unwrap_or (below t.id (y ∷ ys)) t.id) (last_from y ys); count = suc (length ys) - 1 })))) (ap (λ k. eqb k 1) (sym n) ∙ is))

  -- the ends of another list
  ends-other : (k : ℕ) → k ≢ t.number → (top : Option Top) (e : Option Ends) → ends_of (ids rows k) ≡ e → option_map (ends_in ties) top ≡ option_map (λ e. Some e) e → option_map (ends_in before_t) top ≡ option_map (λ e. Some e) e
  ends-other k ne None e was is = is
  ends-other k ne (Some top) None was is = absurd (cc)
  ends-other k ne (Some top) (Some e) was is =
      let p = ends-parts ties top e (let v : Some (ends_in ties top) ≡ Some (Some e) = is in cc) in
      let m = ends-among (ids rows k) e was in
      let off = in-other rows x.rising t.id k (tied_row t) row-there ne in
      ap (λ o. Some o)
      (ends-whole before_t top e.first e.last (id-less top.first e.first p.0 (λ s. true≢false (sym m.0 ∙ ap (among (ids rows k)) s ∙ off))) (id-less top.last e.last p.1 (λ s. true≢false (sym m.1 ∙ ap (among (ids rows k)) s ∙ off)))
      ∙ ap (λ c. Some (record { first = e.first; last = e.last; count = c })) p.2)

  pub tied-less : (top : Top) (new_tops : Index Top) → get nat_eq tops t.number ≡ Some top → ((k : ℕ) → get nat_eq new_tops k ≡ cond (nat_eq t.number k) (shrunk_top place t.before t.after top) (get nat_eq tops k)) → IsTied before_t new_rows new_tops
  tied-less top new_tops was puts = record {
    rising = ap (rises listed_id) rows-less ∙ rises-filter listed_id (λ (r : ListRow). not (eqb t.id r.id)) rows x.rising;
    apart = apart-less;
    rows_told = λ k u e. (told-less k u e).0;
    ties_told = λ k u e. (told-less k u e).1;
    tops_told = λ k. ap (option_map (ends_in before_t)) (puts k) ∙ by k (cases_eq t.number k)
        ∙ ap (option_map (λ e. Some e)) (sym (ap (λ r. ends_of (ids r k)) rows-less ∙ ends-less-in rows x.rising t.id (tied_row t) row-there k));
  }
    where
      by : (k : ℕ) → (t.number ≡ k) ⊎ (t.number ≢ k) → option_map (ends_in before_t) (cond (nat_eq t.number k) (shrunk_top place t.before t.after top) (get nat_eq tops k))
          ≡ option_map (λ e. Some e) (cond (nat_eq t.number k) (option_and_then (shrunk t.id (below t.id low_ids) (above t.id low_ids)) (ends_of low_ids)) (ends_of (ids rows k)))
      by k (inl same) =
          ap (λ c. option_map (ends_in before_t) (cond c (shrunk_top place t.before t.after top) (get nat_eq tops k))) (eq-eqb t.number k same)
          ∙ shrunk-ends top low_ids (rising-ids rows t.number x.rising) told-t.before_told told-t.after_told (ap (option_map (ends_in ties)) (sym was) ∙ x.tops_told t.number)
          ∙ sym (ap (λ c. option_map (λ e. Some e) (cond c (option_and_then (shrunk t.id (below t.id low_ids) (above t.id low_ids)) (ends_of low_ids)) (ends_of (ids rows k)))) (eq-eqb t.number k same))
      by k (inr ne) =
          ap (λ c. option_map (ends_in before_t) (cond c (shrunk_top place t.before t.after top) (get nat_eq tops k))) (ne_eqb t.number k ne)
          ∙ ends-other k (λ s. ne (sym s)) (get nat_eq tops k) (ends_of (ids rows k)) refl (x.tops_told k)
          ∙ sym (ap (λ c. option_map (λ e. Some e) (cond c (option_and_then (shrunk t.id (below t.id low_ids) (above t.id low_ids)) (ends_of low_ids)) (ends_of (ids rows k)))) (ne_eqb t.number k ne))

-- the list of a place's number has a top
pub top-there : (ties : ℕ → Option Tie) (rows : List ListRow) (tops : Index Top) → IsTied ties rows tops → (place : ℕ) (t : Tie) → ties place ≡ Some t → get nat_eq tops t.number ≡ None → ⊥
top-there ties rows tops x place t there none =
    go (ends_of (ids rows t.number)) refl (sym (ap (option_map (ends_in ties)) none) ∙ x.tops_told t.number)
  where
    go : (e : Option Ends) → ends_of (ids rows t.number) ≡ e → None ≡ option_map (λ e. Some e) e → ⊥
    go None is f = ends-some t.id (ids rows t.number) (in-own rows x.rising t.id (tied_row t) (x.rows_told place t there)) is
    go (Some e) is f = cc

-- a place that has no tie
pub tied-still : (ties : ℕ → Option Tie) (rows : List ListRow) (tops : Index Top) → IsTied ties rows tops → (place : ℕ) → ties place ≡ None → (new : ℕ → Option Tie) → ((k : ℕ) → new k ≡ cond (nat_eq place k) None (ties k))
    → (new_rows : List ListRow) → new_rows ≡ rows → IsTied new new_rows tops
tied-still ties rows tops x place none new takes new_rows same = tied-same ties new rows new_rows tops tops (λ k. takes k ∙ go k (cases_eq place k)) same refl x
  where
    go : (k : ℕ) → (place ≡ k) ⊎ (place ≢ k) → cond (nat_eq place k) None (ties k) ≡ ties k
    go k (inl at) = ap (λ c. cond c None (ties k)) (eq-eqb place k at) ∙ sym none ∙ ap ties at
    go k (inr ne) = ap (λ c. cond c None (ties k)) (ne_eqb place k ne)
