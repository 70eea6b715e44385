-- What the writes of a call make of the ties and of the table of numbers when an ID comes.
use Rattle.std.proofs.Common.{◌≡◌, ◌≢◌, ℕ, suc, ◌+◌, Bool, true, false, cond, ltb, eq-eqb, nat_eq, is_none, List, [], ◌∷◌, length, subst, Option, Some, None, refl, sym, ap, ◌∙◌, inl, inr, arith}
use Rattle.std.specs.Option.{option_map}
use Rattle.std.proofs.lemmas.Bool.{cases_eq, ne_eqb}
use Rattle.std.proofs.lemmas.Bool.Decides.{nat_tests}
use Rattle.indexmap.specs.IndexMap.{get}
use Rattle.mt_skel.specs.Keyed.{row_at, put, rises, among}
use Rattle.mt_skel.proofs.KeyedLaws.{row_at-put, rises-put}
use Rattle.mt_lists.specs.declared.ties.Tie.{Tie}
use Rattle.mt_lists.specs.declared.tops.Top.{Top}
use Rattle.mt_lists.specs.Lists.{ListRow, listed_id, ids, above, names}
use Rattle.mt_lists.specs.Neighbours.{below, last_from, ends_of, grown}
use Rattle.mt_lists.specs.SlotLists.{LeadsTo}
use Rattle.mt_lists.specs.Tables.{Index}
use Rattle.mt_lists.specs.Ties.{id_of_tie, id_at, AreApart, tied_row, HasNeighbours, ends_in, IsTied, with_before, with_after, given_tie, grown_top}
use Rattle.mt_lists.proofs.NeighbourLaws.{itself, rising, below-put-itself, above-put-itself}
use Rattle.mt_lists.proofs.IdLaws.{rising-ids}
use Rattle.mt_lists.proofs.ListLaws.{in-own, in-other, in-none, low-put, high-put, ids-same, ends-put-in}
use Rattle.mt_lists.proofs.LeadLaws.{lead-more, lead-cond, lead-names, lead-none, lead-apart, given-both, given-neither, given-ids, over-last, ends-parts, ends-whole, ends-kept}

-- what comes first or last is below or above all others
first-none : (id x : ℕ) (xs : List ℕ) → among (x ∷ xs) id ≡ false → is_none (below id (x ∷ xs)) ≡ ltb id x
first-none id x xs n = grind (arith, nat_tests)

last-none : (id x : ℕ) (xs : List ℕ) → rising (x ∷ xs) ≡ true → among (x ∷ xs) id ≡ false → is_none (above id (x ∷ xs)) ≡ ltb (last_from x xs) id
last-none id x [] r n = grind (arith, nat_tests)
last-none id x (y ∷ ys) r n =
    let ih = last-none id y ys in
    let low = over-last x y ys in
    grind (arith, nat_tests)

-- an ID that has no row is at no place
tie-absent : (ties : ℕ → Option Tie) (rows : List ListRow) (tops : Index Top) → IsTied ties rows tops → (k i : ℕ) → row_at listed_id i rows ≡ None → id_at ties k ≡ Some i → ⊥
tie-absent ties rows tops x k i absent is = go (ties k) refl is
  where
    go : (o : Option Tie) → ties k ≡ o → id_of_tie o ≡ Some i → ⊥
    go None e f = let v : None ≡ Some i = f in cc
    go (Some t) e f =
        let v : t.id ≡ i = cc in
        let w : Some (tied_row t) ≡ None = sym (x.rows_told k t e) ∙ ap (λ j. row_at listed_id j rows) v ∙ absent in
        cc

-- an ID is put at a place and into the list of a number
module _ (ties : ℕ → Option Tie) (rows : List ListRow) (tops : Index Top) (x : IsTied ties rows tops) (place id n : ℕ) (free : ties place ≡ None) (absent : row_at listed_id id rows ≡ None)
    (b a : Option ℕ) (low : LeadsTo (id_at ties) b (below id (ids rows n))) (high : LeadsTo (id_at ties) a (above id (ids rows n)))
    (set_t after_t before_t : ℕ → Option Tie) (sets : (k : ℕ) → set_t k ≡ cond (nat_eq place k) (Some (record { id = id; number = n; before = b; after = a })) (ties k))
    (afters : (k : ℕ) → after_t k ≡ given_tie b (with_after (Some place)) set_t k)
    (befores : (k : ℕ) → before_t k ≡ given_tie a (with_before (Some place)) after_t k)
    (new_rows : List ListRow) (rows-more : new_rows ≡ put listed_id (record { id = id; number = n }) rows) where
  abbrev new_tie : Tie
  new_tie = record { id = id; number = n; before = b; after = a }

  abbrev new_row : ListRow
  new_row = record { id = id; number = n }

  set-here : set_t place ≡ Some new_tie
  set-here = sets place ∙ ap (λ c. cond c (Some new_tie) (ties place)) (eq-eqb place place refl)

  set-other : (k : ℕ) → k ≢ place → set_t k ≡ ties k
  set-other k ne = sets k ∙ ap (λ c. cond c (Some new_tie) (ties k)) (ne_eqb place k (λ s. ne (sym s)))

  none-here : id_at ties place ≡ None
  none-here = ap id_of_tie free

  id-here : id_at before_t place ≡ Some id
  id-here = given-ids a (Some place) b (Some place) set_t after_t before_t afters befores place ∙ ap id_of_tie set-here

  id-other : (k : ℕ) → k ≢ place → id_at before_t k ≡ id_at ties k
  id-other k ne = given-ids a (Some place) b (Some place) set_t after_t before_t afters befores k ∙ ap id_of_tie (set-other k ne)

  id-kept : (s q : ℕ) → id_at ties s ≡ Some q → id_at before_t s ≡ Some q
  id-kept s q e = id-other s (λ u. (let v : None ≡ Some q = sym none-here ∙ ap (id_at ties) (sym u) ∙ e in absurd (cc))) ∙ e

  apart-more : AreApart before_t
  apart-more j k i e f = elim (cases_eq j place) [
    | inl js ↦ elim (cases_eq k place) [
      | inl ks ↦ js ∙ sym ks
      | inr ko ↦
          let v : Some i ≡ Some id = sym e ∙ ap (id_at before_t) js ∙ id-here in
          let w : i ≡ id = cc in
          absurd (tie-absent ties rows tops x k id absent (sym (id-other k ko) ∙ f ∙ ap (λ q. Some q) w))
    ]
    | inr jo ↦ elim (cases_eq k place) [
      | inl ks ↦
          let v : Some i ≡ Some id = sym f ∙ ap (id_at before_t) ks ∙ id-here in
          let w : i ≡ id = cc in
          absurd (tie-absent ties rows tops x j id absent (sym (id-other j jo) ∙ e ∙ ap (λ q. Some q) w))
      | inr ko ↦ x.apart j k i (sym (id-other j jo) ∙ e) (sym (id-other k ko) ∙ f)
    ]
  ]

  -- the tie of the new ID
  none-in : among (ids rows n) id ≡ false
  none-in = in-none rows x.rising id n absent

  tie-here : before_t place ≡ Some new_tie
  tie-here =
      given-both a (Some place) b (Some place) (set_t) (after_t) (before_t) afters befores place new_tie set-here
      ∙ (λ i. Some (record { id = id; number = n; before = cond (lead-apart (id_at ties) place a (above id (ids rows n)) none-here high i) (Some place) b; after = cond (lead-apart (id_at ties) place b (below id (ids rows n)) none-here low i) (Some place) a }))

  ids-more : ids new_rows n ≡ put itself id (ids rows n)
  ids-more = ap (λ r. ids r n) rows-more ∙ ids-same rows x.rising new_row absent

  row-here : row_at listed_id id new_rows ≡ Some new_row
  row-here = ap (row_at listed_id id) rows-more ∙ row_at-put listed_id id new_row rows ∙ ap (λ c. cond c (Some new_row) (row_at listed_id id rows)) (eq-eqb id id refl)

  told-here : HasNeighbours before_t new_rows new_tie
  told-here =
      let up = rising-ids rows n x.rising in
      record {
        before_told =
            lead-more (id_at ties) (id_at before_t) b _ id-kept low
            ∙ ap (option_map (λ i. Some i)) (sym (ap (below id) ids-more ∙ below-put-itself id (ids rows n) up none-in));
        after_told =
            lead-more (id_at ties) (id_at before_t) a _ id-kept high
            ∙ ap (option_map (λ i. Some i)) (sym (ap (above id) ids-more ∙ above-put-itself id (ids rows n) up none-in));
      }

  -- the tie of another ID
  row-other : (k : ℕ) (t : Tie) → k ≢ place → ties k ≡ Some t → row_at listed_id t.id new_rows ≡ Some (tied_row t)
  row-other k t ne e =
      let row = x.rows_told k t e in
      let other : t.id ≢ id = λ s. (let v : None ≡ Some (tied_row t) = sym absent ∙ ap (λ i. row_at listed_id i rows) (sym s) ∙ row in absurd (cc)) in
      ap (row_at listed_id t.id) rows-more ∙ row_at-put listed_id t.id new_row rows ∙ ap (λ c. cond c (Some new_row) (row_at listed_id t.id rows)) (ne_eqb t.id id other) ∙ row

  told-other : (k : ℕ) (t : Tie) → k ≢ place → ties k ≡ Some t
      → HasNeighbours before_t new_rows (record { id = t.id; number = t.number; before = cond (names a k) (Some place) t.before; after = cond (names b k) (Some place) t.after })
  told-other k t ne e =
      let up = x.rising in
      let row = x.rows_told k t e in
      let m = in-own rows up t.id (tied_row t) row in
      let off : t.number ≢ n → among (ids rows n) t.id ≡ false = λ d. in-other rows up t.id n (tied_row t) row (λ s. d (sym s)) in
      let told = x.ties_told k t e in
      record {
        before_told =
            lead-cond (id_at before_t) (names a k) (Some place) t.before (Some id) _ (ap (λ i. Some i) id-here) (lead-more (id_at ties) (id_at before_t) t.before _ id-kept told.before_told)
            ∙ ap (λ c. option_map (λ i. Some i) (cond c (Some id) (below t.id (ids rows t.number)))) (sym (lead-names ties x.apart k t.id (ap id_of_tie e) a _ high))
            ∙ ap (option_map (λ i. Some i)) (sym (ap (λ r. below t.id (ids r t.number)) rows-more ∙ low-put rows up new_row absent t.id t.number m off));
        after_told =
            lead-cond (id_at before_t) (names b k) (Some place) t.after (Some id) _ (ap (λ i. Some i) id-here) (lead-more (id_at ties) (id_at before_t) t.after _ id-kept told.after_told)
            ∙ ap (λ c. option_map (λ i. Some i) (cond c (Some id) (above t.id (ids rows t.number)))) (sym (lead-names ties x.apart k t.id (ap id_of_tie e) b _ low))
            ∙ ap (option_map (λ i. Some i)) (sym (ap (λ r. above t.id (ids r t.number)) rows-more ∙ high-put rows up new_row absent t.id t.number m off));
      }

  abbrev IsTold : Tie → Type 0
  IsTold t = (row_at listed_id t.id new_rows ≡ Some (tied_row t)) × HasNeighbours before_t new_rows t

  told-more : (k : ℕ) (t : Tie) → before_t k ≡ Some t → IsTold t
  told-more k t e = elim (cases_eq k place) [
    | inl same ↦
        let v : Some new_tie ≡ Some t = sym tie-here ∙ ap before_t (sym same) ∙ e in
        let w : new_tie ≡ t = cc in
        subst IsTold w (row-here, told-here)
    | inr ne ↦ go ne (ties k) refl
  ]
    where
      go : k ≢ place → (o : Option Tie) → ties k ≡ o → IsTold t
      go ne None is =
          let v : None ≡ Some t = sym (given-neither a (Some place) b (Some place) set_t after_t before_t afters befores k (set-other k ne ∙ is)) ∙ e in
          absurd (cc)
      go ne (Some u) is =
          let new : Tie = record { id = u.id; number = u.number; before = cond (names a k) (Some place) u.before; after = cond (names b k) (Some place) u.after } in
          let v : Some new ≡ Some t = sym (given-both a (Some place) b (Some place) set_t after_t before_t afters befores k u (set-other k ne ∙ is)) ∙ e in
          let w : new ≡ t = cc in
          subst IsTold w (row-other k u ne is, told-other k u ne is)

  -- the ends of the list
  end-more : (c d : Bool) → c ≡ d → (s e : ℕ) → id_at ties s ≡ Some e → id_at before_t (cond c place s) ≡ Some (cond d id e)
  end-more true d same s e at = id-here ∙ ap (λ x. Some (cond x id e)) same
  end-more false d same s e at = id-kept s e at ∙ ap (λ x. Some (cond x id e)) same

  grown-ends : (top : Option Top) (xs : List ℕ) → rising xs ≡ true → among xs id ≡ false → is_none b ≡ is_none (below id xs) → is_none a ≡ is_none (above id xs)
      → option_map (ends_in ties) top ≡ option_map (λ e. Some e) (ends_of xs) → ends_in before_t (grown_top place b a top) ≡ Some (grown id (ends_of xs))
  grown-ends None [] r m lo hi e = ends-whole before_t (grown_top place b a None) id id id-here id-here
  grown-ends None (y ∷ ys) r m lo hi e = absurd (cc)
  grown-ends (Some t) [] r m lo hi e = absurd (cc)
  grown-ends (Some t) (y ∷ ys) r m lo hi e =
      let p = ends-parts ties t (record { first = y; last = last_from y ys; count = suc (length ys) }) (let v : Some (ends_in ties t) ≡ Some (Some (record { first = y; last = last_from y ys; count = suc (length ys) })) = e in cc) in
      ends-whole before_t (grown_top place b a (Some t)) _ _ (end-more (is_none b) (ltb id y) (lo ∙ first-none id y ys m) t.first y p.0)
      (end-more (is_none a) (ltb (last_from y ys) id) (hi ∙ last-none id y ys r m) t.last (last_from y ys) p.1)
      ∙ ap (λ c. Some (record { first = cond (ltb id y) id y; last = cond (ltb (last_from y ys) id) id (last_from y ys); count = c + 1 })) p.2

  pub tied-more : (found : Option Top) (new_tops : Index Top) → found ≡ get nat_eq tops n → ((k : ℕ) → get nat_eq new_tops k ≡ cond (nat_eq n k) (Some (grown_top place b a found)) (get nat_eq tops k)) → IsTied before_t new_rows new_tops
  tied-more found new_tops was puts = record {
    rising = ap (rises listed_id) rows-more ∙ rises-put listed_id new_row rows x.rising;
    apart = apart-more;
    rows_told = λ k t e. (told-more k t e).0;
    ties_told = λ k t e. (told-more k t e).1;
    tops_told = λ k. elim (cases_eq n k) [
      | inl same ↦
          let xs = ids rows n in
          ap (option_map (ends_in before_t)) (puts k ∙ ap (λ c. cond c (Some (grown_top place b a found)) (get nat_eq tops k)) (eq-eqb n k same))
          ∙ ap (λ o. Some o) (grown-ends found xs (rising-ids rows n x.rising) none-in (lead-none (id_at ties) b _ low) (lead-none (id_at ties) a _ high) (ap (option_map (ends_in ties)) was ∙ x.tops_told n))
          ∙ ap (option_map (λ e. Some e))
          (sym (ap (λ r. ends_of (ids r k)) rows-more ∙ ends-put-in rows x.rising new_row absent k ∙ ap (λ c. cond c (Some (grown id (ends_of xs))) (ends_of (ids rows k))) (eq-eqb n k same)))
      | inr ne ↦
          ap (option_map (ends_in before_t)) (puts k ∙ ap (λ c. cond c (Some (grown_top place b a found)) (get nat_eq tops k)) (ne_eqb n k ne))
          ∙ ends-kept ties before_t id-kept (get nat_eq tops k) (ends_of (ids rows k)) (x.tops_told k)
          ∙ ap (option_map (λ e. Some e))
          (sym (ap (λ r. ends_of (ids r k)) rows-more ∙ ends-put-in rows x.rising new_row absent k ∙ ap (λ c. cond c (Some (grown id (ends_of (ids rows n)))) (ends_of (ids rows k))) (ne_eqb n k ne)))
    ];
  }
