-- What a row more or less makes of the list of each number.
use Rattle.std.proofs.Common.{◌≡◌, ◌≢◌, ℕ, true, false, cond, eqb, eq-eqb, nat_eq, List, [], ◌∷◌, Option, Some, None, refl, sym, ap, ◌∙◌, inl, inr, arith}
use Rattle.std.specs.Option.{option_map_or, option_and_then}
use Rattle.std.proofs.lemmas.Bool.{cases_eq, ne_eqb, eqb-true, true≢false}
use Rattle.std.proofs.lemmas.Bool.Decides.{nat_tests}
use Rattle.mt_skel.specs.Keyed.{row_at, put, rises, among}
use Rattle.mt_skel.proofs.KeyedLaws.{row_at-key}
use Rattle.mt_lists.specs.Lists.{ListRow, listed_id, ids, above, without_row, names}
use Rattle.mt_lists.specs.Neighbours.{below, ends_of, grown, shrunk}
use Rattle.mt_lists.proofs.NeighbourLaws.{itself, above-put, below-put, ends-put, above-among, below-among, less, above-less, below-less, ends-less}
use Rattle.mt_lists.proofs.IdLaws.{rising-ids, among-ids, ids-put, ids-without}

-- the row's ID is in the list of its number, and in no other
module _ (rows : List ListRow) (h : rises listed_id rows ≡ true) where
  pub in-own : (q : ℕ) (s : ListRow) → row_at listed_id q rows ≡ Some s → among (ids rows s.number) q ≡ true
  in-own q s e = among-ids q rows s.number h ∙ ap (λ o. option_map_or (λ (r : ListRow). eqb s.number r.number) o false) e ∙ eq-eqb s.number s.number refl

  pub in-other : (q n : ℕ) (s : ListRow) → row_at listed_id q rows ≡ Some s → n ≢ s.number → among (ids rows n) q ≡ false
  in-other q n s e ne = among-ids q rows n h ∙ ap (λ o. option_map_or (λ (r : ListRow). eqb n r.number) o false) e ∙ ne_eqb n s.number ne

  pub in-none : (q n : ℕ) → row_at listed_id q rows ≡ None → among (ids rows n) q ≡ false
  in-none q n e = among-ids q rows n h ∙ ap (λ o. option_map_or (λ (r : ListRow). eqb n r.number) o false) e

names-not : (o : Option ℕ) (k : ℕ) (xs : List ℕ) → among xs k ≡ false → ((a : ℕ) → o ≡ Some a → among xs a ≡ true) → names o k ≡ false
names-not None k xs n f = refl
names-not (Some a) k xs n f = let g = f a refl in ne_eqb a k (λ s. true≢false (sym g ∙ ap (λ j. among xs j) s ∙ n))

-- the row of an ID in a list
pub row-among : (rows : List ListRow) (n q : ℕ) → rises listed_id rows ≡ true → among (ids rows n) q ≡ true → (s : ListRow) × (row_at listed_id q rows ≡ Some s) × (s.id ≡ q) × (s.number ≡ n)
row-among rows n q h m = go (row_at listed_id q rows) refl (sym (among-ids q rows n h) ∙ m)
  where
    go : (o : Option ListRow) → row_at listed_id q rows ≡ o → option_map_or (λ (r : ListRow). eqb n r.number) o false ≡ true → (s : ListRow) × (row_at listed_id q rows ≡ Some s) × (s.id ≡ q) × (s.number ≡ n)
    go None e t = absurd (true≢false (sym t))
    go (Some s) e t = (s, e, row_at-key listed_id q rows s e, sym (eqb-true n s.number t))

-- the number of an ID in a list
pub number-in : (rows : List ListRow) (n q : ℕ) (r : ListRow) → rises listed_id rows ≡ true → among (ids rows n) q ≡ true → row_at listed_id q rows ≡ Some r → r.number ≡ n
number-in rows n q r h m there =
    let s = row-among rows n q h m in
    let v : Some r ≡ Some s.0 = sym there ∙ s.1 in
    ap (λ (x : ListRow). x.number) (let w : r ≡ s.0 = cc in w) ∙ s.3

-- a row more
module _ (rows : List ListRow) (h : rises listed_id rows ≡ true) (r : ListRow) (absent : row_at listed_id r.id rows ≡ None) where
  apart-above : (q : ℕ) → among (ids rows r.number) q ≡ false → names (above r.id (ids rows r.number)) q ≡ false
  apart-above q n = names-not (above r.id (ids rows r.number)) q (ids rows r.number) n (λ a e. (above-among r.id a (ids rows r.number) e).0)

  apart-below : (q : ℕ) → among (ids rows r.number) q ≡ false → names (below r.id (ids rows r.number)) q ≡ false
  apart-below q n = names-not (below r.id (ids rows r.number)) q (ids rows r.number) n (λ a e. (below-among r.id a (ids rows r.number) e).0)

  pub ids-same : ids (put listed_id r rows) r.number ≡ put itself r.id (ids rows r.number)
  ids-same = ids-put r rows r.number h absent ∙ ap (λ b. cond b (put itself r.id (ids rows r.number)) (ids rows r.number)) (eq-eqb r.number r.number refl)

  ids-other : (n : ℕ) → n ≢ r.number → ids (put listed_id r rows) n ≡ ids rows n
  ids-other n ne = ids-put r rows n h absent ∙ ap (λ b. cond b (put itself r.id (ids rows n)) (ids rows n)) (ne_eqb n r.number ne)

  pub low-put : (q n : ℕ) → among (ids rows n) q ≡ true → (n ≢ r.number → among (ids rows r.number) q ≡ false)
      → below q (ids (put listed_id r rows) n) ≡ cond (names (above r.id (ids rows r.number)) q) (Some r.id) (below q (ids rows n))
  low-put q n m off = elim (cases_eq n r.number) [
    | inl same ↦ rw same (ap (below q) ids-same ∙ below-put r.id q (ids rows r.number) (rising-ids rows r.number h) (in-none rows h r.id r.number absent) (ap (λ k. among (ids rows k) q) (sym same) ∙ m))
    | inr other ↦ ap (below q) (ids-other n other) ∙ sym (ap (λ b. cond b (Some r.id) (below q (ids rows n))) (apart-above q (off other)))
  ]

  pub high-put : (q n : ℕ) → among (ids rows n) q ≡ true → (n ≢ r.number → among (ids rows r.number) q ≡ false)
      → above q (ids (put listed_id r rows) n) ≡ cond (names (below r.id (ids rows r.number)) q) (Some r.id) (above q (ids rows n))
  high-put q n m off = elim (cases_eq n r.number) [
    | inl same ↦ rw same (ap (above q) ids-same ∙ above-put r.id q (ids rows r.number) (rising-ids rows r.number h) (in-none rows h r.id r.number absent) (ap (λ k. among (ids rows k) q) (sym same) ∙ m))
    | inr other ↦ ap (above q) (ids-other n other) ∙ sym (ap (λ b. cond b (Some r.id) (above q (ids rows n))) (apart-below q (off other)))
  ]

  pub ends-put-in : (g : ℕ) → ends_of (ids (put listed_id r rows) g) ≡ cond (nat_eq r.number g) (Some (grown r.id (ends_of (ids rows r.number)))) (ends_of (ids rows g))
  ends-put-in g = elim (cases_eq r.number g) [
    | inl same ↦
        rw (← same) (ap ends_of ids-same ∙ ends-put r.id (ids rows r.number) (rising-ids rows r.number h) (in-none rows h r.id r.number absent)
        ∙ sym (ap (λ b. cond b (Some (grown r.id (ends_of (ids rows r.number)))) (ends_of (ids rows r.number))) (eq-eqb r.number r.number refl)))
    | inr other ↦
        ap ends_of (ids-other g (λ s. other (sym s))) ∙ sym (ap (λ b. cond b (Some (grown r.id (ends_of (ids rows r.number)))) (ends_of (ids rows g))) (ne_eqb r.number g other))
  ]

-- a row less
module _ (rows : List ListRow) (h : rises listed_id rows ≡ true) (i : ℕ) (r : ListRow) (there : row_at listed_id i rows ≡ Some r) where
  here : among (ids rows r.number) i ≡ true
  here = in-own rows h i r there

  less-apart-above : (q : ℕ) → among (ids rows r.number) q ≡ false → names (above i (ids rows r.number)) q ≡ false
  less-apart-above q n = names-not (above i (ids rows r.number)) q (ids rows r.number) n (λ a e. (above-among i a (ids rows r.number) e).0)

  less-apart-below : (q : ℕ) → among (ids rows r.number) q ≡ false → names (below i (ids rows r.number)) q ≡ false
  less-apart-below q n = names-not (below i (ids rows r.number)) q (ids rows r.number) n (λ a e. (below-among i a (ids rows r.number) e).0)

  less-not : (xs : List ℕ) → among xs i ≡ false → less i xs ≡ xs
  less-not [] n = refl
  less-not (x ∷ xs) n =
      let ih = less-not xs in
      grind (arith, nat_tests)

  ids-off : (n : ℕ) → n ≢ r.number → ids (without_row i rows) n ≡ ids rows n
  ids-off n ne = ids-without i rows n ∙ less-not (ids rows n) (in-other rows h i n r there ne)

  pub low-less : (q n : ℕ) → q ≢ i → among (ids rows n) q ≡ true → (n ≢ r.number → among (ids rows r.number) q ≡ false)
      → below q (ids (without_row i rows) n) ≡ cond (names (above i (ids rows r.number)) q) (below i (ids rows r.number)) (below q (ids rows n))
  low-less q n apart m off = elim (cases_eq n r.number) [
    | inl same ↦ rw same (ap (below q) (ids-without i rows r.number) ∙ below-less i q (ids rows r.number) (rising-ids rows r.number h) here (ap (λ k. among (ids rows k) q) (sym same) ∙ m) apart)
    | inr other ↦ ap (below q) (ids-off n other) ∙ sym (ap (λ b. cond b (below i (ids rows r.number)) (below q (ids rows n))) (less-apart-above q (off other)))
  ]

  pub high-less : (q n : ℕ) → q ≢ i → among (ids rows n) q ≡ true → (n ≢ r.number → among (ids rows r.number) q ≡ false)
      → above q (ids (without_row i rows) n) ≡ cond (names (below i (ids rows r.number)) q) (above i (ids rows r.number)) (above q (ids rows n))
  high-less q n apart m off = elim (cases_eq n r.number) [
    | inl same ↦ rw same (ap (above q) (ids-without i rows r.number) ∙ above-less i q (ids rows r.number) (rising-ids rows r.number h) here (ap (λ k. among (ids rows k) q) (sym same) ∙ m) apart)
    | inr other ↦ ap (above q) (ids-off n other) ∙ sym (ap (λ b. cond b (above i (ids rows r.number)) (above q (ids rows n))) (less-apart-below q (off other)))
  ]

  pub ends-less-in : (g : ℕ) → ends_of (ids (without_row i rows) g)
      ≡ cond (nat_eq r.number g) (option_and_then (shrunk i (below i (ids rows r.number)) (above i (ids rows r.number))) (ends_of (ids rows r.number))) (ends_of (ids rows g))
  ends-less-in g = elim (cases_eq r.number g) [
    | inl same ↦
        rw (← same) (ap ends_of (ids-without i rows r.number) ∙ ends-less i (ids rows r.number) (rising-ids rows r.number h) here
        ∙ sym (ap (λ b. cond b (option_and_then (shrunk i (below i (ids rows r.number)) (above i (ids rows r.number))) (ends_of (ids rows r.number))) (ends_of (ids rows r.number))) (eq-eqb r.number r.number refl)))
    | inr other ↦
        ap ends_of (ids-off g (λ s. other (sym s))) ∙ sym (ap (λ b. cond b (option_and_then (shrunk i (below i (ids rows r.number)) (above i (ids rows r.number))) (ends_of (ids rows r.number))) (ends_of (ids rows g))) (ne_eqb r.number g other))
  ]
