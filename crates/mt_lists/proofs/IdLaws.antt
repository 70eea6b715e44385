-- The list of the IDs of one number, and what a row more or less makes of it.
use Rattle.std.proofs.Common.{◌≡◌, ℕ, ◌<◌, true, false, cond, not, eqb, ltb, List, [], ◌∷◌, map, Option, Some, None, is_some, refl, ap, ◌∙◌, arith}
use Rattle.std.specs.List.{filter, list_all}
use Rattle.std.specs.Option.{option_map_or}
use Rattle.std.proofs.lemmas.Bool.Decides.{nat_tests}
use Rattle.mt_skel.specs.Keyed.{row_at, put, rises, among}
use Rattle.mt_skel.proofs.KeyedLaws.{row_at-key, row_at-filter, rises-filter, passing}
use Rattle.mt_lists.specs.Lists.{ListRow, listed_id, ids, without_row}
use Rattle.mt_lists.proofs.NeighbourLaws.{itself, rising, over, less}

over-map : (k : ℕ) (rows : List ListRow) → over k (map listed_id rows) ≡ list_all (λ (r : ListRow). ltb k r.id) rows
over-map k [] = refl
over-map k (r ∷ rs) = rw (over-map k rs) refl

rising-map : (rows : List ListRow) → rising (map listed_id rows) ≡ rises listed_id rows
rising-map [] = refl
rising-map (r ∷ rs) = rw (over-map r.id rs, rising-map rs) refl

-- the IDs of one number rise
pub rising-ids : (rows : List ListRow) (n : ℕ) → rises listed_id rows ≡ true → rising (ids rows n) ≡ true
rising-ids rows n r = rising-map (filter (λ (r : ListRow). eqb n r.number) rows) ∙ rises-filter listed_id (λ (r : ListRow). eqb n r.number) rows r

among-map : (q : ℕ) (rows : List ListRow) → among (map listed_id rows) q ≡ is_some (row_at listed_id q rows)
among-map q [] = refl
among-map q (r ∷ rs) =
    let ih = among-map q rs in
    grind (arith, nat_tests)

-- an ID has the number in whose list it is
pub among-ids : (q : ℕ) (rows : List ListRow) (n : ℕ) → rises listed_id rows ≡ true → among (ids rows n) q ≡ option_map_or (λ (r : ListRow). eqb n r.number) (row_at listed_id q rows) false
among-ids q rows n r = among-map q (filter (λ (r : ListRow). eqb n r.number) rows) ∙ ap is_some (row_at-filter listed_id (λ (r : ListRow). eqb n r.number) q rows r) ∙ go (row_at listed_id q rows)
  where
    go : (o : Option ListRow) → is_some (passing (λ (r : ListRow). eqb n r.number) o) ≡ option_map_or (λ (r : ListRow). eqb n r.number) o false
    go None = refl
    go (Some s) = grind (arith, nat_tests)

over-ids : (k : ℕ) (rows : List ListRow) (n : ℕ) → list_all (λ (r : ListRow). ltb k r.id) rows ≡ true → over k (ids rows n) ≡ true
over-ids k [] n h = refl
over-ids k (r ∷ rs) n h =
    let ih = over-ids k rs n in
    grind (arith, nat_tests)

put-over : (k : ℕ) (xs : List ℕ) → over k xs ≡ true → put itself k xs ≡ k ∷ xs
put-over k [] h = refl
put-over k (x ∷ xs) h = grind (arith, nat_tests)

-- a row more
pub ids-put : (r : ListRow) (rows : List ListRow) (n : ℕ) → rises listed_id rows ≡ true → row_at listed_id r.id rows ≡ None → ids (put listed_id r rows) n ≡ cond (eqb n r.number) (put itself r.id (ids rows n)) (ids rows n)
ids-put r [] n h absent = grind (arith, nat_tests)
ids-put r (y ∷ ys) n h absent =
    let ih = ids-put r ys n in
    let low = over-ids y.id ys n in
    let o_i = over-ids r.id ys n in
    let l = all-low r.id y.id ys in
    let p = put-over r.id (ids ys n) in
    grind (arith, nat_tests)
  where
    all-low : (j k : ℕ) (rows : List ListRow) → j < k → list_all (λ (r : ListRow). ltb k r.id) rows ≡ true → list_all (λ (r : ListRow). ltb j r.id) rows ≡ true
    all-low j k [] l h = refl
    all-low j k (x ∷ xs) l h =
        let ih = all-low j k xs l in
        grind (arith, nat_tests)

-- a row less
pub ids-without : (i : ℕ) (rows : List ListRow) (n : ℕ) → ids (without_row i rows) n ≡ less i (ids rows n)
ids-without i [] n = refl
ids-without i (y ∷ ys) n =
    let ih = ids-without i ys n in
    grind (arith, nat_tests)

pub row-without : (i q : ℕ) (rows : List ListRow) → rises listed_id rows ≡ true → row_at listed_id q (without_row i rows) ≡ cond (eqb i q) None (row_at listed_id q rows)
row-without i q rows h = row_at-filter listed_id (λ (r : ListRow). not (eqb i r.id)) q rows h ∙ go (row_at listed_id q rows) (row_at-key listed_id q rows)
  where
    go : (o : Option ListRow) → ((s : ListRow) → o ≡ Some s → listed_id s ≡ q) → passing (λ (r : ListRow). not (eqb i r.id)) o ≡ cond (eqb i q) None o
    go None k = grind (arith, nat_tests)
    go (Some s) k = let e = k s refl in grind (arith, nat_tests)
