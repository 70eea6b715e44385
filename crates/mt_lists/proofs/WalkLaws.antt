-- A walk along a list, from its first ID to the next of each.
use Rattle.std.proofs.Common.{◌≡◌, ℕ, ◌<◌, ◌++◌, length, true, false, not, ltb, List, [], ◌∷◌, Option, Some, None, refl, sym, ap, ◌∙◌, arith, append_assoc}
use Rattle.std.specs.List.{filter}
use Rattle.std.specs.Option.{IfSome, option_map, option_and_then}
use Rattle.std.proofs.lemmas.Bool.Decides.{nat_tests}
use Rattle.mt_skel.specs.Keyed.{rises, among}
use Rattle.mt_lists.specs.Lists.{ListRow, listed_id, ids, first, above, next_of}
use Rattle.mt_lists.proofs.NeighbourLaws.{rising, over, above-among, above-over, over-among}
use Rattle.mt_lists.proofs.ListLaws.{row-among}

-- the part of a rising list from one of its IDs on
abbrev pub rest_from : Option ℕ → List ℕ → List ℕ
rest_from None xs = []
rest_from (Some k) xs = filter (λ x. not (ltb x k)) xs

rest-over : (k : ℕ) (xs : List ℕ) → over k xs ≡ true → filter (λ x. not (ltb x k)) xs ≡ xs
rest-over k [] h = refl
rest-over k (x ∷ xs) h =
    let ih = rest-over k xs in
    grind (arith, nat_tests)

pub rest-first : (xs : List ℕ) → rising xs ≡ true → rest_from (first xs) xs ≡ xs
rest-first [] r = refl
rest-first (x ∷ xs) r =
    let o = rest-over x xs in
    grind (arith, nat_tests)

-- the part from an ID on is that ID and the part from the next one on
pub rest-next : (k : ℕ) (xs : List ℕ) → rising xs ≡ true → among xs k ≡ true → rest_from (Some k) xs ≡ k ∷ rest_from (above k xs) xs
rest-next k [] r m = absurd (let e : false ≡ true = m in cc)
rest-next k (y ∷ ys) r m = go (above k ys) refl (λ a. above-among k a ys) (rest-next k ys)
  where
    go : (o : Option ℕ) → above k ys ≡ o → ((a : ℕ) → o ≡ Some a → (among ys a ≡ true) × (k < a)) → (rising ys ≡ true → among ys k ≡ true → rest_from (Some k) ys ≡ k ∷ rest_from o ys)
        → rest_from (Some k) (y ∷ ys) ≡ k ∷ rest_from (above k (y ∷ ys)) (y ∷ ys)
    go None is f ih =
        let o_k = over-among y k ys in
        let a_y = above-over y ys in
        let r_y = rest-over y ys in
        let r_f = rest-first ys in
        grind (arith, nat_tests)
    go (Some a) is f ih =
        let g = f a refl in
        let o_k = over-among y k ys in
        let o_a = over-among y a ys in
        let a_y = above-over y ys in
        let r_y = rest-over y ys in
        let r_f = rest-first ys in
        grind (arith, nat_tests)

-- the walk: what was passed, and what is left
pub walked : (done : List ℕ) (k : ℕ) (xs : List ℕ) (o : Option ℕ) → rising xs ≡ true → among xs k ≡ true → o ≡ above k xs → done ++ rest_from (Some k) xs ≡ xs → (done ++ k ∷ []) ++ rest_from o xs ≡ xs
walked done k xs o r m e h =
    append_assoc done (k ∷ []) (rest_from o xs) ∙ ap (λ z. done ++ k ∷ rest_from z xs) e ∙ ap (λ z. done ++ z) (sym (rest-next k xs r m)) ∙ h

pub walk-member : (k : ℕ) (xs : List ℕ) (o : Option ℕ) → o ≡ above k xs → IfSome o (λ j. among xs j ≡ true)
walk-member k xs None e = tt
walk-member k xs (Some j) e = (above-among k j xs (sym e)).0

pub walk-start : (xs : List ℕ) (o : Option ℕ) → o ≡ first xs → IfSome o (λ j. among xs j ≡ true)
walk-start xs None e = tt
walk-start [] (Some j) e = absurd (cc)
walk-start (x ∷ xs) (Some j) e = let v : j ≡ x = cc in grind (arith, nat_tests)

pub walk-falls : (k : ℕ) (xs : List ℕ) (here o : Option ℕ) → rising xs ≡ true → among xs k ≡ true → here ≡ Some k → o ≡ above k xs → length (rest_from o xs) < length (rest_from here xs)
walk-falls k xs here o r m is e = rw (is, e, rest-next k xs r m) (omega arith)

-- the next ID of the same number
pub next-among : (rows : List ListRow) (n k : ℕ) → rises listed_id rows ≡ true → among (ids rows n) k ≡ true → next_of rows k ≡ above k (ids rows n)
next-among rows n k h m =
    let s = row-among rows n k h m in
    ap (λ o. option_and_then (λ g. above k (ids rows g)) (option_map (λ (r : ListRow). r.number) o)) s.1 ∙ ap (λ g. above k (ids rows g)) s.3
