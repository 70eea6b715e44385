-- The neighbours of a number in a rising list, and what one number more makes of them.
use Rattle.std.proofs.Common.{◌≡◌, ◌≢◌, ℕ, suc, ◌+◌, ◌<◌, ◌≤◌, length, Bool, true, false, cond, ◌||◌, eqb, ltb, List, [], ◌∷◌, Option, Some, None, is_none, refl, sym, ◌∙◌, arith, inl, inr}
use Rattle.std.specs.List.{list_all}
use Rattle.std.specs.Option.{option_map, option_and_then, unwrap_or}
use Rattle.std.proofs.lemmas.Bool.{cases_eq}
use Rattle.std.proofs.lemmas.Bool.Decides.{nat_tests}
use Rattle.mt_skel.specs.Keyed.{put, rises, without, among}
use Rattle.mt_lists.specs.Lists.{first, above, names}
use Rattle.mt_lists.specs.Neighbours.{Ends, below, last_from, ends_of, grown, shrunk, IsSought}

-- a number is its own key
abbrev pub itself : ℕ → ℕ
itself x = x

-- the numbers strictly rise
abbrev pub rising : List ℕ → Bool
rising xs = rises itself xs

-- all of the list are above k
abbrev pub over : ℕ → List ℕ → Bool
over k xs = list_all (λ x. ltb k x) xs

pub over-low : (j k : ℕ) (xs : List ℕ) → j ≤ k → over k xs ≡ true → over j xs ≡ true
over-low j k [] l h = refl
over-low j k (x ∷ xs) l h =
    let ih = over-low j k xs l in
    grind (arith, nat_tests)

pub over-among : (k q : ℕ) (xs : List ℕ) → over k xs ≡ true → among xs q ≡ true → k < q
over-among k q [] h m = absurd (let e : false ≡ true = m in cc)
over-among k q (x ∷ xs) h m =
    let ih = over-among k q xs in
    grind (arith, nat_tests)

-- where all are above a number, the first of them is the next above it
pub above-over : (k : ℕ) (xs : List ℕ) → over k xs ≡ true → above k xs ≡ first xs
above-over k [] h = refl
above-over k (x ∷ xs) h = grind (arith, nat_tests)

-- a neighbour is in the list, and on its side of the number
pub below-among : (k b : ℕ) (xs : List ℕ) → below k xs ≡ Some b → (among xs b ≡ true) × (b < k)
below-among k b [] e = absurd (let v : None ≡ Some b = e in cc)
below-among k b (x ∷ xs) e = go (below k xs) (λ c. below-among k c xs) (ltb x k) refl e
  where
    go : (o : Option ℕ) → ((c : ℕ) → o ≡ Some c → (among xs c ≡ true) × (c < k)) → (t : Bool) → ltb x k ≡ t → cond t (Some (unwrap_or o x)) None ≡ Some b → ((eqb x b || among xs b) ≡ true) × (b < k)
    go o ih false t e = absurd (let v : None ≡ Some b = e in cc)
    go None ih true t e = let v : x ≡ b = cc in (grind (arith, nat_tests), grind (arith, nat_tests))
    go (Some c) ih true t e = let v : c ≡ b = cc in let i = ih c refl in (grind (arith, nat_tests), grind (arith, nat_tests))

pub above-among : (k a : ℕ) (xs : List ℕ) → above k xs ≡ Some a → (among xs a ≡ true) × (k < a)
above-among k a [] e = absurd (let v : None ≡ Some a = e in cc)
above-among k a (x ∷ xs) e =
    let ih = above-among k a xs in
    (grind (arith, nat_tests), grind (arith, nat_tests))

-- One number more

first-put : (y id : ℕ) (ys : List ℕ) → y < id → over y ys ≡ true → among ys id ≡ false → above y (put itself id ys) ≡ cond (is_none (below id ys)) (Some id) (first ys)
first-put y id [] l h n = grind (arith, nat_tests)
first-put y id (z ∷ zs) l h n = grind (arith, nat_tests)

-- the number that is put is next above the one below it, and next below the one above it; the others keep their neighbours
pub above-put : (id q : ℕ) (xs : List ℕ) → rising xs ≡ true → among xs id ≡ false → among xs q ≡ true → above q (put itself id xs) ≡ cond (names (below id xs) q) (Some id) (above q xs)
above-put id q [] r n m = absurd (let e : false ≡ true = m in cc)
above-put id q (y ∷ ys) r n m =
    let o_y = over-among y q ys in
    go (below id ys) refl (λ c. below-among id c ys) (λ l. first-put y id ys l) (above-put id q ys)
  where
    go : (o : Option ℕ) → below id ys ≡ o → ((c : ℕ) → o ≡ Some c → (among ys c ≡ true) × (c < id))
        → (y < id → over y ys ≡ true → among ys id ≡ false → above y (put itself id ys) ≡ cond (is_none o) (Some id) (first ys))
        → (rising ys ≡ true → among ys id ≡ false → among ys q ≡ true → above q (put itself id ys) ≡ cond (names o q) (Some id) (above q ys))
        → above q (put itself id (y ∷ ys)) ≡ cond (names (below id (y ∷ ys)) q) (Some id) (above q (y ∷ ys))
    go None is f p ih =
        let o_q = over-among y q ys in
        let a_y = above-over y ys in
        grind (arith, nat_tests)
    go (Some c) is f p ih =
        let i = f c refl in
        let o_q = over-among y q ys in
        let o_c = over-among y c ys in
        let a_y = above-over y ys in
        grind (arith, nat_tests)

pub below-put : (id q : ℕ) (xs : List ℕ) → rising xs ≡ true → among xs id ≡ false → among xs q ≡ true → below q (put itself id xs) ≡ cond (names (above id xs) q) (Some id) (below q xs)
below-put id q [] r n m = absurd (let e : false ≡ true = m in cc)
below-put id q (y ∷ ys) r n m = go (above id ys) refl (λ a. above-among id a ys) (below-put id q ys)
  where
    go : (o : Option ℕ) → above id ys ≡ o → ((a : ℕ) → o ≡ Some a → (among ys a ≡ true) × (id < a))
        → (rising ys ≡ true → among ys id ≡ false → among ys q ≡ true → below q (put itself id ys) ≡ cond (names o q) (Some id) (below q ys))
        → below q (put itself id (y ∷ ys)) ≡ cond (names (above id (y ∷ ys)) q) (Some id) (below q (y ∷ ys))
    go None is f ih =
        let o_q = over-among y q ys in
        grind (arith, nat_tests)
    go (Some a) is f ih =
        let i = f a refl in
        let o_q = over-among y q ys in
        let o_a = over-among y a ys in
        grind (arith, nat_tests)

-- a number has the same neighbours before and after it is put in the list
pub above-put-itself : (id : ℕ) (xs : List ℕ) → rising xs ≡ true → among xs id ≡ false → above id (put itself id xs) ≡ above id xs
above-put-itself id [] r n = grind (arith, nat_tests)
above-put-itself id (y ∷ ys) r n =
    let ih = above-put-itself id ys in
    grind (arith, nat_tests)

pub below-put-itself : (id : ℕ) (xs : List ℕ) → rising xs ≡ true → among xs id ≡ false → below id (put itself id xs) ≡ below id xs
below-put-itself id [] r n = grind (arith, nat_tests)
below-put-itself id (y ∷ ys) r n =
    let ih = below-put-itself id ys in
    grind (arith, nat_tests)

length-put : (id : ℕ) (xs : List ℕ) → among xs id ≡ false → length (put itself id xs) ≡ suc (length xs)
length-put id [] n = refl
length-put id (y ∷ ys) n =
    let ih = length-put id ys in
    grind (arith, nat_tests)

last-low : (z : ℕ) (zs : List ℕ) → rising (z ∷ zs) ≡ true → z ≤ last_from z zs
last-low z [] r = omega arith
last-low z (w ∷ ws) r =
    let ih = last-low w ws in
    grind (arith, nat_tests)

last-put : (id y : ℕ) (ys : List ℕ) → y < id → rising (y ∷ ys) ≡ true → among ys id ≡ false → last_from y (put itself id ys) ≡ cond (ltb (last_from y ys) id) id (last_from y ys)
last-put id y [] l r n = grind (arith, nat_tests)
last-put id y (z ∷ zs) l r n =
    let ih = last-put id z zs in
    let low = last-low z zs in
    grind (arith, nat_tests)

-- what one number more makes of the ends and the length of the list
pub ends-put : (id : ℕ) (xs : List ℕ) → rising xs ≡ true → among xs id ≡ false → ends_of (put itself id xs) ≡ Some (grown id (ends_of xs))
ends-put id [] r n = refl
ends-put id (y ∷ ys) r n =
    let l = last-put id y ys in
    let k = length-put id ys in
    let low = last-low y ys in
    grind (arith, nat_tests)

-- Where a new number goes

-- the search from the list's end begins with its last number
pub below-last : (b x : ℕ) (xs : List ℕ) → rising (x ∷ xs) ≡ true → last_from x xs < b → below b (x ∷ xs) ≡ Some (last_from x xs)
below-last b x [] r l = grind (arith, nat_tests)
below-last b x (y ∷ ys) r l =
    let ih = below-last b y ys in
    let low = last-low y ys in
    grind (arith, nat_tests)

below-lower-none : (id b : ℕ) (xs : List ℕ) → id ≤ b → below b xs ≡ None → below id xs ≡ None
below-lower-none id b [] l e = refl
below-lower-none id b (x ∷ xs) l e = grind (arith, nat_tests)

below-lower-some : (id b a : ℕ) (xs : List ℕ) → id ≤ b → a < id → rising xs ≡ true → below b xs ≡ Some a → below id xs ≡ Some a
below-lower-some id b a [] l f r e = e
below-lower-some id b a (x ∷ xs) l f r e = go (below b xs) refl (λ c. below-among b c xs) (below-lower-none id b xs l) (below-lower-some id b a xs l f)
  where
    go : (o : Option ℕ) → below b xs ≡ o → ((c : ℕ) → o ≡ Some c → (among xs c ≡ true) × (c < b)) → (o ≡ None → below id xs ≡ None) → (rising xs ≡ true → o ≡ Some a → below id xs ≡ Some a) → below id (x ∷ xs) ≡ Some a
    go None is h n ih =
        let m = n refl in
        grind (arith, nat_tests)
    go (Some c) is h n ih =
        let g = h c refl in
        let low = over-among x c xs in
        grind (arith, nat_tests)

-- it ends at a number below the new one, or before the list
pub below-lower : (id b : ℕ) (xs : List ℕ) (o : Option ℕ) → rising xs ≡ true → id ≤ b → below b xs ≡ o → ((x : ℕ) → o ≡ Some x → x < id) → below id xs ≡ o
below-lower id b xs None r l e f = below-lower-none id b xs l e
below-lower id b xs (Some a) r l e f = below-lower-some id b a xs l (f a refl) r e

pub above-first : (id : ℕ) (xs : List ℕ) → among xs id ≡ false → below id xs ≡ None → above id xs ≡ first xs
above-first id [] n e = refl
above-first id (x ∷ xs) n e = grind (arith, nat_tests)

-- what follows the number below a new one
pub above-below : (id b : ℕ) (xs : List ℕ) → rising xs ≡ true → among xs id ≡ false → below id xs ≡ Some b → above b xs ≡ above id xs
above-below id b [] r n e = refl
above-below id b (x ∷ xs) r n e = go (below id xs) refl (λ c. below-among id c xs) (above-below id b xs)
  where
    go : (o : Option ℕ) → below id xs ≡ o → ((c : ℕ) → o ≡ Some c → (among xs c ≡ true) × (c < id)) → (rising xs ≡ true → among xs id ≡ false → o ≡ Some b → above b xs ≡ above id xs) → above b (x ∷ xs) ≡ above id (x ∷ xs)
    go None is h ih =
        let f = above-first id xs in
        let g = above-over x xs in
        grind (arith, nat_tests)
    go (Some c) is h ih =
        let g = h c refl in
        let low = over-among x c xs in
        grind (arith, nat_tests)

-- One number less

abbrev pub less : ℕ → List ℕ → List ℕ
less id xs = without (λ x. eqb id x) xs

pub less-over : (id : ℕ) (xs : List ℕ) → over id xs ≡ true → less id xs ≡ xs
less-over id [] h = refl
less-over id (x ∷ xs) h =
    let ih = less-over id xs in
    let low = over-low id x xs in
    grind (arith, nat_tests)

-- a number that is the first of its list
less-first : (y id : ℕ) (ys : List ℕ) → over y ys ≡ true → rising ys ≡ true → among ys id ≡ true → below id ys ≡ None → above y (less id ys) ≡ above id ys
less-first y id [] h r n e = refl
less-first y id (z ∷ zs) h r n e =
    let o_i = over-among z id zs in
    let l_i = less-over id zs in
    let a_z = above-over z zs in
    let a_y = above-over y zs in
    grind (arith, nat_tests)

pub above-less : (id q : ℕ) (xs : List ℕ) → rising xs ≡ true → among xs id ≡ true → among xs q ≡ true → q ≢ id → above q (less id xs) ≡ cond (names (below id xs) q) (above id xs) (above q xs)
above-less id q [] r n m ne = absurd (let e : false ≡ true = m in cc)
above-less id q (y ∷ ys) r n m ne = go (below id ys) refl (λ c. below-among id c ys) (above-less id q ys)
  where
    go : (o : Option ℕ) → below id ys ≡ o → ((c : ℕ) → o ≡ Some c → (among ys c ≡ true) × (c < id))
        → (rising ys ≡ true → among ys id ≡ true → among ys q ≡ true → q ≢ id → above q (less id ys) ≡ cond (names o q) (above id ys) (above q ys))
        → above q (less id (y ∷ ys)) ≡ cond (names (below id (y ∷ ys)) q) (above id (y ∷ ys)) (above q (y ∷ ys))
    go None is f ih =
        let o_q = over-among y q ys in
        let o_i = over-among y id ys in
        let a_y = above-over y ys in
        let l_y = less-over id ys in
        let l_q = less-first y id ys in
        grind (arith, nat_tests)
    go (Some c) is f ih =
        let g = f c refl in
        let o_q = over-among y q ys in
        let o_i = over-among y id ys in
        let o_c = over-among y c ys in
        let a_y = above-over y ys in
        let l_y = less-over id ys in
        grind (arith, nat_tests)

-- the neighbour of the second of a list
below-second : (y q : ℕ) (ys : List ℕ) → over y ys ≡ true → rising ys ≡ true → among ys q ≡ true → below q (y ∷ ys) ≡ cond (names (first ys) q) (Some y) (below q ys)
below-second y q [] h r m = absurd (let e : false ≡ true = m in cc)
below-second y q (z ∷ zs) h r m =
    let o_q = over-among z q zs in
    grind (arith, nat_tests)

pub below-less : (id q : ℕ) (xs : List ℕ) → rising xs ≡ true → among xs id ≡ true → among xs q ≡ true → q ≢ id → below q (less id xs) ≡ cond (names (above id xs) q) (below id xs) (below q xs)
below-less id q [] r n m ne = absurd (let e : false ≡ true = m in cc)
below-less id q (y ∷ ys) r n m ne = go (above id ys) refl (λ a. above-among id a ys) (below-less id q ys)
  where
    go : (o : Option ℕ) → above id ys ≡ o → ((a : ℕ) → o ≡ Some a → (among ys a ≡ true) × (id < a))
        → (rising ys ≡ true → among ys id ≡ true → among ys q ≡ true → q ≢ id → below q (less id ys) ≡ cond (names o q) (below id ys) (below q ys))
        → below q (less id (y ∷ ys)) ≡ cond (names (above id (y ∷ ys)) q) (below id (y ∷ ys)) (below q (y ∷ ys))
    go None is f ih =
        let o_q = over-among y q ys in
        let o_i = over-among y id ys in
        let l_y = less-over id ys in
        let a_y = above-over id ys in
        let b_y = below-second id q ys in
        grind (arith, nat_tests)
    go (Some a) is f ih =
        let g = f a refl in
        let o_q = over-among y q ys in
        let o_i = over-among y id ys in
        let o_a = over-among y a ys in
        let l_y = less-over id ys in
        let a_y = above-over id ys in
        let b_y = below-second id q ys in
        grind (arith, nat_tests)

-- a list that loses a number is shorter by one
pub length-less : (id : ℕ) (xs : List ℕ) → rising xs ≡ true → among xs id ≡ true → suc (length (less id xs)) ≡ length xs
length-less id [] r n = absurd (let e : false ≡ true = n in cc)
length-less id (y ∷ ys) r n =
    let ih = length-less id ys in
    let l_y = less-over id ys in
    let o_i = over-among y id ys in
    grind (arith, nat_tests)

last-here : (x z : ℕ) (zs : List ℕ) → rising (z ∷ zs) ≡ true → last_from x zs ≡ cond (eqb (last_from z zs) z) x (last_from z zs)
last-here x z [] r = grind (arith, nat_tests)
last-here x z (w ∷ ws) r =
    let low = last-low w ws in
    grind (arith, nat_tests)

last-less : (id x : ℕ) (ys : List ℕ) → rising ys ≡ true → among ys id ≡ true → last_from x (less id ys) ≡ cond (eqb (last_from x ys) id) (unwrap_or (below id ys) x) (last_from x ys)
last-less id x [] r n = absurd (let e : false ≡ true = n in cc)
last-less id x (z ∷ zs) r n =
    let ih = last-less id z zs in
    let l_z = less-over id zs in
    let o_i = over-among z id zs in
    let h = last-here x z zs in
    grind (arith, nat_tests)

-- what one number less makes of the ends and the length of the list
pub ends-less : (id : ℕ) (xs : List ℕ) → rising xs ≡ true → among xs id ≡ true → ends_of (less id xs) ≡ option_and_then (shrunk id (below id xs) (above id xs)) (ends_of xs)
ends-less id [] r n = absurd (let e : false ≡ true = n in cc)
ends-less id (y ∷ []) r n = grind (arith, nat_tests)
ends-less id (y ∷ z ∷ zs) r n =
    let l_y = less-over id (z ∷ zs) in
    let o_i = over-among y id (z ∷ zs) in
    let a_y = above-over id (z ∷ zs) in
    let low = last-low z zs in
    let last = last-less id y (z ∷ zs) in
    let size = length-less id (z ∷ zs) in
    grind (arith, nat_tests)

-- a list has a head where a number is in it
pub ends-some : (k : ℕ) (xs : List ℕ) → among xs k ≡ true → ends_of xs ≡ None → ⊥
ends-some k [] m e = absurd (let f : false ≡ true = m in cc)
ends-some k (x ∷ xs) m e = absurd (cc)

pub ends-first : (xs : List ℕ) → option_map (λ (e : Ends). e.first) (ends_of xs) ≡ first xs
ends-first [] = refl
ends-first (x ∷ xs) = refl

-- the search for the place of a number: its start, its steps and its end
pub sought-last : (id : ℕ) (xs : List ℕ) → rising xs ≡ true → IsSought id xs (option_map (λ (e : Ends). e.last) (ends_of xs))
sought-last id [] r = record { bound = id; high = omega arith; is = refl }
sought-last id (x ∷ xs) r = record { bound = suc (id + last_from x xs); high = omega arith; is = sym (below-last (suc (id + last_from x xs)) x xs r (omega arith)) }

pub sought-member : (id other : ℕ) (xs : List ℕ) (o : Option ℕ) → IsSought id xs o → o ≡ Some other → among xs other ≡ true
sought-member id other xs o s e = (below-among s.bound other xs (sym s.is ∙ e)).0

pub sought-next : (id other : ℕ) (xs : List ℕ) (o : Option ℕ) → id ≤ other → o ≡ below other xs → IsSought id xs o
sought-next id other xs o l e = record { bound = other; high = l; is = e }

pub sought-end : (id : ℕ) (xs : List ℕ) (o : Option ℕ) → rising xs ≡ true → IsSought id xs o → ((x : ℕ) → o ≡ Some x → x < id) → o ≡ below id xs
sought-end id xs o r s f = sym (below-lower id s.bound xs o r s.high (sym s.is) f)

-- the search upwards: it goes on to a number below the new one, and ends before one that is not
sought-over : (h id : ℕ) (xs : List ℕ) → h < id → over h xs ≡ true → ((a : ℕ) → first xs ≡ Some a → id ≤ a) → below id xs ≡ None
sought-over h id [] l o e = refl
sought-over h id (x ∷ xs) l o e =
    let le = e x refl in
    grind (arith, nat_tests)

sought-above : (h id : ℕ) (xs : List ℕ) → rising xs ≡ true → among xs h ≡ true → h < id → ((a : ℕ) → above h xs ≡ Some a → id ≤ a) → Some h ≡ below id xs
sought-above h id [] r m l e = absurd (let f : false ≡ true = m in cc)
sought-above h id (x ∷ xs) r m l e = go (below id xs) refl (λ o f. sought-over h id xs l o f) (λ s n f. sought-above h id xs s n l f)
  where
    go : (o : Option ℕ) → below id xs ≡ o → (over h xs ≡ true → ((a : ℕ) → first xs ≡ Some a → id ≤ a) → o ≡ None)
        → (rising xs ≡ true → among xs h ≡ true → ((a : ℕ) → above h xs ≡ Some a → id ≤ a) → Some h ≡ o) → Some h ≡ below id (x ∷ xs)
    go o is none ih = elim (cases_eq x h) [
      | inl same ↦
          let up : over h xs ≡ true = grind (arith, nat_tests) in
          let f = none up (λ a s. e a (let v = above-over h xs up in grind (arith, nat_tests))) in
          grind (arith, nat_tests)
      | inr other ↦
          let n : among xs h ≡ true = grind (arith, nat_tests) in
          let s : rising xs ≡ true = grind (arith, nat_tests) in
          let lt = over-among x h xs in
          let i = ih s n (λ a s. e a (grind (arith, nat_tests))) in
          grind (arith, nat_tests)
    ]

-- a number below the new one is the one next below it, where what follows it is not below the new one
pub sought-up : (h id : ℕ) (xs : List ℕ) (o : Option ℕ) → rising xs ≡ true → among xs h ≡ true → h < id → o ≡ above h xs → ((a : ℕ) → o ≡ Some a → id ≤ a) → Some h ≡ below id xs
sought-up h id xs o r m l e f = sought-above h id xs r m l (λ a s. f a (e ∙ s))

-- the last of a list, where it is below the new number
pub sought-end-last : (id last : ℕ) (xs : List ℕ) → rising xs ≡ true → option_map (λ (e : Ends). e.last) (ends_of xs) ≡ Some last → last < id → Some last ≡ below id xs
sought-end-last id last xs r e l = sym e ∙ sought-end id xs _ r (sought-last id xs r) (λ x f. let v : Some last ≡ Some x = sym e ∙ f in let w : last ≡ x = cc in rw w at l)

-- and none follows it
above-last : (k x : ℕ) (xs : List ℕ) → rising (x ∷ xs) ≡ true → last_from x xs < k → above k (x ∷ xs) ≡ None
above-last k x [] r l = grind (arith, nat_tests)
above-last k x (y ∷ ys) r l =
    let ih = above-last k y ys in
    let low = last-low y ys in
    grind (arith, nat_tests)

pub above-past : (id last : ℕ) (xs : List ℕ) → rising xs ≡ true → option_map (λ (e : Ends). e.last) (ends_of xs) ≡ Some last → last < id → None ≡ above id xs
above-past id last [] r e l = refl
above-past id last (x ∷ xs) r e l = let v : Some (last_from x xs) ≡ Some last = e in let w : last_from x xs ≡ last = cc in sym (above-last id x xs r (rw w l))
