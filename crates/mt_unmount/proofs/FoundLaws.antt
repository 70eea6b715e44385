-- Values that are there on a condition, what comes of lists, and numbers of a list: where one stands, and those that
-- are found by halving.
use Rattle.std.proofs.Common.{◌≡◌, ℕ, ◌<◌, Bool, true, false, cond, eqb-true, List, [], ◌∷◌, length, get_or, Option, Some, None, refl, sym, ap, ◌∙◌, inl, inr, ◌≤◌, not, ◌&&◌, eq-eqb, Result, Ok, Err, subst, arith}
use Rattle.std.specs.Prelude.{nat_eq, MatchResult}
use Rattle.std.specs.List.{cons_option, filter_map, filter}
use Rattle.std.specs.List.Sorted.{IsStrictlyIncreasing, IsBinarySearchResult}
use Rattle.std.specs.Ordering.{nat_cmp}
use Rattle.std.specs.Result.{is_ok}
use Rattle.std.proofs.lemmas.Grind.{get_or_default_zero}
use Rattle.std.proofs.lemmas.List.Folds.{Any-from_list_any, list_any_at}
use Rattle.std.proofs.lemmas.Bool.{cases_lt, false_from_ne_true}
use Rattle.std.proofs.lemmas.Bool.Decides.{nat_tests}
use Rattle.std.proofs.lemmas.List.Kept.{AllPairs-from_increasing}
use Rattle.std.proofs.lemmas.List.Sorted.{searched}
use Rattle.std.proofs.lemmas.Map.Views.{any-filter_same}
use Rattle.std.proofs.Math.Bool.{and_comm}
use Rattle.mt_skel.specs.Keyed.{among}
use Rattle.mt_skel.proofs.ElementLaws.{In}
use Rattle.mt_peers.proofs.MemberLaws.{some-is}
use Rattle.mt_unmount.specs.Taking.{AreGone}

-- a value that is there where a test holds, or where it does not
pub where_true : {A : Type 0} (b : Bool) (o : Option A) (x : A) → cond b o None ≡ Some x → (b ≡ true) × (o ≡ Some x)
where_true true o x e = (refl, e)
where_true false o x e = absurd (cc)

pub where_false : {A : Type 0} (b : Bool) (o : Option A) (x : A) → cond b None o ≡ Some x → (b ≡ false) × (o ≡ Some x)
where_false true o x e = absurd (cc)
where_false false o x e = (refl, e)

-- what comes of a list is what comes of one of its elements, and the other way round
pub in_filter_map : {X Y : Type 0} (f : X → Option Y) (y : Y) (xs : List X) → In y (filter_map f xs) → (x : X) × In x xs × (f x ≡ Some y)
in_filter_map f y [] e = absurd e
in_filter_map {X} {Y} f y (x ∷ xs) e = go (f x) refl e (in_filter_map f y xs)
  where
    go : (o : Option Y) → f x ≡ o → In y (cons_option o (filter_map f xs)) → (In y (filter_map f xs) → (z : X) × In z xs × (f z ≡ Some y)) → (z : X) × In z (x ∷ xs) × (f z ≡ Some y)
    go None is e ih = let r = ih e in (r.0, inr r.1, r.2)
    go (Some a) is e ih = elim e [ inl here ↦ (x, inl refl, is ∙ ap (λ v. Some v) here) | inr later ↦ let r = ih later in (r.0, inr r.1, r.2) ]

pub in_filter_mapped : {X Y : Type 0} (f : X → Option Y) (y : Y) (x : X) (xs : List X) → In x xs → f x ≡ Some y → In y (filter_map f xs)
in_filter_mapped f y x [] e at = absurd e
in_filter_mapped {X} {Y} f y x (z ∷ xs) e at = go (f z) refl e (λ later. in_filter_mapped f y x xs later at)
  where
    go : (o : Option Y) → f z ≡ o → In x (z ∷ xs) → (In x xs → In y (filter_map f xs)) → In y (cons_option o (filter_map f xs))
    go None is e ih = elim e [ inl here ↦ absurd (let v : None ≡ Some y = sym is ∙ ap f here ∙ at in cc) | inr later ↦ ih later ]
    go (Some a) is e ih = elim e [ inl here ↦ inl (some-is a y (sym is ∙ ap f here ∙ at)) | inr later ↦ inr (ih later) ]

-- a number of a list stands at a position of it
pub among-at : (xs : List ℕ) (x : ℕ) → among xs x ≡ true → (k : ℕ) × (k < length xs) × (get_or xs k 0 ≡ x)
among-at xs x e = let p = Any-from_list_any (λ k. nat_eq k x) xs e in (p.0, p.2, sym (get_or_default_zero xs p.0 p.1 p.2) ∙ p.3 ∙ eqb-true p.1 x p.4)

-- what is found by halving
not-falling : (xs : List ℕ) → IsStrictlyIncreasing xs → (i j : ℕ) → i ≤ j → j < length xs → get_or xs i 0 ≤ get_or xs j 0
not-falling xs up i j l within = elim (cases_lt i j) [
  | inl less ↦ (let a = AllPairs-from_increasing xs up i j 0 less within in omega (arith, a))
  | inr more ↦ (let same : i ≡ j = omega (arith, l, more) in subst (λ k. get_or xs i 0 ≤ get_or xs k 0) same (omega arith))
]

pub searched-among : (xs : List ℕ) (x : ℕ) (r : Result ℕ ℕ) → IsStrictlyIncreasing xs → IsBinarySearchResult (λ y. nat_cmp y x) xs r → is_ok r ≡ among xs x
searched-among xs x r up e = go r (searched xs x r e (not-falling xs up))
  where
    go : (r : Result ℕ ℕ) → MatchResult r (λ i. (i < length xs) × (get_or xs i 0 ≡ x)) (λ i. (i ≤ length xs) × ((k : ℕ) → k < i → get_or xs k 0 < x) × ((k : ℕ) → i ≤ k → k < length xs → x < get_or xs k 0)) → is_ok r ≡ among xs x
    go (Ok i) m = sym (list_any_at (λ k. nat_eq k x) xs i 0 m.0 (eq-eqb (get_or xs i 0) x m.1))
    go (Err i) m = sym (false_from_ne_true (among xs x) (λ e.
        let k = among-at xs x e in
        let same = k.2 in
        elim (cases_lt k.0 i) [
          | inl less ↦ (let a = m.1 k.0 less in omega (arith, a, same))
          | inr more ↦ (let a = m.2 k.0 more k.1 in omega (arith, a, same))
        ]))

-- those of a list that another test does not hold of
pub among-without : (xs : List ℕ) (off : ℕ → Bool) (j : ℕ) → among (filter (λ k. not (off k)) xs) j ≡ (among xs j && not (off j))
among-without xs off j =
    any-filter_same (λ k. nat_eq k j) (λ k. not (off k)) (not (off j)) (λ k e. ap (λ k. not (off k)) (eqb-true k j e)) xs ∙ and_comm (not (off j)) (among xs j)

-- a list of the mounts that go has the IDs that the test of them passes
pub listed-is : (goes : ℕ → Bool) (ids : List ℕ) → AreGone goes ids → among ids ≡ goes
listed-is goes ids are = λ t. λ j. are.each j t

-- a number is left by a filter if it is there and passes
pub among-filter : (p : ℕ → Bool) (xs : List ℕ) (q : ℕ) → among (filter p xs) q ≡ (among xs q && p q)
among-filter p [] q = refl
among-filter p (x ∷ xs) q = let ih = among-filter p xs q in grind (arith, nat_tests)
