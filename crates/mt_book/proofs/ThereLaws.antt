-- The namespaces that are there, by rising number, and what is kept of each.
use Rattle.std.proofs.Common.{◌≡◌, inl, inr, ℕ, zero, suc, ◌+◌, ◌-◌, ◌<◌, ◌≤◌, Bool, true, false, cond, ◌&&◌, ◌==◌, List, [], ◌∷◌, ◌++◌, map, length, slice_index_or, Option, Some, None, refl, sym, ap, ◌∙◌, arith, append-nil}
use Rattle.std.specs.Prelude.{nat_lt}
use Rattle.std.specs.List.{filter, filter_map, find, range_with_len}
use Rattle.std.specs.Option.{option_map}
use Rattle.std.proofs.lemmas.Bool.Decides.{nat_tests}
use Rattle.std.proofs.lemmas.List.{map-append}
use Rattle.std.proofs.lemmas.List.Elements.{filter-append, filter_map-append}
use Rattle.mt_skel.specs.Keyed.{rises}
use Rattle.mt_skel.proofs.ElementLaws.{In, row_in, in_filter}
use Rattle.mt_skel.proofs.KeyedLaws.{row_at-key, rises-put, rises-filter}
use Rattle.mt_skel.proofs.SortedLaws.{rises-keys}
use Rattle.mt_peers.proofs.MemberLaws.{filter-mapped}
use Rattle.mt_propagate.proofs.AddedLaws.{put-last}
use Rattle.mt_propagate.proofs.RowLaws.{filter-same, filter-two, each_in, in_all}
use Rattle.mt_skel.proofs.MiddleLaws.{and-true}
use Rattle.mt_propagate.specs.World.{WorldView, is_space}
use Rattle.mt_events.specs.Posts.{PostView}
use Rattle.mt_book.specs.Book.{next_number, next_post, space_in, number_in, counted, posts_at_change, with_newborn, still_there, spaces_of}

-- a namespace with its number
abbrev pub numbered_row : ℕ → ℕ → ℕ × ℕ
numbered_row n k = (n, k)

-- namespaces with the numbers that a function gives
abbrev pub paired : (ℕ → ℕ) → List ℕ → List (ℕ × ℕ)
paired f xs = map (λ n. (n, f n)) xs

-- the namespaces that are there, and the one that a command makes
abbrev pub all_in : WorldView → Bool → List ℕ
all_in w more = spaces_of w ++ cond more (w.next_space ∷ []) []

pub rows-spaces : (f : ℕ → ℕ) (xs : List ℕ) → map space_in (paired f xs) ≡ xs
rows-spaces f [] = refl
rows-spaces f (x ∷ xs) = ap (λ l. x ∷ l) (rows-spaces f xs)

pub newborn-rows : (f : ℕ → ℕ) (w : WorldView) (more : Bool) → f w.next_space ≡ 0 → with_newborn (paired f (spaces_of w)) w.next_space more ≡ paired f (all_in w more)
newborn-rows f w true z =
    ap (λ k. paired f (spaces_of w) ++ numbered_row w.next_space k ∷ []) (sym z) ∙ sym (map-append (λ n. numbered_row n (f n)) (spaces_of w) (w.next_space ∷ []))
newborn-rows f w false z = append-nil (paired f (spaces_of w)) ∙ ap (paired f) (sym (append-nil (spaces_of w)))

-- ---- what a command changes of them

pub counted-rows : (w v : WorldView) (f g : ℕ → ℕ) → ((n : ℕ) → next_number w v n (f n) ≡ g n) → (xs : List ℕ) → counted w v (paired f xs) ≡ paired g xs
counted-rows w v f g same [] = refl
counted-rows w v f g same (x ∷ xs) = let rest = counted-rows w v f g same xs in λ i. numbered_row x (same x i) ∷ rest i

pub posted-rows : (w v : WorldView) (f : ℕ → ℕ) (xs : List ℕ) → posts_at_change w v (paired f xs) ≡ filter_map (λ n. next_post w v n (f n)) xs
posted-rows w v f [] = refl
posted-rows w v f (x ∷ xs) = let ih = posted-rows w v f xs in grind (arith, nat_tests)

pub there-rows : (v : WorldView) (f : ℕ → ℕ) (xs : List ℕ) → still_there v (paired f xs) ≡ paired f (filter (is_space v) xs)
there-rows v f xs = filter-mapped (λ r. is_space v (space_in r)) (λ n. numbered_row n (f n)) xs

-- ---- all numbers that were given out, and those of namespaces that are there

range-more : (a n j : ℕ) → a + n ≡ j → range_with_len a (suc n) ≡ range_with_len a n ++ j ∷ []
range-more a zero j e = ap (λ x. x ∷ []) (omega (arith, e))
range-more a (suc n) j e = ap (λ l. a ∷ l) (range-more (a + 1) n j (omega (arith, e)))

in_range : (a k n : ℕ) → In n (range_with_len a k) → (a ≤ n) × (n < a + k)
in_range a zero n there = absurd there
in_range a (suc k) n there = elim there [ inl here ↦ (omega (arith, here), omega (arith, here)) | inr later ↦ let l = in_range (a + 1) k n later in (omega (arith, l.0), omega (arith, l.1)) ]

-- one that is not there before is not there after
there-twice : (p q : ℕ → Bool) (a k b : ℕ) → ((n : ℕ) → n < b → p n ≡ false → q n ≡ false) → a + k ≤ b → filter q (filter p (range_with_len a k)) ≡ filter q (range_with_len a k)
there-twice p q a k b off l =
    filter-two q p (λ n. p n && q n) (λ n. refl) (range_with_len a k)
    ∙ filter-same (λ n. p n && q n) q (range_with_len a k) (each_in (λ n. (p n && q n) ≡ q n) (range_with_len a k) (λ n there. let low = in_range a k n there in by (p n) (off n (omega (arith, l, low.1)))))
  where
    by : {t : Bool} (x : Bool) → (x ≡ false → t ≡ false) → (x && t) ≡ t
    by true f = refl
    by false f = sym (f refl)

told-there : (p : ℕ → Bool) (h : ℕ → Option PostView) (a k b : ℕ) → ((n : ℕ) → n < b → p n ≡ false → h n ≡ None) → a + k ≤ b → filter_map h (filter p (range_with_len a k)) ≡ filter_map h (range_with_len a k)
told-there p h a zero b off l = refl
told-there p h a (suc k) b off l =
    let ih : filter_map h (filter p (range_with_len (a + 1) k)) ≡ filter_map h (range_with_len (a + 1) k) = told-there p h (a + 1) k b off (omega (arith, l)) in
    let here = off a (omega (arith, l)) in
    grind (arith, nat_tests)

all-range : (w : WorldView) (more : Bool) (s : ℕ) → 1 ≤ w.next_space → s ≡ w.next_space + cond more 1 0 → range_with_len 1 (w.next_space - 1) ++ cond more (w.next_space ∷ []) [] ≡ range_with_len 1 (s - 1)
all-range w true s one e = sym (ap (range_with_len 1) (longer (s - 1) (w.next_space - 1) (omega (arith, one, e))) ∙ range-more 1 (w.next_space - 1) w.next_space (omega (arith, one)))
  where
    longer : (m n : ℕ) → m ≡ n + 1 → m ≡ suc n
    longer m n same = omega (arith, same)
all-range w false s one e = append-nil (range_with_len 1 (w.next_space - 1)) ∙ ap (λ k. range_with_len 1 (k - 1)) (omega (arith, e))

-- the namespaces after a command are those from before that are still there, and the one that it makes
pub spaces-next : (w v : WorldView) (more : Bool) → 1 ≤ w.next_space → v.next_space ≡ w.next_space + cond more 1 0 → ((n : ℕ) → n < w.next_space → is_space w n ≡ false → is_space v n ≡ false)
    → filter (is_space v) (all_in w more) ≡ spaces_of v
spaces-next w v more one e off =
    filter-append (is_space v) (spaces_of w) (cond more (w.next_space ∷ []) [])
    ∙ ap (λ l. l ++ filter (is_space v) (cond more (w.next_space ∷ []) [])) (there-twice (is_space w) (is_space v) 1 (w.next_space - 1) w.next_space off (omega (arith, one)))
    ∙ sym (filter-append (is_space v) (range_with_len 1 (w.next_space - 1)) (cond more (w.next_space ∷ []) []))
    ∙ ap (filter (is_space v)) (all-range w more v.next_space one e)

-- where no namespace that is gone has a post, all posts are of those that are there and of the one that is made
pub posts-all : (w : WorldView) (more : Bool) (s : ℕ) (h : ℕ → Option PostView) → 1 ≤ w.next_space → s ≡ w.next_space + cond more 1 0 → ((n : ℕ) → n < w.next_space → is_space w n ≡ false → h n ≡ None)
    → filter_map h (all_in w more) ≡ filter_map h (range_with_len 1 (s - 1))
posts-all w more s h one e off =
    filter_map-append h (spaces_of w) (cond more (w.next_space ∷ []) [])
    ∙ ap (λ l. l ++ filter_map h (cond more (w.next_space ∷ []) [])) (told-there (is_space w) h 1 (w.next_space - 1) w.next_space off (omega (arith, one)))
    ∙ sym (filter_map-append h (range_with_len 1 (w.next_space - 1)) (cond more (w.next_space ∷ []) []))
    ∙ ap (filter_map h) (all-range w more s one e)

-- ---- their order

rows-rise : (f : ℕ → ℕ) (xs : List ℕ) → rises space_in (paired f xs) ≡ rises (λ k. k) xs
rows-rise f xs = sym (rises-keys space_in (paired f xs)) ∙ ap (rises (λ k. k)) (rows-spaces f xs)

range-rises : (a k : ℕ) → rises (λ n. n) (range_with_len a k) ≡ true
range-rises a zero = refl
range-rises a (suc k) = and-true _ _ (in_all (λ n. nat_lt a n) (range_with_len (a + 1) k) (λ n there. let low = in_range (a + 1) k n there in grind (arith, nat_tests))) (range-rises (a + 1) k)

rises-part : (p : ℕ → Bool) (more : Bool) (a k s : ℕ) → a + k ≡ s → rises (λ n. n) (filter p (range_with_len a k) ++ cond more (s ∷ []) []) ≡ true
rises-part p true a k s e =
    let part = filter p (range_with_len a k) in
    ap (rises (λ n. n)) (sym (put-last (λ n. n) s part (λ i n at.
    let low = in_range a k n (in_filter p n (range_with_len a k) (row_in (λ n. n) i part n at)).0 in
    omega (arith, low.1, e, row_at-key (λ n. n) i part n at)))) ∙ rises-put (λ n. n) s part (rises-filter (λ n. n) p (range_with_len a k) (range-rises a k))
rises-part p false a k s e = ap (rises (λ n. n)) (append-nil (filter p (range_with_len a k))) ∙ rises-filter (λ n. n) p (range_with_len a k) (range-rises a k)

-- the namespaces that are there, and the one that is made, stand by rising number
pub all-rise : (f : ℕ → ℕ) (w : WorldView) (more : Bool) → 1 ≤ w.next_space → rises space_in (paired f (all_in w more)) ≡ true
all-rise f w more one = rows-rise f (all_in w more) ∙ rises-part (is_space w) more 1 (w.next_space - 1) w.next_space (omega (arith, one))

-- where no number is above a limit, none that is kept is above it
pub rows-few : (f : ℕ → ℕ) (l : ℕ) → ((n : ℕ) → f n ≤ l) → (xs : List ℕ) (i : ℕ) (r : ℕ × ℕ) → i < length (paired f xs) → r ≡ slice_index_or (paired f xs) i r → number_in r ≤ l
rows-few f l few [] i r low e = absurd (omega (arith, low))
rows-few f l few (x ∷ xs) zero r low e = let same : number_in r ≡ f x = ap number_in e in omega (arith, few x, same)
rows-few f l few (x ∷ xs) (suc i) r low e = rows-few f l few xs i r (omega (arith, low)) e

-- ---- one of them

find_row : (f : ℕ → ℕ) (n : ℕ) (xs : List ℕ) → option_map number_in (find (λ r. space_in r == n) (paired f xs)) ≡ option_map f (find (λ m. m == n) xs)
find_row f n [] = refl
find_row f n (x ∷ xs) = let ih = find_row f n xs in grind (arith, nat_tests)

-- a number among those that pass a test
pub find_failing : (t : ℕ → Bool) (n : ℕ) (xs : List ℕ) → t n ≡ false → find (λ m. m == n) (filter t xs) ≡ None
find_failing t n [] e = refl
find_failing t n (x ∷ xs) e = let ih = find_failing t n xs e in let here : x ≡ n → t x ≡ false = λ same. ap t same ∙ e in grind (arith, nat_tests)

pub find_passing : (t : ℕ → Bool) (n a len : ℕ) → t n ≡ true → a ≤ n → n < a + len → find (λ m. m == n) (filter t (range_with_len a len)) ≡ Some n
find_passing t n a zero e low high = absurd (omega (arith, low, high))
find_passing t n a (suc len) e low high =
    let ih : a + 1 ≤ n → find (λ m. m == n) (filter t (range_with_len (a + 1) len)) ≡ Some n = λ l. find_passing t n (a + 1) len e l (omega (arith, high)) in
    let here : a ≡ n → t a ≡ true = λ same. ap t same ∙ e in
    grind (arith, nat_tests)

-- the number that is kept of a namespace that is there
pub number_there : (f : ℕ → ℕ) (w : WorldView) (n : ℕ) → is_space w n ≡ true → 1 ≤ n → n < w.next_space → option_map number_in (find (λ r. space_in r == n) (paired f (spaces_of w))) ≡ Some (f n)
number_there f w n is low high = find_row f n (spaces_of w) ∙ ap (option_map f) (find_passing (is_space w) n 1 (w.next_space - 1) is low (omega (arith, high)))

-- and of no other one
pub number_nowhere : (f : ℕ → ℕ) (w : WorldView) (n : ℕ) → is_space w n ≡ false → option_map number_in (find (λ r. space_in r == n) (paired f (spaces_of w))) ≡ None
number_nowhere f w n gone = find_row f n (spaces_of w) ∙ ap (option_map f) (find_failing (is_space w) n (range_with_len 1 (w.next_space - 1)) gone)
