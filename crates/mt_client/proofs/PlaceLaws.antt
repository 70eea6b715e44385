-- A mirror in its place among those of other namespaces.
use Rattle.std.proofs.Common.{◌≡◌, ◌≢◌, ℕ, suc, ◌+◌, ◌<◌, ◌≤◌, ◌||◌, ◌&&◌, nat_lt, subst, Bool, true, false, cond, not, ◌==◌, nat_le, nat_eq, List, [], ◌∷◌, length, Option, Some, None, slice_get, IsTrue, refl, sym, ap, ◌∙◌, arith}
use Rattle.std.specs.List.{insert, remove, list_all, position_from, position_or_len}
use Rattle.std.specs.Option.{option_map_or, unwrap_or}
use Rattle.std.proofs.lemmas.Bool.Decides.{nat_tests}
use Rattle.mt_skel.specs.Keyed.{put, without, row_at, rises}
use Rattle.mt_skel.proofs.KeyedLaws.{row_at-key, row_at-below, rises-put, rises-filter, all-lower}
use Rattle.mt_skel.proofs.MiddleLaws.{and_first, and_second}
use Rattle.mt_skel.proofs.PlaceLaws.{put_is, first-or-length}
use Rattle.mt_events.specs.Posts.{PostView}
use Rattle.mt_events.specs.Mirrors.{MirrorView, mirrored}
use Rattle.mt_client.specs.Limits.{most_spaces}
use Rattle.mt_client.specs.Finding.{mirror_space}
use Rattle.mt_client.specs.Telling.{mirror_begun, mirror_in, has_room, mirrors_with}

pub place_is : (o k : Option ℕ) (p : MirrorView → Bool) (xs : List MirrorView) → o ≡ position_from p 0 xs → o ≡ k → unwrap_or k (length xs) ≡ position_or_len p xs
place_is o k p xs e is = ap (λ k. unwrap_or k (length xs)) (sym is ∙ e) ∙ first-or-length p xs

abbrev pub from : ℕ → MirrorView → Bool
from n y = nat_le n y.space

abbrev pub place : ℕ → List MirrorView → ℕ
place n xs = position_or_len (from n) xs

abbrev pub here : ℕ → ℕ → List MirrorView → Bool
here n at xs = option_map_or (λ (y : MirrorView). y.space == n) (slice_get xs at) false

abbrev without_here : ℕ → ℕ → List MirrorView → List MirrorView
without_here n at xs = cond (here n at xs) (remove xs at) xs

-- the mirror at that place
row_here : (n : ℕ) (xs : List MirrorView) → rises mirror_space xs ≡ true → row_at mirror_space n xs ≡ cond (here n (place n xs) xs) (slice_get xs (place n xs)) None
row_here n [] h = refl
row_here n (y ∷ ys) h = go (nat_le n y.space) refl (row_here n ys (and_second _ _ h))
  where
    below : n < y.space → row_at mirror_space n ys ≡ None
    below less = row_at-below mirror_space n ys (all-lower mirror_space n y.space ys less (and_first _ _ h))

    go : (le : Bool) → nat_le n y.space ≡ le
        → row_at mirror_space n ys ≡ cond (here n (place n ys) ys) (slice_get ys (place n ys)) None
        → row_at mirror_space n (y ∷ ys) ≡ cond (here n (cond (not le) (1 + place n ys) 0) (y ∷ ys)) (slice_get (y ∷ ys) (cond (not le) (1 + place n ys) 0)) None
    go true is ih = grind (arith, nat_tests, is, below)
    go false is ih =
        let same : nat_eq n y.space ≡ false = grind (arith, nat_tests) in
        let at : ℕ = place n ys in
        let e : 1 + at ≡ suc at = omega arith in
        let behind : row_at mirror_space n (y ∷ ys) ≡ row_at mirror_space n ys = rw same refl in
        behind ∙ ih ∙ ap (λ k. cond (here n k (y ∷ ys)) (slice_get (y ∷ ys) k) None) (sym e)

-- the mirror at its place, or one that begins where none is there, is that of the namespace
pub mirror_is : (n at : ℕ) (xs : List MirrorView) (m : MirrorView) → IsTrue (rises mirror_space xs) → at ≡ place n xs
    → (here n at xs ≡ true → slice_get xs at ≡ Some m) → (here n at xs ≡ false → m ≡ mirror_begun n) → m ≡ mirror_in xs n
mirror_is n at xs m rising is there begun =
    let row : row_at mirror_space n xs ≡ cond (here n at xs) (slice_get xs at) None = row_here n xs rising ∙ ap (λ k. cond (here n k xs) (slice_get xs k) None) (sym is) in
    grind (arith, row, there, begun)

pub found_there : (n k at : ℕ) (shown old : List MirrorView) (m : MirrorView) → k ≡ n → shown ≡ old → IsTrue (rises mirror_space old) → at ≡ place k shown
    → (here k at old ≡ true → slice_get old at ≡ Some m) → (here k at old ≡ false → m ≡ mirror_begun k) → m ≡ mirror_in old n
found_there n k at shown old m same is rising e there begun = mirror_is k at old m rising (e ∙ ap (place k) is) there begun ∙ ap (mirror_in old) same

-- it is of its namespace
pub mirror_of : (n : ℕ) (xs : List MirrorView) → mirror_space (mirror_in xs n) ≡ n
mirror_of n xs = grind (arith, row_at-key mirror_space n xs)

-- all others are of greater namespaces, or it is taken out
others_kept : (n : ℕ) (ys : List MirrorView) → list_all (λ y. nat_lt n (mirror_space y)) ys ≡ true → without (λ (y : MirrorView). y.space == n) ys ≡ ys
others_kept n [] all = refl
others_kept n (y ∷ ys) all = grind (arith, nat_tests, others_kept n ys, all)

removed_is : (n : ℕ) (xs : List MirrorView) → rises mirror_space xs ≡ true → without_here n (place n xs) xs ≡ without (λ (y : MirrorView). y.space == n) xs
removed_is n [] h = refl
removed_is n (y ∷ ys) h = go (nat_le n y.space) refl (removed_is n ys (and_second _ _ h))
  where
    above : n ≤ y.space → without (λ (y : MirrorView). y.space == n) ys ≡ ys
    above le = go (nat_lt n y.space) refl
      where
        go : (less : Bool) → nat_lt n y.space ≡ less → without (λ (y : MirrorView). y.space == n) ys ≡ ys
        go true is = others_kept n ys (all-lower mirror_space n y.space ys (grind (arith, nat_tests, is)) (and_first _ _ h))
        go false is = let same : n ≡ y.space = grind (arith, nat_tests, is, le) in others_kept n ys (subst (λ k. list_all (λ z. nat_lt k (mirror_space z)) ys ≡ true) (sym same) (and_first _ _ h))

    pull : (b : Bool) (at : ℕ) → cond b (y ∷ remove ys at) (y ∷ ys) ≡ y ∷ cond b (remove ys at) ys
    pull true at = refl
    pull false at = refl

    go : (le : Bool) → nat_le n y.space ≡ le → without_here n (place n ys) ys ≡ without (λ (y : MirrorView). y.space == n) ys
        → without_here n (cond (not le) (1 + place n ys) 0) (y ∷ ys) ≡ without (λ (y : MirrorView). y.space == n) (y ∷ ys)
    go true is ih = grind (arith, nat_tests, is, above)
    go false is ih =
        let other : (y.space == n) ≡ false = grind (arith, nat_tests, is) in
        let at : ℕ = place n ys in
        let e : 1 + at ≡ suc at = omega arith in
        let behind : without (λ (y : MirrorView). y.space == n) (y ∷ ys) ≡ y ∷ without (λ (y : MirrorView). y.space == n) ys = rw other refl in
        ap (λ k. without_here n k (y ∷ ys)) e ∙ pull (here n at ys) at ∙ ap (λ zs. y ∷ zs) ih ∙ sym behind

-- all others, where it was taken out of its place
pub others_there : (n k at : ℕ) (shown old middle : List MirrorView) → k ≡ n → shown ≡ old → IsTrue (rises mirror_space old) → at ≡ place k shown → middle ≡ without_here k at old → middle ≡ without (λ (y : MirrorView). y.space == n) old
others_there n k at shown old middle same shown_is rising there taken =
    taken ∙ ap (λ j. without_here k j old) (there ∙ ap (place k) shown_is) ∙ removed_is k old rising ∙ ap (λ j. without (λ (y : MirrorView). y.space == j) old) same

-- a post applied in that place
abbrev made_by : PostView → List MirrorView → MirrorView
made_by p old = mirrored (mirror_in old p.space) p

pub applied_there : (p : PostView) (k at : ℕ) (m x : MirrorView) (shown old middle new : List MirrorView) → k ≡ p.space → shown ≡ old → m ≡ mirror_in old p.space → x ≡ mirrored m p → IsTrue (rises mirror_space old) → at ≡ place k shown → middle ≡ without_here k at old
    → new ≡ cond (length x.rows == 0) middle (insert middle at x) → new ≡ mirrors_with old p
applied_there p k at m x shown old middle new same shown_is is made rising there taken e =
    e ∙ (λ i. cond (length (whole i).rows == 0) (others i) (put_there i)) ∙ ap (λ n. cond (length (made_by p old).rows == 0) (without (λ (y : MirrorView). y.space == n) old) (put mirror_space (made_by p old) old)) (sym (mirror_of p.space old))
  where
    whole : x ≡ made_by p old
    whole = made ∙ ap (λ y. mirrored y p) is

    there_is : at ≡ place k old
    there_is = there ∙ ap (place k) shown_is

    others : middle ≡ without (λ (y : MirrorView). y.space == p.space) old
    others = others_there p.space k at shown old middle same shown_is rising there taken

    put_there : insert middle at x ≡ put mirror_space (made_by p old) old
    put_there =
        ap (λ xs. insert xs at x) taken
        ∙ ap (λ j. insert (without_here k j old) j x) there_is
        ∙ ap (λ j. insert (without_here j (place j old) old) (place j old) x) (same ∙ sym (ap mirror_space whole ∙ mirror_of p.space old))
        ∙ put_is mirror_space x old
        ∙ ap (λ y. put mirror_space y old) whole

-- whether there is room for it
pub room_there : (p : PostView) (x : MirrorView) (old middle : List MirrorView) → x ≡ made_by p old → middle ≡ without (λ (y : MirrorView). y.space == p.space) old → (length x.rows ≢ 0 → length middle < most_spaces) → has_room (made_by p old) old ≡ true
room_there p x old middle made others few =
    ap (λ n. (length (made_by p old).rows == 0) || nat_lt (length (without (λ (y : MirrorView). y.space == n) old)) most_spaces) (mirror_of p.space old)
    ∙ (λ i. (length (sym made i).rows == 0) || nat_lt (length (sym others i)) most_spaces)
    ∙ grind (arith, nat_tests, few)

pub no_room_there : (p : PostView) (x : MirrorView) (old middle : List MirrorView) → x ≡ made_by p old → middle ≡ without (λ (y : MirrorView). y.space == p.space) old → (length x.rows ≢ 0) × (most_spaces ≤ length middle) → has_room (made_by p old) old ≡ false
no_room_there p x old middle made others many =
    ap (λ n. (length (made_by p old).rows == 0) || nat_lt (length (without (λ (y : MirrorView). y.space == n) old)) most_spaces) (mirror_of p.space old)
    ∙ (λ i. (length (sym made i).rows == 0) || nat_lt (length (sym others i)) most_spaces)
    ∙ (let rows = many.0 in let most = many.1 in grind (arith, nat_tests, rows, most))

pub rises_with : (p : PostView) (old new : List MirrorView) → IsTrue (rises mirror_space old) → new ≡ mirrors_with old p → IsTrue (rises mirror_space new)
rises_with p old new rising e = ap (rises mirror_space) e ∙ go (length (made_by p old).rows == 0)
  where
    go : (b : Bool) → rises mirror_space (cond b (without (λ (y : MirrorView). y.space == (made_by p old).space) old) (put mirror_space (made_by p old) old)) ≡ true
    go true = rises-filter mirror_space (λ (y : MirrorView). not (y.space == (made_by p old).space)) old rising
    go false = rises-put mirror_space (made_by p old) old rising

-- a test that does not hold, before another or after it
pub first_false : (a b : Bool) → a ≡ false → (a && b) ≡ false
first_false a b e = rw e refl

pub second_false : (a b : Bool) → b ≡ false → (a && b) ≡ false
second_false true b e = e
second_false false b e = refl
