-- The masters above a group and the members of one, as iterators give them.
use Rattle.std.proofs.lemmas.Bool.Decides.{nat_tests}
use Rattle.std.proofs.Common.{◌≡◌, ℕ, zero, suc, List, [], ◌∷◌, drop, Some, refl, arith, true, ltb, filter}
use Rattle.std.specs.Option.{option_map_or}
use Rattle.mt_skel.specs.Chain.{chain}
use Rattle.mt_skel.specs.Keyed.{rises, among}
use Rattle.mt_lists.specs.Lists.{first, above}
use Rattle.mt_lists.proofs.NeighbourLaws.{rising, over, over-low, above-among}
use Rattle.mt_peers.specs.Peers.{Peer, mount_of, in_group, members}
use Rattle.mt_peers.specs.Masters.{master_of}
use Rattle.mt_peers.specs.Above.{masters_from}
use Rattle.mt_peers.specs.Members.{member_after}
use Rattle.mt_peers.specs.Coming.{members_above, members_from}
use Rattle.mt_peers.proofs.ListLaws.{member-group}
use Rattle.mt_peers.proofs.SortedLaws.{rises-picked}

-- the masters above a group, one after the other
pub from-chain : (es : List Peer) (n g : ℕ) → masters_from es n (master_of es g) ≡ drop 1 (chain (master_of es) n g)
from-chain es zero g = refl
from-chain es (suc n) g = grind (arith, from-chain es n, head n)
  where
    head : (n h : ℕ) → h ∷ drop 1 (chain (master_of es) n h) ≡ chain (master_of es) n h
    head zero h = refl
    head (suc n) h = refl

-- all of a list that are above a number
abbrev above_all : ℕ → List ℕ → List ℕ
above_all i xs = filter (λ k. ltb i k) xs

above-over : (i : ℕ) (xs : List ℕ) → over i xs ≡ true → above_all i xs ≡ xs
above-over i [] h = refl
above-over i (x ∷ xs) h =
    let ih = above-over i xs in
    grind (arith, nat_tests)

-- they begin with the first above it
above-first : (i : ℕ) (xs : List ℕ) → rising xs ≡ true → above_all i xs ≡ option_map_or (λ j. j ∷ above_all j xs) (above i xs) []
above-first i [] up = refl
above-first i (x ∷ xs) up =
    let low = λ (a : ℕ) (e : above i xs ≡ Some a). (above-among i a xs e).1 in
    grind (arith, nat_tests, low, above-first i xs, over-low i x xs, above-over x xs, above-over i xs)

-- after a mount come those above it
pub coming-next : (es : List Peer) (i : ℕ) → rises mount_of es ≡ true → members_from es (member_after es i) ≡ members_above es i
coming-next es i up =
    let next = λ (g : ℕ). above-first i (members es g) (rises-picked es (in_group g) up) in
    let inside = λ (g j : ℕ) (e : above i (members es g) ≡ Some j). member-group es g j up (above-among i j (members es g) e).0 in
    grind (arith, next, inside)

-- and from the first on all come
pub coming-first : (es : List Peer) (g : ℕ) → rises mount_of es ≡ true → members_from es (first (members es g)) ≡ members es g
coming-first es g up = go (members es g) refl (rises-picked es (in_group g) up)
  where
    go : (xs : List ℕ) → members es g ≡ xs → rising xs ≡ true → members_from es (first xs) ≡ xs
    go [] e r = refl
    go (x ∷ xs) e r =
        let at : among (members es g) x ≡ true = grind (arith, nat_tests, e) in
        grind (arith, nat_tests, e, member-group es g x up at, above-over x xs)
