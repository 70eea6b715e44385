-- What a worklist collects and counts: the mounts that get what happens in a group.
use Rattle.std.proofs.Common.{◌≡◌, ℕ, ◌+◌, ◌*◌, ◌≤◌, ◌<◌, Bool, true, not, ◌&&◌, ◌||◌, ◌==◌, eqb-true, List, [], ◌∷◌, ◌++◌, map, length, Option, Some, refl, sym, ap, ◌∙◌, inl, inr, arith, option_and_then}
use Rattle.std.specs.List.{filter, filter_map, cons_option}
use Rattle.std.proofs.Math.Bool.{and-or_distrib_right}
use Rattle.mt_skel.specs.Keyed.{rises, among}
use Rattle.mt_skel.proofs.ElementLaws.{In, in_any, in_filter, chain_low}
use Rattle.mt_skel.proofs.MiddleLaws.{and_first}
use Rattle.mt_peers.specs.declared.state.State.{State}
use Rattle.mt_peers.specs.Peers.{Peer, Peering, mount_of, names, in_group, has_master, state_at, slaves}
use Rattle.mt_peers.specs.Masters.{master_of, groups_up, reaches}
use Rattle.mt_skel.specs.Counted.{count, occ}
use Rattle.mt_peers.specs.Members.{group_at}
use Rattle.mt_peers.specs.Entered.{entered, entered_by, gets_above, collected_slave, other_at}
use Rattle.mt_peers.specs.WellFormed.{IsPeering}
use Rattle.mt_peers.proofs.MemberLaws.{master_of-is, named, state-in}
use Rattle.mt_peers.proofs.LeavingLaws.{up_rank, up_falls}
use Rattle.mt_skel.proofs.CountLaws.{count-same, count-or, count-le-or, count-map, count-filter, length-filter, occ-filter_map}
use Rattle.mt_skel.proofs.WorklistLaws.{is_found-snoc, apart-new}
use Rattle.mt_peers.proofs.WorklistLaws.{count-zero, names-cond, one-row, IsWorklist, led_by, worklist-sound, worklist-reach}

-- a mount gets what happens in the group g
abbrev pub gets : List Peer → ℕ → Peer → Bool
gets es g e = in_group g e || gets_above es g e

-- the receivers of a mount that is in the group g
abbrev pub received : List Peer → ℕ → ℕ → List ℕ
received es g p = filter (λ j. not (p == j)) (map mount_of (filter (gets es g) es))

-- what is picked by mount and group may be read off the rows
picked-rows : (es : List Peer) (f : ℕ → Option ℕ → Option ℕ) (xs : List Peer) → ((e : Peer) → In e xs → group_at es e.mount ≡ e.state.group)
    → filter_map (λ i. f i (group_at es i)) (map mount_of xs) ≡ filter_map (λ (e : Peer). f e.mount e.state.group) xs
picked-rows es f [] told = refl
picked-rows es f (x ∷ xs) told = (λ i. cons_option (f x.mount (told x (inl refl) i)) (picked-rows es f xs (λ e at. told e (inr at)) i))

-- so it is of the slaves of a group
slave-rows : (es : List Peer) (f : ℕ → Option ℕ → Option ℕ) (m : ℕ) → rises mount_of es ≡ true → filter_map (λ i. f i (group_at es i)) (slaves es m) ≡ filter_map (λ (e : Peer). f e.mount e.state.group) (filter (has_master m) es)
slave-rows es f m up = picked-rows es f (filter (has_master m) es) (λ e at. ap (option_and_then (λ (s : State). s.group)) (state-in es e up (in_filter (has_master m) e es at).0))

pub entered-rows : (es : List Peer) (g m : ℕ) → rises mount_of es ≡ true → filter_map (λ i. entered es g i (group_at es i)) (slaves es m) ≡ entered_by es g m
entered-rows es g m up = slave-rows es (entered es g) m up

pub collected-rows : (es : List Peer) (t : ℕ → Bool) (g m q : ℕ) → rises mount_of es ≡ true
    → occ q (filter_map (λ i. collected_slave t g i (group_at es i)) (slaves es m)) ≡ count (λ e. has_master m e && other_at t g q e) es
collected-rows es t g m q up =
    ap (occ q) (slave-rows es (collected_slave t g) m up)
    ∙ occ-filter_map q (λ (e : Peer). collected_slave t g e.mount e.state.group) (filter (has_master m) es)
    ∙ count-filter (λ (e : Peer). names (collected_slave t g e.mount e.state.group) q) (has_master m) es
    ∙ count-same (λ (e : Peer). has_master m e && names (collected_slave t g e.mount e.state.group) q) (λ e. has_master m e && other_at t g q e) (λ e. ap (λ b. has_master m e && b) (names-cond (t e.mount && not (in_group g e)) e.mount q)) es

-- how often a mount is picked by two tests, one of its row and one of its ID
pub occ-filter : (es : List Peer) (t : ℕ → Bool) (s : Peer → Bool) (q : ℕ) → occ q (filter t (map mount_of (filter s es))) ≡ count (λ e. s e && (t e.mount && (e.mount == q))) es
occ-filter es t s q =
    count-filter (λ j. j == q) t (map mount_of (filter s es))
    ∙ count-map (λ j. t j && (j == q)) mount_of (filter s es)
    ∙ count-filter (λ (e : Peer). t e.mount && (e.mount == q)) s es

-- the slaves of one group more
pub other-more : (es : List Peer) (done : List ℕ) (m : ℕ) (s : Peer → Bool) → occ m done ≡ 0
    → count (λ e. led_by (done ++ m ∷ []) e && s e) es ≡ count (λ e. led_by done e && s e) es + count (λ e. has_master m e && s e) es
other-more es done m s new =
    count-or (λ e. led_by (done ++ m ∷ []) e && s e) (λ e. led_by done e && s e) (λ e. has_master m e && s e)
    (λ e. ap (λ b. b && s e) (is_found-snoc done m e.state.master) ∙ and-or_distrib_right (led_by done e) (has_master m e) (s e))
    (λ e. grind (arith, apart-new done m new e.state.master)) es

-- at the end, the slaves that were gone over are those that get what happens in the group
pub led-all : (es : List Peer) (g : ℕ) (all : List ℕ) → IsWorklist es g all all → (e : Peer) → led_by all e ≡ gets_above es g e
led-all es g all w e = grind (arith, worklist-reach es g all w)

-- and at each time they are some of those
pub led-gets : (es : List Peer) (g : ℕ) (done some all : List ℕ) → IsWorklist es g done all → ((h : ℕ) → among some h ≡ true → among all h ≡ true)
    → (e : Peer) → led_by some e ≡ true → gets_above es g e ≡ true
led-gets es g done some all w part e led = grind (arith, worklist-sound es g done all w, part)

-- what was collected is what the receivers are
pub all-collected : (es : List Peer) (g : ℕ) (t : ℕ → Bool) (q : ℕ)
    → count (λ e. in_group g e && (t e.mount && (e.mount == q))) es + count (λ e. gets_above es g e && other_at t g q e) es ≡ occ q (filter t (map mount_of (filter (gets es g) es)))
all-collected es g t q =
    sym (count-or (λ e. gets es g e && (t e.mount && (e.mount == q))) (λ e. in_group g e && (t e.mount && (e.mount == q))) (λ e. gets_above es g e && other_at t g q e)
    (λ e. grind arith) (λ e. grind arith) es)
    ∙ sym (occ-filter es t (gets es g) q)

-- how many receivers there are
pub received-count : (es : List Peer) (g p : ℕ) → length (received es g p) ≡ count (λ e. gets es g e && not (p == e.mount)) es
received-count es g p =
    length-filter (λ j. not (p == j)) (map mount_of (filter (gets es g) es))
    ∙ count-map (λ j. not (p == j)) mount_of (filter (gets es g) es)
    ∙ count-filter (λ (e : Peer). not (p == e.mount)) (gets es g) es

-- one mount is itself
pub one-itself : (p : ℕ) (es : List Peer) → rises mount_of es ≡ true → count (λ e. p == e.mount) es ≤ 1
one-itself p es up = grind (arith, one-row p (λ e. true) es up)

-- the looks that a worklist takes: one at each member of the group, and one at each slave
abbrev pub looks_at : List Peer → ℕ → ℕ
looks_at es g = count (in_group g) es + count (gets_above es g) es

pub looks-least : (es : List Peer) (g p : ℕ) → length (received es g p) ≤ looks_at es g
looks-least es g p =
    let n = received-count es g p in
    let l = count-le-or (λ e. gets es g e && not (p == e.mount)) (in_group g) (gets_above es g) (λ e f. and_first (gets es g e) (not (p == e.mount)) f) es in
    omega arith

pub looks-most : (es : List Peer) (g p : ℕ) → rises mount_of es ≡ true → looks_at es g ≤ 2 * length (received es g p) + 2
looks-most es g p up =
    let n = received-count es g p in
    let one = one-itself p es up in
    let a = count-le-or (in_group g) (λ e. gets es g e && not (p == e.mount)) (λ e. p == e.mount) (λ e f. grind arith) es in
    let b = count-le-or (gets_above es g) (λ e. gets es g e && not (p == e.mount)) (λ e. p == e.mount) (λ e f. grind arith) es in
    omega arith

-- in order, no member of the group is a slave of one that was gone over
module _ (pg : Peering) (h : IsPeering pg) (g p : ℕ) where
  above-not : (m : ℕ) → master_of pg.peers g ≡ Some m → reaches pg.peers m g ≡ true → up_rank pg h g < up_rank pg h g
  above-not m e r =
      let low = up_falls pg h g m e in
      let k = in_any (λ k. k == g) (groups_up pg.peers m) r in
      let high = chain_low (master_of pg.peers) (up_rank pg h) (up_falls pg h) (length pg.peers) m k.0 k.1 in
      let same = ap (up_rank pg h) (eqb-true k.0 g k.2) in
      omega (arith, low, high, same)

  not-both : (e : Peer) → state_at pg.peers e.mount ≡ Some e.state → in_group g e ≡ true → gets_above pg.peers g e ≡ true → up_rank pg h g < up_rank pg h g
  not-both e at in_g led = grind (arith, master_of-is pg.peers h.rising h.one_master e.mount e.state g at (named e.state.group g in_g), above-not)

  none-both : count (λ e. in_group g e && gets_above pg.peers g e) pg.peers ≡ 0
  none-both = count-zero (λ e. in_group g e && gets_above pg.peers g e) pg.peers (λ e at. grind (arith, not-both e (state-in pg.peers e h.rising at)))

  either-count : (a b : Peer → Bool) (xs : List Peer) → count a xs + count b xs ≡ count (λ e. a e || b e) xs + count (λ e. a e && b e) xs
  either-count a b [] = omega arith
  either-count a b (x ∷ xs) = grind (arith, either-count a b xs)

  pub looks-ordered : looks_at pg.peers g ≤ length (received pg.peers g p) + 1
  looks-ordered =
      let n = received-count pg.peers g p in
      let one = one-itself p pg.peers h.rising in
      let sum = either-count (in_group g) (gets_above pg.peers g) pg.peers in
      let none = none-both in
      let a =
      count-le-or (λ e. in_group g e || gets_above pg.peers g e) (λ e. gets pg.peers g e && not (p == e.mount)) (λ e. p == e.mount)
      (λ e f. grind arith) pg.peers in
      omega arith
