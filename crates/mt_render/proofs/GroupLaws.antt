-- The members of peer groups, as lists of their places have them.
use Rattle.std.proofs.Common.{◌≡◌, ℕ, zero, suc, ◌+◌, ◌<◌, ◌≤◌, Bool, true, false, cond, ◌&&◌, ◌==◌, List, [], ◌∷◌, ◌++◌, map, take, drop, drop-cons, length, get_or, add-zero, Option, Some, None, refl, sym, ap, ◌∙◌, append_assoc, append-nil, length-append, length-take, arith}
use Rattle.std.specs.Prelude.{nat_lt, nat_le, slice_get, slice_index_or, is_some, IfSome, MatchOption}
use Rattle.std.specs.List.{filter, find, list_all}
use Rattle.std.specs.Option.{option_map, option_map_or, option_and_then}
use Rattle.std.proofs.lemmas.Bool.Decides.{nat_tests}
use Rattle.std.proofs.lemmas.List.{take-append-drop}
use Rattle.std.proofs.lemmas.Option.{slice_get_within, slice_get_past, slice_get_read}
use Rattle.mt_skel.specs.Keyed.{row_at, rises}
use Rattle.mt_skel.proofs.MiddleLaws.{row_mid, get_mid}
use Rattle.mt_skel.proofs.ListLaws.{take_found}
use Rattle.mt_lists.specs.Lists.{ListRow, ids, first, above, listed_number, next_of}
use Rattle.mt_lists.specs.Numbered.{rows_by}
use Rattle.mt_lists.proofs.NumberedLaws.{ids-by, number-by}
use Rattle.mt_render.specs.Groups.{NodeView, is_member, closing, ring_edge, ring_edges}
use Rattle.mt_render.specs.Placed.{PlacedView, at_places, own_place, own_group, IsGrouped}

-- a mount at its place is a member of a group
abbrev has : ℕ → PlacedView → Bool
has g p = is_member g p.node

placed-append : (k : ℕ) (xs ys : List NodeView) → at_places k (xs ++ ys) ≡ at_places k xs ++ at_places (k + length xs) ys
placed-append k [] ys = ap (λ n. at_places n ys) (omega arith)
placed-append k (x ∷ xs) ys = ap (λ ps. record { at = k; node = x } ∷ ps) (placed-append (k + 1) xs ys ∙ ap (λ n. at_places (k + 1) xs ++ at_places n ys) (omega arith))

places_above : (j k : ℕ) (ns : List NodeView) → j < k → list_all (λ p. nat_lt j (own_place p)) (at_places k ns) ≡ true
places_above j k [] low = refl
places_above j k (n ∷ ns) low = grind (arith, nat_tests, places_above j (k + 1) ns)

-- places rise
pub places_rise : (k : ℕ) (ns : List NodeView) → rises own_place (at_places k ns) ≡ true
places_rise k [] = refl
places_rise k (n ∷ ns) = grind (arith, nat_tests, places_above k (k + 1) ns, places_rise (k + 1) ns)

first_found : (t : PlacedView → Bool) (ps : List PlacedView) → first (map own_place (filter t ps)) ≡ option_map own_place (find t ps)
first_found t [] = refl
first_found t (p ∷ ps) =
    elim (t p) as (λ b. first (map own_place (cond b (p ∷ filter t ps) (filter t ps))) ≡ option_map own_place (cond b (Some p) (find t ps))) [ true ↦ refl | false ↦ first_found t ps ]

-- the first member among some is found by its place
found_at : (g : ℕ) (front ns : List NodeView) → find (is_member g) ns ≡ option_and_then (slice_get (front ++ ns)) (option_map own_place (find (has g) (at_places (length front) ns)))
found_at g front [] = refl
found_at g front (n ∷ ns) = go (is_member g n) (found_at g (front ++ n ∷ []) ns)
  where
    longer : length (front ++ n ∷ []) ≡ length front + 1
    longer = length-append front (n ∷ []) ∙ omega arith

    go : (b : Bool) → find (is_member g) ns ≡ option_and_then (slice_get ((front ++ n ∷ []) ++ ns)) (option_map own_place (find (has g) (at_places (length (front ++ n ∷ [])) ns)))
        → cond b (Some n) (find (is_member g) ns)
        ≡ option_and_then (slice_get (front ++ n ∷ ns)) (option_map own_place (cond b (Some (record { at = length front; node = n })) (find (has g) (at_places (length front + 1) ns))))
    go true ih = sym (get_mid front ns n)
    go false ih = ih ∙ (λ i. option_and_then (slice_get (append_assoc front (n ∷ []) ns i)) (option_map own_place (find (has g) (at_places (longer i) ns))))

-- places up to one are passed
passed : (g at k : ℕ) (ns : List NodeView) (rest : List PlacedView) → k + length ns ≤ at + 1 → above at (map own_place (filter (has g) (at_places k ns ++ rest))) ≡ above at (map own_place (filter (has g) rest))
passed g at k [] rest low = refl
passed g at k (n ∷ ns) rest low = go (is_member g n) (passed g at (k + 1) ns rest (omega (arith, low)))
  where
    go : (b : Bool) → above at (map own_place (filter (has g) (at_places (k + 1) ns ++ rest))) ≡ above at (map own_place (filter (has g) rest))
        → above at (map own_place (cond b (record { at = k; node = n } ∷ filter (has g) (at_places (k + 1) ns ++ rest)) (filter (has g) (at_places (k + 1) ns ++ rest)))) ≡ above at (map own_place (filter (has g) rest))
    go true ih =
        let below : nat_lt at k ≡ false = grind (arith, nat_tests) in
        ap (λ b. cond b (Some k) (above at (map own_place (filter (has g) (at_places (k + 1) ns ++ rest))))) below ∙ ih
    go false ih = ih

-- of those above it the first member is the next
next_found : (g at k : ℕ) (ns : List NodeView) → at < k → above at (map own_place (filter (has g) (at_places k ns))) ≡ option_map own_place (find (has g) (at_places k ns))
next_found g at k [] low = refl
next_found g at k (n ∷ ns) low = go (is_member g n) (next_found g at (k + 1) ns (omega (arith, low)))
  where
    go : (b : Bool) → above at (map own_place (filter (has g) (at_places (k + 1) ns))) ≡ option_map own_place (find (has g) (at_places (k + 1) ns))
        → above at (map own_place (cond b (record { at = k; node = n } ∷ filter (has g) (at_places (k + 1) ns)) (filter (has g) (at_places (k + 1) ns))))
        ≡ option_map own_place (cond b (Some (record { at = k; node = n })) (find (has g) (at_places (k + 1) ns)))
    go true ih =
        let over : nat_lt at k ≡ true = grind (arith, nat_tests) in
        ap (λ b. cond b (Some k) (above at (map own_place (filter (has g) (at_places (k + 1) ns))))) over
    go false ih = ih

counted : (g k : ℕ) (ns : List NodeView) → length (map own_place (filter (has g) (at_places k ns))) ≡ length (filter (is_member g) ns)
counted g k [] = refl
counted g k (n ∷ ns) = go (is_member g n) (counted g (k + 1) ns)
  where
    go : (b : Bool) → length (map own_place (filter (has g) (at_places (k + 1) ns))) ≡ length (filter (is_member g) ns)
        → length (map own_place (cond b (record { at = k; node = n } ∷ filter (has g) (at_places (k + 1) ns)) (filter (has g) (at_places (k + 1) ns)))) ≡ length (cond b (n ∷ filter (is_member g) ns) (filter (is_member g) ns))
    go true ih = ap suc ih
    go false ih = ih

module _ (nodes : List NodeView) (members : List ListRow) (h : IsGrouped nodes members) where
  listed : (g : ℕ) → ids members g ≡ map own_place (filter (has g) (at_places 0 nodes))
  listed g = ap (λ ms. ids ms g) h.listed ∙ ids-by own_place own_group (at_places 0 nodes) g

  -- how many members a group has
  pub member_count : (g : ℕ) → length (ids members g) ≡ length (filter (is_member g) nodes)
  member_count g = ap (λ (is : List ℕ). length is) (listed g) ∙ counted g 0 nodes

  -- the first member of a group
  pub first_member : (g : ℕ) → find (is_member g) nodes ≡ option_and_then (slice_get nodes) (first (ids members g))
  first_member g = found_at g [] nodes ∙ sym (ap (λ is. option_and_then (slice_get nodes) (first is)) (listed g) ∙ ap (option_and_then (slice_get nodes)) (first_found (has g) (at_places 0 nodes)))

  module _ (at : ℕ) (n : NodeView) (there : slice_get nodes at ≡ Some n) where
    within : at < length nodes
    within = slice_get_within nodes at n there

    before_long : length (take at nodes) ≡ at
    before_long = let w = within in omega (arith, length-take at nodes)

    front_is : take (at + 1) nodes ≡ take at nodes ++ n ∷ []
    front_is = take_found nodes at n there

    front_long : length (take (at + 1) nodes) ≡ at + 1
    front_long = ap (λ (ns : List NodeView). length ns) front_is ∙ length-append (take at nodes) (n ∷ []) ∙ ap (λ k. k + 1) before_long

    whole : take (at + 1) nodes ++ drop (at + 1) nodes ≡ nodes
    whole = take-append-drop (at + 1) nodes

    split : at_places 0 nodes ≡ at_places 0 (take (at + 1) nodes) ++ at_places (at + 1) (drop (at + 1) nodes)
    split =
        ap (at_places 0) (sym whole) ∙ placed-append 0 (take (at + 1) nodes) (drop (at + 1) nodes)
        ∙ ap (λ k. at_places 0 (take (at + 1) nodes) ++ at_places k (drop (at + 1) nodes)) (omega (arith, front_long))

    around : at_places 0 nodes ≡ at_places 0 (take at nodes) ++ record { at = at; node = n } ∷ at_places (at + 1) (drop (at + 1) nodes)
    around =
        ap (at_places 0) (sym whole ∙ ap (λ ns. ns ++ drop (at + 1) nodes) front_is ∙ append_assoc (take at nodes) (n ∷ []) (drop (at + 1) nodes)) ∙ placed-append 0 (take at nodes) (n ∷ drop (at + 1) nodes)
        ∙ ap (λ k. at_places 0 (take at nodes) ++ at_places k (n ∷ drop (at + 1) nodes)) (let b = before_long in omega arith)

    number_at : listed_number members at ≡ n.row.shared
    number_at =
        let p : PlacedView = record { at = at; node = n } in
        let rest = at_places (at + 1) (drop (at + 1) nodes) in
        ap (λ ms. listed_number ms at) h.listed ∙ number-by own_place own_group at (at_places 0 nodes) (places_rise 0 nodes)
        ∙ ap (λ ps. option_and_then own_group (row_at own_place at ps)) around
        ∙ ap (option_and_then own_group) (row_mid own_place (at_places 0 (take at nodes)) rest p (ap (rises own_place) (sym around) ∙ places_rise 0 nodes))

    -- the next member of its group
    pub next_member : (g : ℕ) → n.row.shared ≡ Some g → find (is_member g) (drop (at + 1) nodes) ≡ option_and_then (slice_get nodes) (next_of members at)
    next_member g e =
        let here : next_of members at ≡ above at (ids members g) = ap (λ o. option_and_then (λ k. above at (ids members k)) o) (number_at ∙ e) in
        let next : next_of members at ≡ option_map own_place (find (has g) (at_places (at + 1) (drop (at + 1) nodes))) =
        here ∙ ap (above at) (listed g) ∙ ap (λ ps. above at (map own_place (filter (has g) ps))) split
        ∙ passed g at 0 (take (at + 1) nodes) (at_places (at + 1) (drop (at + 1) nodes)) (omega (arith, front_long)) ∙ next_found g at (at + 1) (drop (at + 1) nodes) (omega arith) in
        found_at g (take (at + 1) nodes) (drop (at + 1) nodes)
        ∙ (λ i. option_and_then (slice_get (whole i)) (option_map own_place (find (has g) (at_places (front_long i) (drop (at + 1) nodes))))) ∙ ap (option_and_then (slice_get nodes)) (sym next)

-- a mount whose place in the list is asked for
pub placed_long : (k : ℕ) (ns : List NodeView) → length (at_places k ns) ≡ length ns
placed_long k [] = refl
placed_long k (n ∷ ns) = ap suc (placed_long (k + 1) ns)

placed_at : (k : ℕ) (ns : List NodeView) (i : ℕ) (n : NodeView) → i < length ns → n ≡ get_or ns i n → (a : ℕ) → a ≡ k + i → record { at = a; node = n } ≡ get_or (at_places k ns) i (record { at = a; node = n })
placed_at k [] i n low is a e = absurd (omega (arith, low))
placed_at k (m ∷ ns) zero n low is a e = (λ j. record { at = (e ∙ add-zero k) j; node = is j })
placed_at k (m ∷ ns) (suc i) n low is a e = placed_at (k + 1) ns i n (omega (arith, low)) is a (e ∙ omega arith)

pub placed_here : (ns : List NodeView) (i : ℕ) (n : NodeView) → i < length ns → n ≡ get_or ns i n → record { at = i; node = n } ≡ get_or (at_places 0 ns) i (record { at = i; node = n })
placed_here ns i n low is = placed_at 0 ns i n low is i (omega arith)

-- what a slice gives at a place is what was found there
pub as_got : {B : Type 0} (now : B → NodeView) (nodes : List NodeView) (i : ℕ) (r : Option B) (found : Option NodeView) → found ≡ slice_get nodes i → is_some r ≡ nat_lt i (length nodes)
    → IfSome r (λ x. now x ≡ slice_index_or nodes i (now x)) → MatchOption r (found ≡ None) (λ x. found ≡ Some (now x))
as_got now nodes i None found e some at =
    let high : length nodes ≤ i = grind (arith, nat_tests) in
    e ∙ slice_get_past nodes i high
as_got now nodes i (Some x) found e some at =
    let low : i < length nodes = grind (arith, nat_tests) in
    e ∙ slice_get_read nodes (length nodes) i (now x) refl low at

module _ (nodes : List NodeView) (members : List ListRow) (h : IsGrouped nodes members) where
  -- the next member of the group of the mount at a place
  pub next_by : (at g : ℕ) → option_and_then (λ (n : NodeView). n.row.shared) (slice_get nodes at) ≡ Some g → find (is_member g) (drop (at + 1) nodes) ≡ option_and_then (slice_get nodes) (next_of members at)
  next_by at g e = go (slice_get nodes at) refl e
    where
      go : (o : Option NodeView) → slice_get nodes at ≡ o → option_and_then (λ (n : NodeView). n.row.shared) o ≡ Some g → find (is_member g) (drop (at + 1) nodes) ≡ option_and_then (slice_get nodes) (next_of members at)
      go None there shared = absurd (cc)
      go (Some n) there shared = next_member nodes members h at n there g shared

  -- a ring of fewer than three members is not closed
  pub closing_few : (g n : ℕ) → n ≡ length (ids members g) → n < 3 → closing nodes g ≡ None
  closing_few g n e low =
      let count = e ∙ member_count nodes members h g in
      let few : nat_le 3 (length (filter (is_member g) nodes)) ≡ false = grind (arith, nat_tests) in
      ap (λ b. cond b (find (is_member g) nodes) None) few

  pub closing_many : (g n : ℕ) → n ≡ length (ids members g) → 3 ≤ n → closing nodes g ≡ find (is_member g) nodes
  closing_many g n e high =
      let count = e ∙ member_count nodes members h g in
      let many : nat_le 3 (length (filter (is_member g) nodes)) ≡ true = grind (arith, nat_tests) in
      ap (λ b. cond b (find (is_member g) nodes) None) many

-- the ring edge of one mount more
pub one_ring : (gs : List ℕ) (nodes : List NodeView) (i : ℕ) (n : NodeView) (t0 t1 : List ℕ) → i < length nodes → n ≡ get_or nodes i n → t1 ≡ t0 ++ ring_edge gs nodes (drop (i + 1) nodes) n
    → t1 ++ ring_edges gs nodes (drop (i + 1) nodes) ≡ t0 ++ ring_edges gs nodes (drop i nodes)
one_ring gs nodes i n t0 t1 low is e =
    let next : suc i ≡ i + 1 = omega arith in
    let here : drop i nodes ≡ n ∷ drop (i + 1) nodes = drop-cons nodes i n low ∙ ap (λ m. m ∷ drop (suc i) nodes) (sym is) ∙ ap (λ k. n ∷ drop k nodes) next in
    ap (λ t. t ++ ring_edges gs nodes (drop (i + 1) nodes)) e ∙ append_assoc t0 (ring_edge gs nodes (drop (i + 1) nodes) n) (ring_edges gs nodes (drop (i + 1) nodes)) ∙ ap (λ ms. t0 ++ ring_edges gs nodes ms) (sym here)
