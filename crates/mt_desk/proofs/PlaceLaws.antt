-- The places of a desk, and the rows at them.
use Rattle.std.proofs.Common.{◌≡◌, ℕ, zero, suc, ◌+◌, true, false, cond, not, eqb, ltb, List, [], ◌∷◌, ◌++◌, length, map, set, Option, Some, None, slice_get, refl, sym, ap, ◌∙◌, subst, arith, length-append}
use Rattle.std.specs.Prelude.{◌==◌, ◌||◌}
use Rattle.std.specs.List.{filter, list_all, AllByRecursion}
use Rattle.std.specs.Option.{option_map, option_map_or}
use Rattle.std.proofs.lemmas.Bool.Decides.{nat_tests}
use Rattle.std.proofs.lemmas.List.{map-append, length-set, length-map}
use Rattle.std.proofs.lemmas.Option.{slice_get-map, get_or_from_slice_get}
use Rattle.std.proofs.Math.Seq.{map-set_same}
use Rattle.mt_skel.specs.Keyed.{row_at, put, without, rises}
use Rattle.mt_skel.proofs.MiddleLaws.{each_map, each_still, each_last}
use Rattle.mt_queue.specs.Halves.{LineId, LineView}
use Rattle.mt_desk.specs.Desk.{DeskRow, row_key, desk_row_after_stop}
use Rattle.mt_desk.specs.Rows.{PlacedRowView, ended_row}
use Rattle.mt_desk.specs.declared.places.Slot.{Slot}
use Rattle.mt_desk.specs.declared.places.Slot.TheVariants.{Parked, Used, Away}
use Rattle.mt_desk.specs.Places.{line_of, capacity_of, IsHere, IsParked, no_row, slot_row, row_in, rows_at_places, use_of, uses, IsLine, IsUsed, has_place, ArePlaces, AreLines, ended_slot}

-- ---- A list in which one element was set

-- what stands at each place
pub get_set : {X : Type 0} (xs : List X) (p : ℕ) (s x : X) → slice_get xs p ≡ Some s → (k : ℕ) → slice_get (set xs p x) k ≡ cond (eqb k p) (Some x) (slice_get xs k)
get_set [] p s x at k = absurd cc
get_set (y ∷ xs) zero s x at zero = refl
get_set (y ∷ xs) zero s x at (suc k) = grind (arith, nat_tests)
get_set (y ∷ xs) (suc p) s x at zero = grind (arith, nat_tests)
get_set (y ∷ xs) (suc p) s x at (suc k) = grind (arith, nat_tests, get_set xs p s x at k)

-- what is true of each element, and of the one at a place
each_set : {X : Type 0} (P : X → Type 0) (xs : List X) (p : ℕ) (x : X) → AllByRecursion P xs → P x → AllByRecursion P (set xs p x)
each_set P [] p x all it = tt
each_set P (y ∷ xs) zero x all it = (it, all.1)
each_set P (y ∷ xs) (suc p) x all it = (all.0, each_set P xs p x all.1 it)

pub each_get : {X : Type 0} (P : X → Type 0) (xs : List X) (k : ℕ) (s : X) → AllByRecursion P xs → slice_get xs k ≡ Some s → P s
each_get P [] k s all e = absurd cc
each_get P (y ∷ xs) zero s all e = let same : y ≡ s = cc in subst P same all.0
each_get P (y ∷ xs) (suc k) s all e = each_get P xs k s all.1 e

-- how many are in use
uses_set : (slots : List Slot) (p : ℕ) (s x : Slot) → slice_get slots p ≡ Some s → uses (set slots p x) + use_of s ≡ uses slots + use_of x
uses_set [] p s x e = absurd cc
uses_set (y ∷ slots) zero s x e = let same : y ≡ s = cc in omega (arith, ap use_of same)
uses_set (y ∷ slots) (suc p) s x e = omega (arith, uses_set slots p s x e)

-- ---- One place among others

-- nothing goes where it is not among them
others_stay : (p : ℕ) (ks : List ℕ) → has_place p ks ≡ false → filter (λ k. not (eqb k p)) ks ≡ ks
others_stay p [] h = refl
others_stay p (k ∷ ks) h = grind (arith, nat_tests, others_stay p ks)

-- the others are left, and what is true of each
still_among : (j p : ℕ) (ks : List ℕ) → eqb j p ≡ false → has_place j ks ≡ true → has_place j (filter (λ k. not (eqb k p)) ks) ≡ true
still_among j p [] other h = absurd cc
still_among j p (k ∷ ks) other h = grind (arith, nat_tests, still_among j p ks)

-- one place more, behind the others
among_last : (j p : ℕ) (ks : List ℕ) → has_place j (ks ++ p ∷ []) ≡ (has_place j ks || eqb p j)
among_last j p [] = grind arith
among_last j p (k ∷ ks) = grind (arith, among_last j p ks)

each_left : (P Q : ℕ → Type 0) (p : ℕ) → ((k : ℕ) → eqb k p ≡ false → P k → Q k) → (ks : List ℕ) → AllByRecursion P ks → AllByRecursion Q (filter (λ k. not (eqb k p)) ks)
each_left P Q p go [] h = tt
each_left P Q p go (k ∷ ks) h =
    elim (eqb k p) as (λ b. eqb k p ≡ b → AllByRecursion Q (cond (not b) (k ∷ filter (λ k. not (eqb k p)) ks) (filter (λ k. not (eqb k p)) ks))) [
      | true ↦ λ e. each_left P Q p go ks h.1
      | false ↦ λ e. (go k e h.0, each_left P Q p go ks h.1)
    ] refl

-- Rows at places, by rising key: `it` tells the row of each place, and p is one of the places.
module _ {X : Type 0} (key : X → ℕ) (it : ℕ → X) (p : ℕ) where
  -- one below all of them has a lower key, and one above them is none of them
  lower : (k : ℕ) (ks : List ℕ) → list_all (λ y. ltb (key (it k)) (key y)) (map it ks) ≡ true → has_place p ks ≡ true → ltb (key (it k)) (key (it p)) ≡ true
  lower k [] h a = absurd cc
  lower k (j ∷ ks) h a = grind (arith, nat_tests, lower k ks)

  not_above : (ks : List ℕ) → list_all (λ y. ltb (key (it p)) (key y)) (map it ks) ≡ true → has_place p ks ≡ false
  not_above [] h = refl
  not_above (k ∷ ks) h = grind (arith, nat_tests, not_above ks)

  -- the row of its key is that at p
  row_found : (ks : List ℕ) → rises key (map it ks) ≡ true → has_place p ks ≡ true → row_at key (key (it p)) (map it ks) ≡ Some (it p)
  row_found [] h a = absurd cc
  row_found (k ∷ ks) h a = grind (arith, nat_tests, lower k ks, row_found ks)

  -- one is left out
  left_count : (ks : List ℕ) → rises key (map it ks) ≡ true → has_place p ks ≡ true → length (filter (λ k. not (eqb k p)) ks) + 1 ≡ length ks
  left_count [] h a = absurd cc
  left_count (k ∷ ks) h a = grind (arith, nat_tests, not_above ks, others_stay p ks, left_count ks)

  -- the row at p is another now
  module _ (new : ℕ → X) (x : X) (becomes : (k : ℕ) → new k ≡ cond (eqb k p) x (it k)) where
    -- the rows of places that p is not among are the same
    others_as_they_were : (ks : List ℕ) → has_place p ks ≡ false → map new ks ≡ map it ks
    others_as_they_were [] h = refl
    others_as_they_were (k ∷ ks) h = grind (arith, nat_tests, becomes k, others_as_they_were ks)

    -- where p is among them, the row is put in the place of the one with its key
    one_put : (ks : List ℕ) → rises key (map it ks) ≡ true → has_place p ks ≡ true → key x ≡ key (it p) → map new ks ≡ put key x (map it ks)
    one_put [] h a same = absurd cc
    one_put (k ∷ ks) h a same = grind (arith, nat_tests, becomes k, not_above ks, others_as_they_were ks, lower k ks, one_put ks)

    -- without p, the row of its key is gone
    one_left : (ks : List ℕ) → ((k : ℕ) → has_place k ks ≡ true → eqb (key (it k)) (key (it p)) ≡ eqb k p) → map new (filter (λ k. not (eqb k p)) ks) ≡ filter (λ y. not (eqb (key y) (key (it p)))) (map it ks)
    one_left [] u = refl
    one_left (k ∷ ks) u =
        let here : eqb (key (it k)) (key (it p)) ≡ eqb k p = u k (grind (arith, nat_tests)) in
        grind (arith, nat_tests, becomes k, here, one_left ks (λ j a. u j (grind (arith, nat_tests, a))))

-- two places with one key are the same
pub apart : {X : Type 0} (key : X → ℕ) (it : ℕ → X) (j k : ℕ) (ks : List ℕ) → rises key (map it ks) ≡ true → has_place j ks ≡ true → has_place k ks ≡ true → eqb (key (it j)) (key (it k)) ≡ eqb j k
apart key it j k [] h a b = absurd cc
apart key it j k (z ∷ ks) h a b = grind (arith, nat_tests, lower key it j z ks, lower key it k z ks, apart key it j k ks)

-- the row that stands at a place
pub row_there : (slots : List Slot) (p : ℕ) (s : Slot) → slice_get slots p ≡ Some s → row_in slots p ≡ slot_row s
row_there slots p s at = ap (λ o. option_map_or slot_row o no_row) at

-- the row of each place, once another slot stands at one
pub row_set : (slots : List Slot) (p : ℕ) (s x : Slot) → slice_get slots p ≡ Some s → (k : ℕ) → row_in (set slots p x) k ≡ cond (eqb k p) (slot_row x) (row_in slots k)
row_set slots p s x at k =
    rw (get_set slots p s x at k)
    (elim (eqb k p) as (λ b. option_map_or slot_row (cond b (Some x) (slice_get slots k)) no_row ≡ cond b (slot_row x) (row_in slots k)) [ true ↦ refl | false ↦ refl ])

-- where a row comes, all places with a row have one still
pub still_used : (slots : List Slot) (p : ℕ) (s : Slot) (r : PlacedRowView) → slice_get slots p ≡ Some s → (k : ℕ) → IsUsed slots k → IsUsed (set slots p (Used r)) k
still_used slots p s r at k u = record {
  row = cond (eqb k p) r u.row;
  there = get_set slots p s (Used r) at k ∙ (elim (eqb k p) as (λ b. cond b (Some (Used r)) (slice_get slots k) ≡ Some (Used (cond b r u.row))) [ true ↦ refl | false ↦ u.there ]);
}

-- ---- What happens at one place

module _ {lines : List LineId} {c : ℕ} {slots : List Slot} {order : List ℕ} (places : ArePlaces lines c slots order) (p : ℕ) where
  -- another slot with the same line comes to a place
  set_places : (s x : Slot) (order' : List ℕ) → slice_get slots p ≡ Some s → IsHere x → line_of x ≡ line_of s → capacity_of x ≡ capacity_of s → AllByRecursion (IsUsed (set slots p x)) order'
      → ((k : ℕ) (q : PlacedRowView) → slice_get (set slots p x) k ≡ Some (Used q) → has_place k order' ≡ true) → length order' + use_of s ≡ length order + use_of x → ArePlaces lines c (set slots p x) order'
  set_places s x order' at here line capacity used ordered count = record {
    lines_are = map-set_same line_of slots p x s (line ∙ ap line_of (sym (get_or_from_slice_get slots p s s at))) ∙ places.lines_are;
    number = length-set slots p x ∙ places.number;
    each = each_set (IsLine c) slots p x places.each (record { here = here; capacity_is = capacity ∙ (each_get (IsLine c) slots p s places.each at).capacity_is });
    used = used;
    ordered = ordered;
    count = omega (arith, count, places.count, uses_set slots p s x at);
  }

  module _ (rising : rises row_key (rows_at_places slots order) ≡ true) (r : PlacedRowView) (at : slice_get slots p ≡ Some (Used r)) where
    -- its row is that of its key
    pub row_of_place : row_at row_key r.row.key (rows_at_places slots order) ≡ Some r.row
    row_of_place = subst (λ (q : DeskRow). row_at row_key q.key (rows_at_places slots order) ≡ Some q) (row_there slots p (Used r) at) (row_found row_key (row_in slots) p order rising (places.ordered p r at))

    -- the row changes, and keeps its line and its key
    module _ (now : PlacedRowView) (line : now.line ≡ r.line) (capacity : now.capacity ≡ r.capacity) (key : now.row.key ≡ r.row.key) where
      pub put_rows : rows_at_places (set slots p (Used now)) order ≡ put row_key now.row (rows_at_places slots order)
      put_rows =
          one_put row_key (row_in slots) p (row_in (set slots p (Used now))) now.row (row_set slots p (Used r) (Used now) at) order rising (places.ordered p r at)
          (key ∙ ap row_key (sym (row_there slots p (Used r) at)))

      pub put_places : ArePlaces lines c (set slots p (Used now)) order
      put_places =
          set_places (Used r) (Used now) order at tt line capacity (each_still (IsUsed slots) (IsUsed (set slots p (Used now))) (still_used slots p (Used r) now at) order places.used)
          (λ k q e. grind (arith, nat_tests, sym (get_set slots p (Used r) (Used now) at k) ∙ e, places.ordered p r at, places.ordered k q)) refl

    -- the row goes, and its line is parked
    module _ (l : LineView) (line : l.line ≡ r.line) (capacity : l.capacity ≡ r.capacity) (order' : List ℕ) (left : order' ≡ filter (λ k. not (eqb k p)) order) where
      pub left_rows : rows_at_places (set slots p (Parked l)) order' ≡ without (λ (q : DeskRow). q.key == r.row.key) (rows_at_places slots order)
      left_rows =
          ap (rows_at_places (set slots p (Parked l))) left
          ∙ one_left row_key (row_in slots) p (row_in (set slots p (Parked l))) no_row (row_set slots p (Used r) (Parked l) at) order (λ k a. apart row_key (row_in slots) k p order rising a (places.ordered p r at))
          ∙ ap (λ (y : DeskRow). without (λ (q : DeskRow). q.key == y.key) (rows_at_places slots order)) (row_there slots p (Used r) at)

      pub left_places : ArePlaces lines c (set slots p (Parked l)) order'
      left_places =
          let was = get_set slots p (Used r) (Parked l) at in
          rw left (set_places (Used r) (Parked l) (filter (λ k. not (eqb k p)) order) at tt line capacity
          (each_left (IsUsed slots) (IsUsed (set slots p (Parked l))) p (λ k other u. record { row = u.row; there = was k ∙ ap (λ b. cond b (Some (Parked l)) (slice_get slots k)) other ∙ u.there }) order places.used)
          (λ k q e. grind (arith, nat_tests, sym (was k) ∙ e, places.ordered k q, still_among k p order)) (omega (arith, left_count row_key (row_in slots) p order rising (places.ordered p r at))))

  -- a parked line gets a row
  module _ (l : LineView) (at : slice_get slots p ≡ Some (Parked l)) (now : PlacedRowView) (line : now.line ≡ l.line) (capacity : now.capacity ≡ l.capacity) where
    not_parked : (ks : List ℕ) → AllByRecursion (IsUsed slots) ks → has_place p ks ≡ false
    not_parked [] u = refl
    not_parked (k ∷ ks) u = grind (arith, nat_tests, u.0.there, at, not_parked ks u.1)

    there_now : slice_get (set slots p (Used now)) p ≡ Some (Used now)
    there_now = grind (arith, nat_tests, get_set slots p (Parked l) (Used now) at p)

    pub begun_rows : rows_at_places (set slots p (Used now)) (order ++ p ∷ []) ≡ rows_at_places slots order ++ now.row ∷ []
    begun_rows =
        map-append (row_in (set slots p (Used now))) order (p ∷ [])
        ∙ (λ i. others_as_they_were row_key (row_in slots) p (row_in (set slots p (Used now))) now.row (row_set slots p (Parked l) (Used now) at) order (not_parked order places.used) i ++ row_there (set slots p (Used now)) p (Used now) there_now i ∷ [])

    pub begun_places : ArePlaces lines c (set slots p (Used now)) (order ++ p ∷ [])
    begun_places =
        set_places (Parked l) (Used now) (order ++ p ∷ []) at tt line capacity
        (each_last (IsUsed (set slots p (Used now))) order p (each_still (IsUsed slots) (IsUsed (set slots p (Used now))) (still_used slots p (Parked l) now at) order places.used) (record { row = now; there = there_now }))
        (λ k q e. grind (arith, nat_tests, among_last k p order, sym (get_set slots p (Parked l) (Used now) at k) ∙ e, places.ordered k q)) (omega (arith, length-append order (p ∷ [])))

-- ---- All places

-- where no line is parked, all are in use
pub full : (c : ℕ) (slots : List Slot) → AllByRecursion (λ s. IsParked s → ⊥) slots → AllByRecursion (IsLine c) slots → uses slots ≡ length slots
full c [] h each = refl
full c (Parked l ∷ slots) h each = absurd (h.0 tt)
full c (Used r ∷ slots) h each = omega (arith, full c slots h.1 each.1)
full c (Away ∷ slots) h each = absurd each.0.here

-- where all are parked, none is in use
none_used : (slots : List Slot) → AllByRecursion IsParked slots → uses slots ≡ 0
none_used [] h = refl
none_used (Parked l ∷ slots) h = omega (arith, none_used slots h.1)
none_used (Used r ∷ slots) h = absurd h.0
none_used (Away ∷ slots) h = absurd h.0

-- lines that no desk has yet
pub new_places : (c : ℕ) (slots : List Slot) (order : List ℕ) (room : ℕ) → AreLines c slots order room → ArePlaces (map line_of slots) c slots order
new_places c slots order room h = record {
  lines_are = refl;
  number = h.number;
  each = h.each;
  used = subst (AllByRecursion (IsUsed slots)) (sym h.empty) tt;
  ordered = λ k r e. absurd (each_get IsParked slots k (Used r) h.parked e);
  count = ap (λ (l : List ℕ). length l) h.empty ∙ sym (none_used slots h.parked);
}

-- after a stop a place has the same line, in use or not
ended_same : (s : Slot) → (line_of (ended_slot s) ≡ line_of s) × (use_of (ended_slot s) ≡ use_of s) × ((c : ℕ) → IsLine c s → IsLine c (ended_slot s))
ended_same (Parked l) = (refl, refl, λ c h. h)
ended_same (Used r) = (refl, refl, λ c h. record { here = tt; capacity_is = h.capacity_is })
ended_same Away = (refl, refl, λ c h. h)

ended_lines : (slots : List Slot) → map line_of (map ended_slot slots) ≡ map line_of slots
ended_lines [] = refl
ended_lines (s ∷ slots) = λ i. (ended_same s).0 i ∷ ended_lines slots i

ended_uses : (slots : List Slot) → uses (map ended_slot slots) ≡ uses slots
ended_uses [] = refl
ended_uses (s ∷ slots) = λ i. (ended_same s).1 i + ended_uses slots i

-- and the row that was there has ended
ended_get : (slots : List Slot) (k : ℕ) (r : PlacedRowView) → slice_get slots k ≡ Some (Used r) → slice_get (map ended_slot slots) k ≡ Some (Used (ended_row r))
ended_get slots k r e = slice_get-map ended_slot slots k ∙ ap (option_map ended_slot) e

was_used : (o : Option Slot) (r : PlacedRowView) → option_map ended_slot o ≡ Some (Used r) → (q : PlacedRowView) × (o ≡ Some (Used q))
was_used None r e = absurd cc
was_used (Some (Parked l)) r e = absurd cc
was_used (Some (Used q)) r e = (q, refl)
was_used (Some Away) r e = absurd cc

-- so the places stay in order, and each of their rows has ended
pub ended_places : (lines : List LineId) (c : ℕ) (slots : List Slot) (order : List ℕ) → ArePlaces lines c slots order → ArePlaces lines c (map ended_slot slots) order
ended_places lines c slots order h = record {
  lines_are = ended_lines slots ∙ h.lines_are;
  number = length-map slots ended_slot ∙ h.number;
  each = each_map (IsLine c) (IsLine c) ended_slot (λ s. (ended_same s).2 c) slots h.each;
  used = each_still (IsUsed slots) (IsUsed (map ended_slot slots)) (λ k u. record { row = ended_row u.row; there = ended_get slots k u.row u.there }) order h.used;
  ordered = λ k r e. let q = was_used (slice_get slots k) r (sym (slice_get-map ended_slot slots k) ∙ e) in h.ordered k q.0 q.1;
  count = h.count ∙ sym (ended_uses slots);
}

pub ended_rows : (slots : List Slot) (ks : List ℕ) → AllByRecursion (IsUsed slots) ks → rows_at_places (map ended_slot slots) ks ≡ map desk_row_after_stop (rows_at_places slots ks)
ended_rows slots [] u = refl
ended_rows slots (k ∷ ks) u =
    (λ i. (row_there (map ended_slot slots) k (Used (ended_row u.0.row)) (ended_get slots k u.0.row u.0.there) ∙ ap desk_row_after_stop (sym (row_there slots k (Used u.0.row) u.0.there))) i ∷ ended_rows slots ks u.1 i)
