-- What the calls of a desk do to what it keeps.
use Rattle.std.proofs.Common.{◌≡◌, ℕ, ◌+◌, ◌<◌, ◌≤◌, Bool, true, false, not, eqb, List, [], ◌∷◌, ◌++◌, length, map, set, Option, Some, None, slice_get, Ok, Err, refl, sym, ap, ◌∙◌, subst, arith}
use Rattle.std.specs.Prelude.{nat_le}
use Rattle.std.specs.List.{filter, AllByRecursion}
use Rattle.std.specs.Option.{option_map}
use Rattle.std.proofs.lemmas.Bool.{or_parts}
use Rattle.std.proofs.lemmas.Bool.Decides.{nat_tests}
use Rattle.std.proofs.lemmas.List.{length-map}
use Rattle.std.proofs.lemmas.Option.{slice_get-map}
use Rattle.mt_skel.specs.declared.fault.Fault.{Fault}
use Rattle.mt_skel.specs.Keyed.{row_at, put, without, rises}
use Rattle.mt_events.specs.Posts.{PostView}
use Rattle.mt_events.specs.declared.opening.Scope.{Scope}
use Rattle.mt_events.specs.declared.opening.Opening.{Opening}
use Rattle.mt_book.specs.declared.command.Command.{Command}
use Rattle.mt_queue.specs.Halves.{LineId, LineView, ReceiverView}
use Rattle.mt_floor.specs.declared.watch.Meeting.{Meeting}
use Rattle.mt_floor.specs.declared.event.Event.TheVariants.{Open, Stop}
use Rattle.mt_floor.specs.declared.event.Answer.TheVariants.{Opened, Halted}
use Rattle.mt_floor.specs.Watcher.{opening_of}
use Rattle.mt_floor.specs.Schedule.{empty_floor, floor_step, unless, opening_refusal, watcher_limit}
use Rattle.mt_floor.proofs.AllowedLaws.{opening_allowed}
use Rattle.mt_floor.specs.WellFormed.{IsFloor}
use Rattle.mt_floor.proofs.BeginLaws.{opens}
use Rattle.mt_floor.proofs.StandingLaws.{begins_well}
use Rattle.mt_desk.specs.Desk.{DeskRow, DeskView, IsDeskRow, IsDesk, row_key, late_watcher, floor_of_desk, new_desk_row, with_watcher, halted_desk}
use Rattle.mt_desk.specs.Calls.{WatcherView, IsHalved, IsMet, IsClosed, met_row, with_row}
use Rattle.mt_desk.specs.Rows.{PlacedRowView, begun_row}
use Rattle.mt_desk.specs.declared.places.Slot.{Slot}
use Rattle.mt_desk.specs.declared.places.Slot.TheVariants.{Parked, Used, Away}
use Rattle.mt_desk.specs.Places.{line_of, IsParked, IsParkedAt, IsLine, rows_at_places, desk_of, ended_slot, OpensAt, ArePlaces, AreLines, IsKeptDesk, IsWatcher, IsPlace, MeetsAt, ClosesAt}
use Rattle.mt_desk.proofs.PlaceLaws.{each_get, row_of_place, put_rows, put_places, left_rows, left_places, begun_rows, begun_places, new_places, ended_places, ended_rows, full}
use Rattle.mt_desk.proofs.RunLaws.{history_of}
use Rattle.mt_desk.proofs.ScheduleLaws.{rows_rise, met_stays, closed_stays, is_met, is_closed, stop_schedule, stopped_stays, open_schedule, opened_stays}

-- ---- A desk with nothing done

pub new_kept : {lines : List LineId} {c : ℕ} {journal : List Command} {slots : List Slot} {order : List ℕ} {room : ℕ} → AreLines c slots order room → map line_of slots ≡ lines → journal ≡ []
    → IsKeptDesk lines (desk_of c journal 0 false slots order) slots order room
new_kept {lines} {c} {journal} {slots} {order} {room} h are none =
    let floor : floor_of_desk (desk_of c journal 0 false slots order) ≡ empty_floor c = λ i. floor_of_desk (desk_of c (none i) 0 false slots (h.empty i)) in
    record {
      places = subst (λ l. ArePlaces l c slots order) are (new_places c slots order room h);
      room_is = h.room_is;
      desk = record {
        floor = subst IsFloor (sym floor) (begins_well c);
        room = h.capacity_is;
        rows = subst (λ (l : List ℕ). AllByRecursion (IsDeskRow c) (rows_at_places slots l)) (sym h.empty) tt;
        history = history_of (desk_of c journal 0 false slots order) [] floor;
      };
    }

-- ---- A watcher's place

-- what is read of an element tells that one is there
there_of : {X Y : Type 0} (f : X → Y) (o : Option X) (y : Y) → option_map f o ≡ Some y → (x : X) × (o ≡ Some x) × (f x ≡ y)
there_of f None y e = absurd cc
there_of f (Some x) y e = (x, refl, (let same : f x ≡ y = cc in same))

-- a watcher has a place here, of its own line
pub place_is : {lines : List LineId} {c : ℕ} {slots : List Slot} {order : List ℕ} {p key : ℕ} {half : ReceiverView} → ArePlaces lines c slots order → IsWatcher lines key p half → IsPlace slots p half.line
place_is {c = c} {slots} {p = p} {half = half} h w =
    let t = there_of line_of (slice_get slots p) half.line (sym (slice_get-map line_of slots p) ∙ ap (λ (l : List LineId). slice_get l p) h.lines_are ∙ w.line) in
    record { slot = t.0; there = t.1; here = (each_get (IsLine c) slots p t.0 h.each t.1).here; line_is = t.2 }

-- ---- A meeting and a close

module _ {lines : List LineId} {c : ℕ} {journal : List Command} (last_key : ℕ) {stopped : Bool} {slots : List Slot} {order : List ℕ} {room : ℕ} (h : IsKeptDesk lines (desk_of c journal last_key stopped slots order) slots order room) where
  abbrev desk : DeskView
  desk = desk_of c journal last_key stopped slots order

  rising : rises row_key (rows_at_places slots order) ≡ true
  rising = rows_rise desk h.desk

  -- the row at a watcher's place is that of its key
  row_there : {p key : ℕ} {r : PlacedRowView} {half : ReceiverView} {rest : List PostView} → IsWatcher lines key p half → slice_get slots p ≡ Some (Used r) → half.tag ≡ r.row.key → IsHalved r.capacity r.row half rest
      → (row_at row_key key (rows_at_places slots order) ≡ Some r.row) × IsHalved c r.row half rest
  row_there {p} {r = r} {half} {rest} w at tag halved = (
    ap (λ k. row_at row_key k (rows_at_places slots order)) (sym w.tag ∙ tag) ∙ row_of_place h.places p rising r at,
    subst (λ n. IsHalved n r.row half rest) (each_get (IsLine c) slots p (Used r) h.places.each at).capacity_is halved,
  )

  -- it meets the watcher
  pub met_kept : {key place : ℕ} {half half' : ReceiverView} {slots' : List Slot} {m : Meeting} → IsWatcher lines key place half → MeetsAt slots place half slots' half' m
      → IsKeptDesk lines (desk_of c journal last_key stopped slots' order) slots' order room
      × IsMet desk (record { key = key; place = place; half = half }) m (desk_of c journal last_key stopped slots' order) (record { key = key; place = place; half = half' })
  met_kept {key} {place} {half} is at =
      let w : WatcherView = record { key = key; place = place; half = half } in
      let r = at.row in
      let now = at.now in
      let meets = at.meets in
      let here = row_there is at.there meets.key meets.halved in
      let line = ap (λ (x : PlacedRowView). x.line) meets.row in
      let capacity = ap (λ (x : PlacedRowView). x.capacity) meets.row in
      let row : now.row ≡ met_row (length w.half.taken) r.row = ap (λ (x : PlacedRowView). x.row) meets.row in
      let same = ap row_key row in
      let rows = put_rows h.places w.place rising r at.there now line capacity same ∙ ap (λ x. put row_key x (rows_at_places slots order)) row in
      let now_is : desk_of c journal last_key stopped (set slots w.place (Used now)) order ≡ with_row desk (met_row (length w.half.taken) r.row) = ap (λ (l : List DeskRow). record desk { rows = l }) rows in
      rw at.slots_are (
        record {
          places = put_places h.places w.place rising r at.there now line capacity same;
          room_is = h.room_is;
          desk = subst IsDesk (sym now_is) (met_stays w h.desk here.0 here.1);
        },
        subst (λ (x : Meeting × DeskView × ReceiverView). IsMet desk w x.0 x.1 (record w { half = x.2 })) (λ i. (sym meets.meeting i, sym now_is i, sym meets.half_is i)) (is_met w h.desk here.0 here.1),
      )

  -- and goes
  pub closed_kept : {key place : ℕ} {half : ReceiverView} {slots' : List Slot} {posts : List PostView} {order' : List ℕ} → IsWatcher lines key place half → ClosesAt slots place half slots' posts
      → order' ≡ filter (λ k. not (eqb k place)) order
      → IsKeptDesk lines (desk_of c journal last_key stopped slots' order') slots' order' room
      × IsClosed desk (record { key = key; place = place; half = half }) posts (desk_of c journal last_key stopped slots' order')
  closed_kept {key} {place} {half} {posts = posts} {order'} is at left =
      let w : WatcherView = record { key = key; place = place; half = half } in
      let r = at.row in
      let closes = at.closes in
      let here = row_there is at.there closes.key closes.halved in
      let line = ap (λ (x : LineView). x.line) closes.line in
      let capacity = ap (λ (x : LineView). x.capacity) closes.line in
      let rows =
      left_rows h.places w.place rising r at.there at.line line capacity order' left ∙ ap (λ k. without (λ (q : DeskRow). eqb q.key k) (rows_at_places slots order)) (sym closes.key ∙ is.tag) in
      let now_is : desk_of c journal last_key stopped (set slots w.place (Parked at.line)) order' ≡ record desk { rows = without (λ (q : DeskRow). eqb q.key w.key) (rows_at_places slots order) } =
      ap (λ (l : List DeskRow). record desk { rows = l }) rows in
      rw at.slots_are (
        record {
          places = left_places h.places w.place rising r at.there at.line line capacity order' left;
          room_is = h.room_is;
          desk = subst IsDesk (sym now_is) (closed_stays w h.desk here.0 here.1);
        },
        subst (IsClosed desk w posts) (sym now_is) (is_closed w h.desk here.0 here.1),
      )

  -- a stop
  pub stopped_kept : {slots' : List Slot} → slots' ≡ map ended_slot slots
      → IsKeptDesk lines (desk_of c journal last_key true slots' order) slots' order room × (floor_step (floor_of_desk desk) Stop ≡ (floor_of_desk (desk_of c journal last_key true slots' order), Ok Halted))
      × (desk_of c journal last_key true slots' order ≡ halted_desk desk)
  stopped_kept is =
      let now_is : desk_of c journal last_key true (map ended_slot slots) order ≡ halted_desk desk = ap (λ (l : List DeskRow). record desk { stopped = true; rows = l }) (ended_rows slots order h.places.used) in
      rw is (
        record { places = ended_places lines c slots order h.places; room_is = h.room_is; desk = subst IsDesk (sym now_is) (stopped_stays desk h.desk) },
        stop_schedule desk ∙ ap (λ (x : DeskView). (floor_of_desk x, Ok Halted)) (sym now_is),
        now_is,
      )

  -- a watcher begins
  pub begun_kept : {scope : Scope} {p : ℕ} {slots' : List Slot} {half : ReceiverView} {key since : ℕ} {o : Opening} {order' : List ℕ} → opening_refusal (floor_of_desk desk) scope ≡ None
      → OpensAt key scope since o slots p slots' half → key ≡ last_key + 1 → since ≡ length journal → o ≡ opening_of journal scope → order' ≡ order ++ p ∷ []
      → IsKeptDesk lines (desk_of c journal key stopped slots' order') slots' order' room
      × (floor_step (floor_of_desk desk) (Open scope) ≡ (floor_of_desk (desk_of c journal key stopped slots' order'), Ok (Opened key half.opening)))
      × IsWatcher lines key p half × (half.taken ≡ [])
      × (desk_of c journal key stopped slots' order' ≡ with_watcher desk scope)
  begun_kept {scope} {p} {half = half} {key} {o = o} {order'} none at key_is since_is o_is more =
      let now = at.row in
      let begun = at.begun in
      let line = ap (λ (x : PlacedRowView). x.line) begun.row in
      let capacity = ap (λ (x : PlacedRowView). x.capacity) begun.row in
      let row : now.row ≡ new_desk_row desk scope = ap (λ (x : PlacedRowView). x.row) begun.row ∙ (λ i. begun_row (key_is i) scope (since_is i) (o_is i)) in
      let rows : rows_at_places (set slots p (Used now)) order' ≡ rows_at_places slots order ++ new_desk_row desk scope ∷ [] =
      ap (rows_at_places (set slots p (Used now))) more ∙ begun_rows h.places p at.line at.there now line capacity ∙ ap (λ q. rows_at_places slots order ++ q ∷ []) row in
      let now_is : desk_of c journal key stopped (set slots p (Used now)) order' ≡ with_watcher desk scope = (λ i. record desk { next_key = key_is i + 1; rows = rows i }) in
      let opening : half.opening ≡ opening_of journal scope = ap (λ (x : ReceiverView). x.opening) begun.half_is ∙ o_is in
      rw at.slots_are (
        record {
          places = subst (ArePlaces lines c (set slots p (Used now))) (sym more) (begun_places h.places p at.line at.there now line capacity);
          room_is = h.room_is;
          desk = subst IsDesk (sym now_is) (opened_stays desk scope h.desk none);
        },
        open_schedule desk scope none ∙ (λ i. (floor_of_desk (sym now_is i), Ok (Opened (sym key_is i) (sym opening i)))),
        record {
          line = ap (λ (ls : List LineId). slice_get ls p) (sym h.places.lines_are) ∙ slice_get-map line_of slots p ∙ ap (option_map line_of) at.there ∙ ap (λ (x : ReceiverView). Some x.line) (sym begun.half_is);
          tag = ap (λ (x : ReceiverView). x.tag) begun.half_is;
        },
        ap (λ (x : ReceiverView). x.taken) begun.half_is,
        now_is,
      )

  -- where a watcher may begin, a line is not in use
  pub not_all_used : AllByRecursion (λ s. IsParked s → ⊥) slots → length order ≡ 64
  not_all_used none = h.places.count ∙ full c slots none h.places.each ∙ h.places.number

  -- its line has room for what a close answers
  pub parked_at : (p : ℕ) {room' : ℕ} (s : Slot) → slice_get slots p ≡ Some s → IsParked s → c ≤ room' → IsParkedAt slots p room'
  parked_at p (Parked l) at is fits = record { line = l; there = at; room_is = omega (arith, fits, (each_get (IsLine c) slots p (Parked l) h.places.each at).capacity_is) }
  parked_at p (Used r) at is fits = absurd is
  parked_at p Away at is fits = absurd is

-- ---- Whether a watcher may begin

-- a refusal is what the floor answers
pub opening_refused : (d : DeskView) (scope : Scope) {f : Fault} → opening_refusal (floor_of_desk d) scope ≡ Some f → floor_step (floor_of_desk d) (Open scope) ≡ (floor_of_desk d, Err f)
unfolding floor_step
opening_refused d scope is = ap (λ o. unless o (floor_of_desk d) (opens (floor_of_desk d) scope, Ok (Opened d.next_key (opening_of d.journal scope)))) is

-- where it may, fewer than 64 places are in use
pub room_for_one : (d : DeskView) (scope : Scope) → opening_refusal (floor_of_desk d) scope ≡ None → length d.rows < 64
room_for_one d scope none =
    let few : nat_le watcher_limit (length d.rows) ≡ false = ap (nat_le watcher_limit) (sym (length-map d.rows (late_watcher d.capacity))) ∙ (or_parts _ _ (opening_allowed (floor_of_desk d) scope none).few).0 in
    grind (arith, nat_tests, few)
