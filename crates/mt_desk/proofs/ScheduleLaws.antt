-- What the calls of a desk are on its floor.
use Rattle.std.proofs.Common.{◌≡◌, ℕ, ◌+◌, true, cond, List, [], ◌∷◌, ◌++◌, length, drop, map, replicate, Some, None, Ok, Err, refl, sym, ap, ◌∙◌, arith, length-append}
use Rattle.std.specs.Prelude.{Result, ◌==◌}
use Rattle.std.specs.Option.{option_map_or}
use Rattle.std.proofs.lemmas.List.{drop_at, map-append}
use Rattle.std.proofs.Math.Seq.{take-nil}
use Rattle.mt_skel.specs.declared.fault.Fault.{Fault}
use Rattle.mt_skel.specs.declared.fault.Fault.TheVariants.{NoWatcher}
use Rattle.mt_skel.specs.Keyed.{row_at, without, rises}
use Rattle.mt_skel.proofs.KeyedLaws.{row_at-key}
use Rattle.mt_skel.proofs.MiddleLaws.{each_last, each_map}
use Rattle.mt_events.specs.Posts.{PostView}
use Rattle.mt_events.specs.declared.opening.Scope.{Scope}
use Rattle.mt_floor.specs.declared.watch.Phase.{Phase}
use Rattle.mt_floor.specs.declared.watch.Phase.TheVariants.{Open as IsOpen, Lagged, Ended}
use Rattle.mt_floor.specs.declared.event.Event.{Event}
use Rattle.mt_floor.specs.declared.event.Event.TheVariants.{Open, Take, Meet, Close, Stop}
use Rattle.mt_floor.specs.declared.event.Answer.{Answer}
use Rattle.mt_floor.specs.declared.event.Answer.TheVariants.{Opened, Met, Closed, Halted}
use Rattle.mt_floor.specs.Watcher.{Watcher, watcher_key, is_open, opening_of}
use Rattle.mt_floor.specs.Schedule.{FloorView, Stepped, floor_step, run, unless, changed, met, closed, opening_refusal}
use Rattle.mt_floor.proofs.RowLaws.{put_same}
use Rattle.mt_floor.proofs.RunningLaws.{joined}
use Rattle.mt_desk.specs.Late.{late, late_count}
use Rattle.mt_desk.specs.Desk.{DeskRow, DeskView, IsDeskRow, IsInTime, IsDesk, row_key, late_watcher, floor_of_desk, new_desk_row, with_watcher, desk_row_after_stop, halted_desk}
use Rattle.mt_desk.specs.Calls.{WatcherView, IsHalved, IsMet, IsClosed, unseen, in_time_after, met_row, with_row}
use Rattle.mt_desk.proofs.RowsLaws.{watcher_there, put_watchers, without_watchers, rises_watchers, each_at, each_put, each_without, without_put}
use Rattle.mt_desk.proofs.RunLaws.{run_cons, desk_stays, with_taken, takes_run, late_met}

-- the rows of a desk stand by rising key
pub rows_rise : (d : DeskView) → IsDesk d → rises row_key d.rows ≡ true
rows_rise d h = sym (rises_watchers d.capacity d.rows) ∙ h.floor.rising

-- the watcher of a row, once it was met
pub met_there : (d : DeskView) (key n : ℕ) (row : DeskRow) → row_at row_key key d.rows ≡ Some row
    → row_at watcher_key key (floor_of_desk (with_row d (met_row n row))).watchers ≡ Some (late_watcher d.capacity (met_row n row))
met_there d key n row at =
    ap (row_at watcher_key key) (put_watchers d.capacity (met_row n row) d.rows)
    ∙ put_same watcher_key key (late_watcher d.capacity (met_row n row)) (map (late_watcher d.capacity) d.rows) (sym (row_at-key row_key key d.rows row at))

-- A watcher meets its desk, or goes: first its takes are done that the floor has not seen.
module _ {d : DeskView} (w : WatcherView) {row : DeskRow} {rest : List PostView} (h : IsDesk d) (at : row_at row_key w.key d.rows ≡ Some row) (halved : IsHalved d.capacity row w.half rest) where
  abbrev taken : ℕ
  taken = length w.half.taken

  abbrev takes : List Event
  takes = replicate (unseen d.capacity row w.half) (Take w.key)

  abbrev met_desk : DeskView
  met_desk = with_row d (met_row taken row)

  -- what the floor has seen taken then is what was taken
  all_taken : late d.capacity taken row.sent ≡ w.half.taken
  all_taken = late_met d.capacity row.sent w.half.taken rest halved.split halved.held

  long : length row.sent ≡ taken + length rest
  long = ap length halved.split ∙ length-append w.half.taken rest

  -- they lead to the floor after the meeting
  unseen_run : (told : List (Result Answer Fault)) × (run (floor_of_desk d) takes ≡ (floor_of_desk met_desk, told))
  unseen_run =
      let seen = late_count d.capacity row.met (length row.sent) in
      let more = unseen d.capacity row w.half in
      let t = takes_run (floor_of_desk d) w.key seen more (late_watcher d.capacity row) (watcher_there d.capacity w.key d.rows row at) h.floor.rising (omega (arith, long, halved.held, halved.met)) in
      let count : seen + more ≡ late_count d.capacity taken (length row.sent) = omega (arith, long, halved.held, halved.met) in
      let watchers = ap (λ n. (changed (floor_of_desk d) (with_taken n (late_watcher d.capacity row))).watchers) count ∙ sym (put_watchers d.capacity (met_row taken row) d.rows) in
      (t.0, t.1 ∙ ap (λ (l : List Watcher). (record (floor_of_desk d) { watchers = l }, t.0)) watchers)

  -- and then the floor does what is called
  seen_then : (e : Event) {now : FloorView} {a : Result Answer Fault} → floor_step (floor_of_desk met_desk) e ≡ (now, a) → run (floor_of_desk d) (takes ++ e ∷ []) ≡ (now, unseen_run.0 ++ a ∷ [])
  seen_then e step = joined (floor_of_desk d) _ takes _ unseen_run.0 _ (floor_of_desk met_desk) unseen_run.1 (run_cons (floor_of_desk met_desk) e [] step refl)

  -- a meeting
  meet_step : floor_step (floor_of_desk met_desk) (Meet w.key) ≡ (floor_of_desk met_desk, Ok (Met (record { posted = length row.sent; taken = taken; state = row.phase })))
  unfolding floor_step
  meet_step =
      ap (λ o. option_map_or (met (floor_of_desk met_desk)) o (floor_of_desk met_desk, Err NoWatcher)) (met_there d w.key taken row at)
      ∙ ap (λ (l : List PostView). (floor_of_desk met_desk, Ok (Met (record { posted = length row.sent; taken = length l; state = row.phase })))) all_taken

  pub is_met : IsMet d w (record { posted = length row.sent; taken = taken; state = row.phase }) met_desk (record w { half = record w.half { told = length row.sent } })
  is_met = record { row = row; there = at; rest = rest; halved = halved; meeting = refl; desk = refl; watcher = refl; told = unseen_run.0; schedule = seen_then (Meet w.key) meet_step }

  -- a close: the row goes, and the rest is answered
  abbrev closed_desk : DeskView
  closed_desk = record d { rows = without (λ (r : DeskRow). r.key == w.key) d.rows }

  close_step : floor_step (floor_of_desk met_desk) (Close w.key) ≡ (floor_of_desk closed_desk, Ok (Closed rest))
  unfolding floor_step
  close_step =
      let f : FloorView = floor_of_desk met_desk in
      let mine = row_at-key row_key w.key d.rows row at in
      let posts : drop (length (late d.capacity taken row.sent)) row.sent ≡ rest = (λ i. drop (length (all_taken i)) (halved.split i)) ∙ drop_at w.half.taken rest taken refl in
      ap (λ o. option_map_or (closed f) o (f, Err NoWatcher)) (met_there d w.key taken row at)
      ∙ (λ i. (record f { watchers = without (λ (q : Watcher). q.key == mine i) f.watchers }, Ok (Closed (posts i))))
      ∙ ap (λ (l : List Watcher). (record f { watchers = l }, Ok (Closed rest)))
      (sym (without_watchers d.capacity w.key met_desk.rows) ∙ ap (map (late_watcher d.capacity)) (without_put row_key w.key (met_row taken row) d.rows mine))

  pub is_closed : IsClosed d w rest closed_desk
  is_closed = record { row = row; there = at; halved = halved; desk = refl; told = unseen_run.0; schedule = seen_then (Close w.key) close_step }

  -- and the desk stays one
  pub met_stays : IsDesk met_desk
  met_stays = desk_stays d met_desk takes h refl unseen_run.1 (each_put (IsDeskRow d.capacity) (met_row taken row) d.rows h.rows (record {
    met = omega (arith, long);
    in_time =
        let now = λ (f : Phase). IsInTime d.capacity (length row.sent) row.met row.met_in_time f → IsInTime d.capacity (length row.sent) taken (in_time_after f row.met_in_time taken) f in
        elim row.phase as now [ IsOpen ↦ λ t. refl | Lagged ↦ λ t. (omega (arith, t.0, halved.met), t.1) | Ended ↦ λ t. refl ] (each_at (IsDeskRow d.capacity) w.key d.rows row h.rows at).in_time;
  }))

  pub closed_stays : IsDesk closed_desk
  closed_stays = desk_stays d closed_desk (takes ++ Close w.key ∷ []) h refl (seen_then (Close w.key) close_step) (each_without (IsDeskRow d.capacity) (λ (r : DeskRow). r.key == w.key) d.rows h.rows)

-- A stop ends the open rows.
ended_watchers : (c : ℕ) (rs : List DeskRow) → map (λ (w : Watcher). record w { phase = cond (is_open w.phase) Ended w.phase }) (map (late_watcher c) rs) ≡ map (late_watcher c) (map desk_row_after_stop rs)
ended_watchers c [] = refl
ended_watchers c (r ∷ rs) = ap (λ l. late_watcher c (desk_row_after_stop r) ∷ l) (ended_watchers c rs)

-- so the floor of a desk that stops is that of the halted one, which stays a desk
pub stop_schedule : (d : DeskView) → floor_step (floor_of_desk d) Stop ≡ (floor_of_desk (halted_desk d), Ok Halted)
unfolding floor_step
stop_schedule d = ap (λ (l : List Watcher). (record (floor_of_desk d) { stopped = true; watchers = l }, Ok Halted)) (ended_watchers d.capacity d.rows)

ended_row : (c : ℕ) (r : DeskRow) → IsDeskRow c r → IsDeskRow c (desk_row_after_stop r)
ended_row c r k =
    let now = λ (f : Phase). IsInTime c (length r.sent) r.met r.met_in_time f → IsInTime c (length r.sent) r.met r.met_in_time (cond (is_open f) Ended f) in
    record { met = k.met; in_time = elim r.phase as now [ IsOpen ↦ λ t. t | Lagged ↦ λ t. t | Ended ↦ λ t. t ] k.in_time }

pub stopped_stays : (d : DeskView) → IsDesk d → IsDesk (halted_desk d)
stopped_stays d h = desk_stays d (halted_desk d) (Stop ∷ []) h refl (run_cons (floor_of_desk d) Stop [] (stop_schedule d) refl) (each_map (IsDeskRow d.capacity) (IsDeskRow d.capacity) desk_row_after_stop (ended_row d.capacity) d.rows h.rows)

-- A watcher begins.
pub open_schedule : (d : DeskView) (scope : Scope) → opening_refusal (floor_of_desk d) scope ≡ None
    → floor_step (floor_of_desk d) (Open scope) ≡ (floor_of_desk (with_watcher d scope), Ok (Opened d.next_key (opening_of d.journal scope)))
unfolding floor_step
open_schedule d scope none =
    let f : FloorView = floor_of_desk d in
    let row = new_desk_row d scope in
    let begun : List PostView → Stepped = λ (taken : List PostView). (
      record f { next_key = d.next_key + 1; watchers = f.watchers ++ record (late_watcher d.capacity row) { taken = taken } ∷ [] },
      Ok (Opened d.next_key (opening_of d.journal scope)),
    ) in
    ap (λ o. unless o f (begun [])) none
    ∙ ap begun (sym (take-nil (late_count d.capacity 0 0)))
    ∙ ap (λ (l : List Watcher). (record f { next_key = d.next_key + 1; watchers = l }, Ok (Opened d.next_key (opening_of d.journal scope)))) (sym (map-append (late_watcher d.capacity) d.rows (row ∷ [])))

-- and the desk stays one
pub opened_stays : (d : DeskView) (scope : Scope) → IsDesk d → opening_refusal (floor_of_desk d) scope ≡ None → IsDesk (with_watcher d scope)
opened_stays d scope h none =
    desk_stays d (with_watcher d scope) (Open scope ∷ []) h refl (run_cons (floor_of_desk d) (Open scope) [] (open_schedule d scope none) refl) (each_last (IsDeskRow d.capacity) d.rows (new_desk_row d scope) h.rows (record { met = omega arith; in_time = refl }))
