-- What each event of a watcher, and a stop, do to the rows of a floor.
use Rattle.std.proofs.Common.{◌≡◌, ℕ, ◌+◌, ◌^◌, ◌≤◌, Bool, true, cond, List, [], ◌∷◌, ◌++◌, map, length, set, get_or, take, drop, Option, Some, None, slice_get, Ok, Err, refl, sym, ap, ◌∙◌, subst, arith, append_assoc, length-append}
use Rattle.std.specs.Prelude.{Result, nat_le}
use Rattle.std.specs.List.{position_from, remove, AllByRecursion}
use Rattle.std.specs.Option.{option_map_or}
use Rattle.std.proofs.lemmas.Bool.Decides.{nat_tests}
use Rattle.std.proofs.lemmas.List.{length-take-le, drop_at}
use Rattle.std.proofs.lemmas.Option.{slice_get_within}
use Rattle.mt_skel.proofs.ListLaws.{take_found}
use Rattle.mt_skel.specs.declared.fault.Fault.{Fault}
use Rattle.mt_skel.specs.declared.fault.Fault.TheVariants.{NoWatcher}
use Rattle.mt_skel.specs.Keyed.{row_at}
use Rattle.mt_events.specs.Posts.{PostView}
use Rattle.mt_book.specs.declared.command.Command.{Command}
use Rattle.mt_floor.specs.declared.watch.Meeting.{Meeting}
use Rattle.mt_floor.specs.declared.watch.Phase.TheVariants.{Ended}
use Rattle.mt_floor.specs.declared.event.Event.{Event}
use Rattle.mt_floor.specs.declared.event.Event.TheVariants.{Take, Meet, Close, Stop}
use Rattle.mt_floor.specs.declared.event.Answer.{Answer}
use Rattle.mt_floor.specs.declared.event.Answer.TheVariants.{Took, Met, Closed, Halted}
use Rattle.mt_floor.specs.Watcher.{Watcher, Due, watcher_key, is_open, followed_posts}
use Rattle.mt_floor.specs.Schedule.{FloorView, Stepped, floor_step, if_idle, at_row, changed, is_full, nothing_left, took, met, closed, halted, waiting}
use Rattle.mt_floor.specs.WellFormed.{IsFloor}
use Rattle.mt_floor.specs.Rows.{FloorRowView, row_after_stop, next_taken, watcher_of, floor_of, IsFloorRow, IsKeptFloor}
use Rattle.mt_floor.proofs.RowLaws.{get_behind, first_of}
use Rattle.mt_floor.proofs.RunLaws.{get_left}
use Rattle.mt_floor.proofs.StandingLaws.{stays, lists_short}
use Rattle.mt_floor.proofs.PlaceLaws.{IsAt, Found, is_of, got_at, row_read, watcher_at, changed_at, without_at, no_watcher}
use Rattle.mt_skel.proofs.MiddleLaws.{each_mid, each_with, each_without, each_map, set_mid, remove_mid}

-- an event was done on a floor, which is kept
pub record IsDone (s : FloorView) (e : Event) (a : Result Answer Fault) (c : ℕ) (j : List Command) (l : ℕ) (st : Bool) (rows : List FloorRowView) (due : List Due) : Type 0 where
  pub step : floor_step s e ≡ (floor_of c j l st rows due, a)
  pub kept : IsKeptFloor c j l st rows due

-- the same step, with an equal answer
pub with_answer : {s : FloorView} {x : Stepped} {a b : Result Answer Fault} → x ≡ (s, a) → a ≡ b → x ≡ (s, b)
with_answer {s = s} e same = e ∙ ap (λ r. (s, r)) same

-- a key without a watcher
pub record IsAbsent (s : FloorView) (q : ℕ) : Type 0 where
  pub none : row_at watcher_key q s.watchers ≡ None
  pub take : floor_step s (Take q) ≡ (s, Err NoWatcher)
  pub meet : s.due ≡ [] → floor_step s (Meet q) ≡ (s, Err NoWatcher)
  pub close : s.due ≡ [] → floor_step s (Close q) ≡ (s, Err NoWatcher)
  pub waits : waiting s q ≡ []

-- where nothing is due, an event is not put off
pub not_late : (s : FloorView) (done : Stepped) → s.due ≡ [] → if_idle s.due s done ≡ done
not_late s done idle = ap (λ ds. if_idle ds s done) idle

-- it has no watcher to be met, to take or to close
absent : (s : FloorView) (q : ℕ) → row_at watcher_key q s.watchers ≡ None → IsAbsent s q
unfolding floor_step
absent s q none = record {
  none = none;
  take = of_row (took s);
  meet = λ idle. not_late s (at_row s q (met s)) idle ∙ of_row (met s);
  close = λ idle. not_late s (at_row s q (closed s)) idle ∙ of_row (closed s);
  waits = ap (λ o. option_map_or (λ (r : Watcher). drop (length r.taken) r.sent) o []) none;
}
  where
    of_row : (f : Watcher → Stepped) → at_row s q f ≡ (s, Err NoWatcher)
    of_row f = ap (λ o. option_map_or f o (s, Err NoWatcher)) none

-- what a watcher follows
abbrev pub follows_all : List Command → FloorRowView → List PostView
follows_all j r = followed_posts r.scope (take r.since j) (drop r.since j)

module _ (c : ℕ) (j : List Command) (r : FloorRowView) (h : IsFloorRow c j r) where
  -- it has taken this many posts
  taken_count : length (take r.taken (follows_all j r)) ≡ r.taken
  taken_count = length-take-le r.taken (follows_all j r) h.taken

  sent_count : length (watcher_of j r).sent ≡ r.taken + length r.waiting
  sent_count = omega (arith, length-append (take r.taken (follows_all j r)) r.waiting, taken_count)

  -- its queue is full where this many posts wait
  pub full_is : is_full c (watcher_of j r) ≡ nat_le c (length r.waiting)
  full_is = same (length (watcher_of j r).taken + c) (length (watcher_of j r).sent) c (length r.waiting) r.taken (omega (arith, taken_count)) sent_count
    where
      same : (a b m n t : ℕ) → a ≡ t + m → b ≡ t + n → nat_le a b ≡ nat_le m n
      same a b m n t e f = grind (arith, nat_tests)

-- a list without a first element is empty
none_of : {X : Type 0} (xs : List X) → slice_get xs 0 ≡ None → xs ≡ []
none_of [] e = refl
none_of (y ∷ ys) e = absurd (cc)

module _ {c : ℕ} {j : List Command} {l : ℕ} {st : Bool} {rows : List FloorRowView} {due : List Due} {s : FloorView} (h : IsKeptFloor c j l st rows due) (view : floor_of c j l st rows due ≡ s) where
  abbrev here : FloorView
  here = floor_of c j l st rows due

  pub is_floor : IsFloor s
  is_floor = subst IsFloor view h.floor

  pub idle_there : s.due ≡ [] → due ≡ []
  idle_there idle = ap (λ (f : FloorView). f.due) view ∙ idle

  -- the floor that an event makes is kept, if its rows are
  pub done : {c' : ℕ} {j' : List Command} {l' : ℕ} {st' : Bool} {rows' : List FloorRowView} {due' : List Due} (e : Event) {a : Result Answer Fault}
      → floor_step (floor_of c j l st rows due) e ≡ (floor_of c' j' l' st' rows' due', a) → AllByRecursion (IsFloorRow c' j') rows' → IsDone s e a c' j' l' st' rows' due'
  done e is each = record {
    step = ap (λ (f : FloorView). floor_step f e) (sym view) ∙ is;
    kept = record { floor = subst IsFloor (ap (λ (x : Stepped). x.0) is) (stays here e h.floor); each = each };
  }

  -- a search for a key that found no row
  pub unsought : (q : ℕ) {now : List FloorRowView} {o : Option ℕ} → now ≡ rows → o ≡ position_from (is_of q) 0 now → o ≡ None → IsAbsent s q
  unsought q same is none = absent s q (ap (λ (f : FloorView). row_at watcher_key q f.watchers) (sym view) ∙ no_watcher j q 0 rows (ap (position_from (is_of q) 0) (sym same) ∙ sym is ∙ none))

  module _ {q i : ℕ} {row : FloorRowView} (at : IsAt q i rows row) where
    -- its row, and its watcher
    pub row_is : IsFloorRow c j row
    row_is = each_mid (IsFloorRow c j) at.front at.back row (subst (AllByRecursion (IsFloorRow c j)) at.split h.each)

    pub found : row_at watcher_key q (map (watcher_of j) rows) ≡ Some (watcher_of j row)
    found = watcher_at j at h.floor.rising

    of_row : (f : Watcher → Stepped) → at_row here q f ≡ f (watcher_of j row)
    of_row f = ap (λ o. option_map_or f o (here, Err NoWatcher)) found

    pub few : row.taken + length row.waiting ≤ 2 ^ 40
    few = omega (arith, (lists_short here q (watcher_of j row) h.floor found).1, sent_count c j row row_is)

    pub each_set : (new : FloorRowView) → IsFloorRow c j new → AllByRecursion (IsFloorRow c j) (set rows i new)
    each_set new p =
        subst (AllByRecursion (IsFloorRow c j)) (sym (set_mid at.front at.back row new) ∙ (λ k. set (sym at.split k) (sym at.place k) new))
        (each_with (IsFloorRow c j) at.front at.back row new (subst (AllByRecursion (IsFloorRow c j)) at.split h.each) p)

    abbrev front : List PostView
    front = take row.taken (follows_all j row)

    -- what waits for it
    left : drop (length (watcher_of j row).taken) (watcher_of j row).sent ≡ row.waiting
    left = drop_at front row.waiting (length front) refl

    pub waiting_is : waiting s q ≡ row.waiting
    waiting_is = ap (λ (f : FloorView). waiting f q) (sym view) ∙ ap (λ o. option_map_or (λ (r : Watcher). drop (length r.taken) r.sent) o []) found ∙ left

    -- it is met, it is closed, and it takes
    pub meet_some : s.due ≡ [] → {m : Meeting} → m ≡ record { posted = row.taken + length row.waiting; taken = row.taken; state = row.phase } → floor_step s (Meet q) ≡ (s, Ok (Met m))
    unfolding floor_step
    meet_some idle {m = m} is = subst (λ (f : FloorView). floor_step f (Meet q) ≡ (f, Ok (Met m))) view
        (not_late here (at_row here q (met here)) (idle_there idle) ∙ of_row (met here)
        ∙ (λ k. (here, Ok (Met (record { posted = sent_count c j row row_is k; taken = taken_count c j row row_is k; state = row.phase })))) ∙ ap (λ (x : Meeting). (here, Ok (Met x))) (sym is))

    pub close_done : s.due ≡ [] → {rows' : List FloorRowView} {ps : List PostView} → rows' ≡ remove rows i → ps ≡ row.waiting → IsDone s (Close q) (Ok (Closed ps)) c j l st rows' due
    unfolding floor_step
    close_done idle gone is =
        let watchers = without_at j at h.floor.rising ∙ ap (map (watcher_of j)) (sym gone) in
        let posts = left ∙ sym is in
        done (Close q) (not_late here (at_row here q (closed here)) (idle_there idle) ∙ of_row (closed here) ∙ (λ k. (record here { watchers = watchers k }, Ok (Closed (posts k)))))
        (subst (AllByRecursion (IsFloorRow c j)) ((sym (remove_mid at.front at.back row) ∙ (λ k. remove (sym at.split k) (sym at.place k))) ∙ sym gone)
        (each_without (IsFloorRow c j) at.front at.back row (subst (AllByRecursion (IsFloorRow c j)) at.split h.each)))

    step_took : (o : Option PostView) → slice_get row.waiting 0 ≡ o
        → floor_step here (Take q) ≡ option_map_or {U = Stepped} (λ p. (changed here (record (watcher_of j row) { taken = front ++ p ∷ [] }), Ok (Took (Some p)))) o (here, nothing_left row.phase)
    unfolding floor_step
    step_took o e =
        of_row (took here)
        ∙ ap (λ x. option_map_or {U = Stepped} (λ p. (changed here (record (watcher_of j row) { taken = front ++ p ∷ [] }), Ok (Took (Some p)))) x (here, nothing_left row.phase)) (get_behind front row.waiting ∙ e)

    -- a post waits
    module _ {p : PostView} (next : slice_get row.waiting 0 ≡ Some p) where
      wait : row.waiting ≡ p ∷ drop 1 row.waiting
      wait = first_of row.waiting p next

      there : slice_get (follows_all j row) row.taken ≡ Some p
      there =
          let f = h.floor.rows q (watcher_of j row) found in
          ap (λ l. slice_get l row.taken) f.posted ∙ get_left (front ++ row.waiting) f.not_posted row.taken (ap (slice_get (front ++ row.waiting)) (sym (taken_count c j row row_is)) ∙ get_behind front row.waiting ∙ next)

      more : take (row.taken + 1) (follows_all j row) ≡ front ++ p ∷ []
      more = take_found (follows_all j row) row.taken p there

      taken_row : watcher_of j (next_taken row.waiting row) ≡ record (watcher_of j row) { taken = front ++ p ∷ [] }
      taken_row =
          let sent = ap (λ t. t ++ drop 1 row.waiting) more ∙ append_assoc front (p ∷ []) (drop 1 row.waiting) ∙ ap (λ w. front ++ w) (sym wait) in
          ap (λ w. watcher_of j (next_taken w row)) wait ∙ (λ k. record (watcher_of j row) { sent = sent k; taken = more k })

      taken_kept : IsFloorRow c j (next_taken row.waiting row)
      taken_kept = subst (λ w. IsFloorRow c j (next_taken w row)) (sym wait) (record {
        since = row_is.since;
        taken = omega (arith, slice_get_within (follows_all j row) row.taken p there);
        room = omega (arith, row_is.room, ap (λ (x : List PostView). length x) wait);
      })

      take_some : {rows' : List FloorRowView} → rows' ≡ set rows i (next_taken row.waiting row) → IsDone s (Take q) (Ok (Took (Some p))) c j l st rows' due
      take_some is =
          let watchers = changed_at j at h.floor.rising (next_taken row.waiting row) (record (watcher_of j row) { taken = front ++ p ∷ [] }) taken_row refl ∙ ap (map (watcher_of j)) (sym is) in
          done (Take q) (step_took (Some p) next ∙ (λ k. (record here { watchers = watchers k }, Ok (Took (Some p)))))
          (subst (AllByRecursion (IsFloorRow c j)) (sym is) (each_set (next_taken row.waiting row) taken_kept))

  -- a take, as its search and its rows tell it
  module _ {q i : ℕ} (f : Found q i rows) {rows' : List FloorRowView} (now : (row : FloorRowView) → slice_get rows i ≡ Some row → rows' ≡ set rows i (next_taken row.waiting row)) where
    pub take_given : {p : PostView} → ((row : FloorRowView) → slice_get rows i ≡ Some row → Some p ≡ slice_get row.waiting 0) → IsDone s (Take q) (Ok (Took (Some p))) c j l st rows' due
    take_given post = take_some f.at (sym (post f.row (got_at f.at))) (now f.row (got_at f.at))

    pub take_empty : {x : FloorRowView} → ((row : FloorRowView) → slice_get rows i ≡ Some row → None ≡ slice_get row.waiting 0) → x ≡ get_or rows' i x → IsDone s (Take q) (nothing_left x.phase) c j l st rows' due
    take_empty {x = x} post read =
        let at = f.at in
        let still : rows' ≡ rows = now f.row (got_at at) ∙ ap (λ w. set rows i (next_taken w f.row)) (none_of f.row.waiting (sym (post f.row (got_at at)))) ∙ (λ k. set (at.split k) (at.place k) f.row) ∙ set_mid at.front at.back f.row f.row ∙ sym at.split in
        let there = row_read f (read ∙ ap (λ l. get_or l i x) still) in
        done (Take q) (step_took there None (sym (post x (got_at there))) ∙ ap (λ r. (floor_of c j l st r due, nothing_left x.phase)) (sym still)) (subst (AllByRecursion (IsFloorRow c j)) (sym still) h.each)

  -- a stop
  pub stop_done : s.due ≡ [] → {rows' : List FloorRowView} → rows' ≡ map row_after_stop rows → IsDone s Stop (Ok Halted) c j l true rows' due
  unfolding floor_step
  stop_done idle is =
      let watchers = all_end rows ∙ ap (map (watcher_of j)) (sym is) in
      done Stop (not_late here (halted here) (idle_there idle) ∙ (λ k. (record here { stopped = true; watchers = watchers k }, Ok Halted)))
      (subst (AllByRecursion (IsFloorRow c j)) (sym is) (each_map (IsFloorRow c j) (IsFloorRow c j) row_after_stop (λ r p. record { since = p.since; taken = p.taken; room = p.room }) rows h.each))
    where
      all_end : (rs : List FloorRowView) → map (λ (r : Watcher). record r { phase = cond (is_open r.phase) Ended r.phase }) (map (watcher_of j) rs) ≡ map (watcher_of j) (map row_after_stop rs)
      all_end [] = refl
      all_end (r ∷ rs) = ap (λ ws. watcher_of j (row_after_stop r) ∷ ws) (all_end rs)
