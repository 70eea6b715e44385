-- The calls of a desk are a schedule, and its watchers follow.
use Rattle.std.proofs.Common.{◌≡◌, ℕ, List, [], ◌∷◌, ◌++◌, length, drop, replicate, Some, slice_get, Ok, refl, sym, ap, ◌∙◌, subst, append_assoc}
use Rattle.std.specs.Prelude.{Result}
use Rattle.std.proofs.lemmas.List.{append-nil, append_cancel_right, drop_at, same_from_push}
use Rattle.mt_skel.specs.declared.fault.Fault.{Fault}
use Rattle.mt_skel.specs.Keyed.{row_at}
use Rattle.mt_events.specs.Posts.{PostView}
use Rattle.mt_events.specs.declared.opening.Opening.{Opening}
use Rattle.mt_floor.specs.declared.watch.Meeting.{Meeting}
use Rattle.mt_floor.specs.declared.event.Event.{Event}
use Rattle.mt_floor.specs.declared.event.Event.TheVariants as event
use Rattle.mt_floor.specs.declared.event.Answer.{Answer}
use Rattle.mt_floor.specs.declared.event.Answer.TheVariants.{Opened, Closed}
use Rattle.mt_floor.specs.Watcher.{Watcher, watcher_key}
use Rattle.mt_floor.specs.Schedule.{FloorView, empty_floor, floor_step, run}
use Rattle.mt_floor.specs.Headline.{answers, floor_after, accepted, taken_by, taken_since, posted_to, posted_since}
use Rattle.mt_floor.proofs.RunLaws.{run_state, run_told, journal_told}
use Rattle.mt_floor.proofs.HeadLaws.{in_order}
use Rattle.mt_floor.proofs.TableLaws.{rebuild}
use Rattle.mt_floor.proofs.MeetingLaws.{close_answer}
use Rattle.mt_floor.proofs.FollowLaws.{told_in_order, told_tables}
use Rattle.mt_floor.proofs.OpenedLaws.{row_began}
use Rattle.mt_floor.proofs.SinceLaws.{still_at, posted_more, taken_more, takes_quiet, leave_quiet}
use Rattle.mt_desk.specs.Desk.{DeskView, HasHistory, late_watcher, floor_of_desk}
use Rattle.mt_desk.specs.Calls.{WatcherView, IsMet, IsClosed, unseen, met_row}
use Rattle.mt_desk.specs.Headline.{Call, Apply, Open, Take, Meet, Close, Stop, Nothing, IsCalled, AreCalled, HasTakenInOrder, HasClosed, LastFollows, AreScheduled, CallsFollow, IsScheduledBy}
use Rattle.mt_desk.proofs.RowsLaws.{watcher_there}
use Rattle.mt_desk.proofs.RunLaws.{Ran, run_cons, floor_then, late_met}
use Rattle.mt_desk.proofs.ScheduleLaws.{met_there}

-- what a call does on the floor
record Does (d now : DeskView) : Type 0 where
  events : List Event
  told : List (Result Answer Fault)
  schedule : run (floor_of_desk d) events ≡ (floor_of_desk now, told)

-- of each call
does : (d : DeskView) (call : Call) (now : DeskView) → IsCalled d call now → Does d now
does d (Apply c reply) now is = record { events = event.Apply c ∷ is.sends; told = _; schedule = is.schedule }
does d (Open scope w) now is = record { events = event.Open scope ∷ []; told = _; schedule = run_cons (floor_of_desk d) (event.Open scope) [] is refl }
does d (Take w p w') now is = record { events = []; told = []; schedule = ap (λ (x : DeskView). (floor_of_desk x, [])) (sym is.0) }
does d (Meet w m w') now is = record { events = replicate (unseen d.capacity is.row w.half) (event.Take w.key) ++ event.Meet w.key ∷ []; told = _; schedule = is.schedule }
does d (Close w posts) now is = record { events = replicate (unseen d.capacity is.row w.half) (event.Take w.key) ++ event.Close w.key ∷ []; told = _; schedule = is.schedule }
does d Stop now is = record { events = event.Stop ∷ []; told = _; schedule = run_cons (floor_of_desk d) event.Stop [] is refl }
does d Nothing now is = record { events = []; told = []; schedule = ap (λ (x : DeskView). (floor_of_desk x, [])) (sym is) }

-- the events of calls
led : (capacity : ℕ) (d : DeskView) (calls : List Call) (now : DeskView) (es : List Event) → floor_of_desk d ≡ floor_after capacity es → AreCalled d calls now → (fs : List Event) × (floor_of_desk now ≡ floor_after capacity fs)
led capacity d [] now es from same = (es, ap floor_of_desk same ∙ from)
led capacity d (call ∷ calls) now es from (next, first, rest) = let a = does d call next first in led capacity next calls now (es ++ a.events) (floor_then capacity es a.events from a.schedule) rest

-- what a watcher that has begun has taken
abbrev taken_in_order : (capacity : ℕ) (es : List Event) (w : WatcherView) (at : ℕ) → slice_get (answers capacity es) at ≡ Some (Ok (Opened w.key w.half.opening)) → taken_since capacity es at w.key ≡ w.half.taken → HasTakenInOrder capacity es w
taken_in_order capacity es w at began taken = record {
  at = at;
  began = began;
  taken = taken;
  in_order = in_order capacity es at w.key w.half.opening began;
  rebuilt = rebuild capacity es at w.key w.half.opening began;
}

-- a watcher that is there has begun
began_there : (capacity : ℕ) (es : List Event) (w : WatcherView) (r : Watcher) → row_at watcher_key w.key (floor_after capacity es).watchers ≡ Some r → r.opening ≡ w.half.opening
    → (at : ℕ) × (slice_get (answers capacity es) at ≡ Some (Ok (Opened w.key w.half.opening)))
began_there capacity es w r there opening = let b = row_began capacity es w.key r there in (b.0, b.1 ∙ ap (λ (o : Opening). Some (Ok (Opened w.key o))) opening)

-- nothing more was posted to one
still_posted : (capacity : ℕ) (xs ys : List Event) (w : WatcherView) (at : ℕ) → slice_get (answers capacity xs) at ≡ Some (Ok (Opened w.key w.half.opening)) → posted_to w.key (floor_after capacity xs) ys ≡ []
    → posted_since capacity (xs ++ ys) at w.key ≡ posted_since capacity xs at w.key
still_posted capacity xs ys w at began none = posted_more capacity xs ys at w.key _ began ∙ ap (λ l. posted_since capacity xs at w.key ++ l) none ∙ append-nil (posted_since capacity xs at w.key)

-- a meeting
met_follows : (capacity : ℕ) (d : DeskView) (w : WatcherView) (m : Meeting) (now : DeskView) (w' : WatcherView) (es : List Event) → floor_of_desk now ≡ floor_after capacity es → IsMet d w m now w' → HasTakenInOrder capacity es w
met_follows capacity d w m now w' es from is =
    let r : Watcher = late_watcher d.capacity (met_row (length w.half.taken) is.row) in
    let there = ap (λ (s : FloorView). row_at watcher_key w.key s.watchers) (sym from ∙ ap floor_of_desk is.desk) ∙ met_there d w.key (length w.half.taken) is.row is.there in
    let b = began_there capacity es w r there is.halved.opening in
    taken_in_order capacity es w b.0 b.1 (sym ((in_order capacity es b.0 w.key w.half.opening b.1).row r there).1 ∙ late_met d.capacity is.row.sent w.half.taken is.rest is.halved.split is.halved.held)

-- a close: `es` are the events before it
module _ (capacity : ℕ) (d : DeskView) (w : WatcherView) (posts : List PostView) (now : DeskView) (es : List Event) (from : floor_of_desk d ≡ floor_after capacity es) (is : IsClosed d w posts now) where
  abbrev takes : List Event
  takes = replicate (unseen d.capacity is.row w.half) (event.Take w.key)

  abbrev closing : List Event
  closing = event.Close w.key ∷ []

  -- its watcher was there and had begun, before its last takes and behind them
  was_there : row_at watcher_key w.key (floor_after capacity es).watchers ≡ Some (late_watcher d.capacity is.row)
  was_there = ap (λ (s : FloorView). row_at watcher_key w.key s.watchers) (sym from) ∙ watcher_there d.capacity w.key d.rows is.row is.there

  began : (at : ℕ) × (slice_get (answers capacity es) at ≡ Some (Ok (Opened w.key w.half.opening)))
  began = began_there capacity es w (late_watcher d.capacity is.row) was_there is.halved.opening

  began_then : slice_get (answers capacity (es ++ takes)) began.0 ≡ Some (Ok (Opened w.key w.half.opening))
  began_then = still_at capacity es takes began.0 w.key _ began.1

  -- all that was sent to it was posted before
  sent_then : posted_since capacity (es ++ takes) began.0 w.key ≡ w.half.taken ++ posts
  sent_then =
      still_posted capacity es takes w began.0 began.1 (takes_quiet (floor_after capacity es) (unseen d.capacity is.row w.half) w.key w.key)
      ∙ sym ((in_order capacity es began.0 w.key w.half.opening began.1).row (late_watcher d.capacity is.row) was_there).0 ∙ is.halved.split

  -- the answer of the close
  answered : (floor_step (floor_after capacity (es ++ takes)) (event.Close w.key)).1 ≡ Ok (Closed posts)
  answered =
      let s = floor_after capacity es in
      let a = floor_step (run s takes).0 (event.Close w.key) in
      let both : (run s takes).1 ++ a.1 ∷ [] ≡ is.told ++ Ok (Closed posts) ∷ [] =
      sym (run_told s takes closing) ∙ ap (λ (f : FloorView). (run f (takes ++ closing)).1) (sym from) ∙ ap (λ (q : Ran). q.1) is.schedule in
      ap (λ (f : FloorView). (floor_step f (event.Close w.key)).1) (run_state (empty_floor capacity) es takes) ∙ (same_from_push (run s takes).1 is.told a.1 (Ok (Closed posts)) both).1

  -- so all takes were seen then
  taken_then : taken_since capacity (es ++ takes) began.0 w.key ≡ w.half.taken
  taken_then =
      let order = in_order capacity (es ++ takes) began.0 w.key w.half.opening began_then in
      let taken = taken_since capacity (es ++ takes) began.0 w.key in
      let c = close_answer (floor_after capacity (es ++ takes)) w.key posts answered in
      let lists = order.row c.row c.at in
      let left : posts ≡ order.not_taken = c.told ∙ (λ i. drop (length (lists.1 i)) ((lists.0 ∙ order.taken) i)) ∙ drop_at taken order.not_taken (length taken) refl in
      append_cancel_right taken w.half.taken posts (ap (λ l. taken ++ l) left ∙ sym order.taken ∙ sent_then)

  -- so what it has taken and what the close answered are all that was posted to it
  closed_follows : HasClosed capacity ((es ++ takes) ++ closing) w posts
  closed_follows =
      let at = began.0 in
      let all = (es ++ takes) ++ closing in
      let began_now = still_at capacity (es ++ takes) closing at w.key _ began_then in
      let taken =
      taken_more capacity (es ++ takes) closing at w.key _ began_then
      ∙ ap (λ (a : Result Answer Fault). taken_since capacity (es ++ takes) at w.key ++ (taken_by w.key (event.Close w.key) a ++ [])) answered
      ∙ append-nil (taken_since capacity (es ++ takes) at w.key)
      ∙ taken_then in
      let sent = still_posted capacity (es ++ takes) closing w at began_then (leave_quiet (floor_after capacity (es ++ takes)) w.key w.key) ∙ sent_then in
      let first = sent ∙ sym (append-nil (w.half.taken ++ posts)) in
      record {
        followed = taken_in_order capacity all w at began_now taken;
        rest = sent;
        run = told_in_order capacity all at w.key w.half.opening began_now (w.half.taken ++ posts) [] first;
        tables = told_tables capacity all at w.key w.half.opening began_now (w.half.taken ++ posts) [] first;
      }

-- what is said of the last call is true, wherever it led
follows : (capacity : ℕ) (d now : DeskView) (es : List Event) (last : Call) → floor_of_desk d ≡ floor_after capacity es → (is : IsCalled d last now) → floor_of_desk now ≡ floor_after capacity (es ++ (does d last now is).events)
    → LastFollows capacity (es ++ (does d last now is).events) last
unfolding does
follows capacity d now es (Apply c reply) from is to = tt
follows capacity d now es (Open scope w) from is to = tt
follows capacity d now es (Take w p w') from is to = tt
follows capacity d now es (Meet w m w') from is to = met_follows capacity d w m now w' _ to is
follows capacity d now es (Close w posts) from is to = subst (λ l. HasClosed capacity l w posts) (append_assoc es (replicate (unseen d.capacity is.row w.half) (event.Take w.key)) (event.Close w.key ∷ [])) (closed_follows capacity d w posts now es from is)
follows capacity d now es Stop from is to = tt
follows capacity d now es Nothing from is to = tt

-- one call more
call_follows : (capacity : ℕ) (d now : DeskView) (es : List Event) (last : Call) → floor_of_desk d ≡ floor_after capacity es → IsCalled d last now → AreScheduled capacity last now
call_follows capacity d now es last from is =
    let a = does d last now is in
    let to = floor_then capacity es a.events from a.schedule in
    record { events = es ++ a.events; floor = to; journal = ap (λ (s : FloorView). s.journal) to ∙ journal_told capacity (es ++ a.events); follows = follows capacity d now es last from is to }

-- so it is of every list of calls
pub calls_follow : CallsFollow
calls_follow d last now is capacity new calls fresh are = let l = led capacity new calls d [] fresh are in call_follows capacity d now l.0 last l.1 is

-- without a premise, of a desk to which events lead
pub scheduled_by : (d : DeskView) (last : Call) (now : DeskView) → HasHistory d → now.capacity ≡ d.capacity → IsCalled d last now → IsScheduledBy last now
scheduled_by d last now h same is =
    let a = call_follows d.capacity d now h.events last h.floor is in record {
      history = record {
        events = a.events;
        floor = a.floor ∙ ap (λ n. floor_after n a.events) (sym same);
        journal = a.journal ∙ ap (λ n. accepted a.events (answers n a.events)) (sym same);
      };
      follows = subst (λ n. LastFollows n a.events last) (sym same) a.follows;
    }
