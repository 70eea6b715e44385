-- Runs of a floor: takes, placed as late as they can be, posts that are sent, and what is kept.
use Rattle.std.proofs.Common.{◌≡◌, ℕ, zero, suc, ◌+◌, ◌<◌, ◌≤◌, Bool, true, false, not, List, [], ◌∷◌, ◌++◌, length, take, replicate, Option, Some, slice_get, Ok, Err, inl, inr, refl, sym, ap, ◌∙◌, subst, arith, length-append}
use Rattle.std.specs.Prelude.{Result, ◌==◌, ◌⊎◌}
use Rattle.std.specs.List.{filter, AllByRecursion}
use Rattle.std.specs.Option.{option_map_or}
use Rattle.std.proofs.lemmas.Bool.Decides.{nat_tests}
use Rattle.std.proofs.lemmas.List.{take-append-le, length-take-le}
use Rattle.std.proofs.Math.Seq.{take-append_seam}
use Rattle.mt_skel.specs.declared.fault.Fault.{Fault}
use Rattle.mt_skel.specs.declared.fault.Fault.TheVariants.{NoWatcher}
use Rattle.mt_skel.specs.Keyed.{row_at, put, rises}
use Rattle.mt_skel.proofs.KeyedLaws.{row_at-key, rises-put}
use Rattle.mt_events.specs.Posts.{PostView}
use Rattle.mt_floor.specs.declared.watch.Phase.{Phase}
use Rattle.mt_floor.specs.declared.watch.Phase.TheVariants.{Open as IsOpen, Lagged, Ended}
use Rattle.mt_floor.specs.declared.event.Event.{Event}
use Rattle.mt_floor.specs.declared.event.Event.TheVariants.{PostNext, Take}
use Rattle.mt_floor.specs.declared.event.Answer.{Answer}
use Rattle.mt_floor.specs.declared.event.Answer.TheVariants.{Posted, Took, NotNow}
use Rattle.mt_floor.specs.Watcher.{Watcher, Due, watcher_key}
use Rattle.mt_floor.specs.Schedule.{FloorView, Stepped, empty_floor, floor_step, run, changed, took, nothing_left, sent_to, is_full, posted}
use Rattle.mt_floor.specs.WellFormed.{IsFloor}
use Rattle.mt_floor.specs.Headline.{floor_after}
use Rattle.mt_floor.proofs.RowLaws.{put_same}
use Rattle.mt_floor.proofs.RunLaws.{run_state, journal_told}
use Rattle.mt_floor.proofs.GivenLaws.{floors_stay}
use Rattle.mt_desk.specs.Late.{late_count, late}
use Rattle.mt_desk.specs.Desk.{DeskRow, DeskView, IsDeskRow, IsInTime, IsDesk, HasHistory, late_watcher, floor_of_desk}
use Rattle.mt_desk.specs.Calls.{IsSend, IsDone}
use Rattle.mt_desk.specs.Sent.{with_sent_post, lagging}
use Rattle.mt_desk.proofs.RowsLaws.{put_back, put_twice}

-- ---- Events one after another

-- a floor and the answers of a run that led to it
abbrev pub Ran : Type 0
Ran = FloorView × List (Result Answer Fault)

-- one event, and then others
pub run_cons : (s : FloorView) (e : Event) (es : List Event) {a b : FloorView} {x : Result Answer Fault} {xs : List (Result Answer Fault)} → floor_step s e ≡ (a, x) → run a es ≡ (b, xs) → run s (e ∷ es) ≡ (b, x ∷ xs)
run_cons s e es {x = x} first rest = ap (λ (st : Stepped). ((run st.0 es).0, st.1 ∷ (run st.0 es).1)) first ∙ ap (λ (q : Ran). (q.0, x ∷ q.1)) rest

-- what a run keeps
pub floor_stays : (s : FloorView) (es : List Event) {s' : FloorView} {told : List (Result Answer Fault)} → IsFloor s → run s es ≡ (s', told) → IsFloor s'
floor_stays s es h is = subst IsFloor (ap (λ (q : Ran). q.0) is) (floors_stay s es h)

-- the floor after events, and then others
pub floor_then : (capacity : ℕ) (es : List Event) {s now : FloorView} (fs : List Event) {told : List (Result Answer Fault)} → s ≡ floor_after capacity es → run s fs ≡ (now, told) → now ≡ floor_after capacity (es ++ fs)
floor_then capacity es fs from is = sym (ap (λ (q : Ran). q.0) is) ∙ ap (λ (f : FloorView). (run f fs).0) from ∙ sym (run_state (empty_floor capacity) es fs)

-- a desk to whose floor these events lead
pub history_of : (d : DeskView) (es : List Event) → floor_of_desk d ≡ floor_after d.capacity es → HasHistory d
history_of d es from = record { events = es; floor = from; journal = ap (λ (s : FloorView). s.journal) from ∙ journal_told d.capacity es }

-- a desk stays one, whatever a run makes of it
pub desk_stays : (d now : DeskView) (es : List Event) {told : List (Result Answer Fault)} → IsDesk d → now.capacity ≡ d.capacity → run (floor_of_desk d) es ≡ (floor_of_desk now, told) → AllByRecursion (IsDeskRow now.capacity) now.rows → IsDesk now
desk_stays d now es h same is rows = record {
  floor = floor_stays (floor_of_desk d) es h.floor is;
  room = omega (arith, same, h.room);
  rows = rows;
  history = history_of now (h.history.events ++ es) (floor_then d.capacity h.history.events es h.history.floor is ∙ ap (λ n. floor_after n (h.history.events ++ es)) (sym same));
}

-- ---- Takes in a row

-- the next post of a list
next_post : (sent : List PostView) (k : ℕ) → k < length sent → (p : PostView) × (slice_get sent k ≡ Some p) × (take k sent ++ p ∷ [] ≡ take (k + 1) sent)
next_post [] k low = absurd (omega (arith, low))
next_post (p ∷ sent) zero low = (p, refl, refl)
next_post (q ∷ sent) (suc k) low =
    let more = next_post sent k (omega (arith, low)) in
    let count : suc (k + 1) ≡ suc k + 1 = omega arith in
    (more.0, more.1, ap (λ l. q ∷ l) more.2 ∙ ap (λ n. take n (q ∷ sent)) count)

-- a watcher that has taken so many of its posts
abbrev pub with_taken : ℕ → Watcher → Watcher
with_taken n w = record w { taken = take n w.sent }

-- one take
take_step : (s : FloorView) (key k : ℕ) (w : Watcher) → row_at watcher_key key s.watchers ≡ Some (with_taken k w) → k < length w.sent → (p : PostView) × (floor_step s (Take key) ≡ (changed s (with_taken (k + 1) w), Ok (Took (Some p))))
unfolding floor_step
take_step s key k w at low =
    let next = next_post w.sent k low in
    let there : slice_get w.sent (length (take k w.sent)) ≡ Some next.0 = ap (slice_get w.sent) (length-take-le k w.sent (omega (arith, low))) ∙ next.1 in (
      next.0,
      ap (λ o. option_map_or (took s) o (s, Err NoWatcher)) at
          ∙ ap (λ (o : Option PostView). option_map_or {U = Stepped} (λ q. (changed s (record w { taken = take k w.sent ++ q ∷ [] }), Ok (Took (Some q)))) o (s, nothing_left w.phase)) there
          ∙ ap (λ (l : List PostView). (changed s (record w { taken = l }), Ok (Took (Some next.0)))) next.2,
    )

-- and others behind it
pub takes_run : (s : FloorView) (key k n : ℕ) (w : Watcher) → row_at watcher_key key s.watchers ≡ Some (with_taken k w) → rises watcher_key s.watchers ≡ true → k + n ≤ length w.sent
    → (told : List (Result Answer Fault)) × (run s (replicate n (Take key)) ≡ (changed s (with_taken (k + n) w), told))
takes_run s key k zero w at rising within =
    let count : k + 0 ≡ k = omega arith in
    ([], ap (λ (l : List Watcher). (record s { watchers = l }, [])) (sym (ap (λ n. put watcher_key (with_taken n w) s.watchers) count ∙ put_back watcher_key key (with_taken k w) s.watchers rising at)))
takes_run s key k (suc n) w at rising within =
    let first = take_step s key k w at (omega (arith, within)) in
    let w' : Watcher = with_taken (k + 1) w in
    let there = put_same watcher_key key w' s.watchers (sym (row_at-key watcher_key key s.watchers (with_taken k w) at)) in
    let more = takes_run (changed s w') key (k + 1) n w there (rises-put watcher_key w' s.watchers rising) (omega (arith, within)) in
    let count : k + 1 + n ≡ k + suc n = omega arith in
    let once = put_twice watcher_key w' (with_taken (k + 1 + n) w) s.watchers refl ∙ ap (λ m. put watcher_key (with_taken m w) s.watchers) count in
    (Ok (Took (Some first.0)) ∷ more.0, run_cons s (Take key) (replicate n (Take key)) first.1 (more.1 ∙ ap (λ (l : List Watcher). (record s { watchers = l }, more.0)) once))

-- ---- Takes placed as late as they can be

-- so many are taken
late_length : (c met : ℕ) (sent : List PostView) → met ≤ length sent → length (late c met sent) ≡ late_count c met (length sent)
late_length c met sent within = length-take-le (late_count c met (length sent)) sent (omega (arith, within))

-- one post more: there was room for it, or the next post was taken first
counted : (c met n : ℕ) → 0 < c → met ≤ n
    → ((late_count c met (n + 1) ≡ late_count c met n) × (n < late_count c met n + c) × (late_count c met n ≤ n))
    ⊎ ((late_count c met (n + 1) ≡ late_count c met n + 1) × (n < late_count c met n + 1 + c) × (late_count c met n + 1 ≤ n))
counted c met n room within = grind arith

-- so many are taken after a post was sent
late_more : (c met : ℕ) (sent : List PostView) (p : PostView) (k : ℕ) → late_count c met (length sent + 1) ≡ k → k ≤ length sent → late c met (sent ++ p ∷ []) ≡ take k sent
late_more c met sent p k count low =
    ap (λ n. take (late_count c met n) (sent ++ p ∷ [])) (length-append sent (p ∷ [])) ∙ ap (λ n. take n (sent ++ p ∷ [])) count ∙ take-append-le k sent (p ∷ []) low

-- at a meeting the takes of the floor come to those that were done, and were no more before
pub late_met : (c : ℕ) (sent taken rest : List PostView) → sent ≡ taken ++ rest → length rest ≤ c → late c (length taken) sent ≡ taken
late_met c sent taken rest split held =
    let long = ap length split ∙ length-append taken rest in
    let count : late_count c (length taken) (length sent) ≡ length taken = omega (arith, long, held) in
    (λ i. take (count i) (split i)) ∙ take-append_seam taken rest

-- ---- Posts that are sent to the watcher of a row

-- a floor after what was due first is sent to a watcher, which is this one now
abbrev pub sent_floor : FloorView → List Due → Watcher → FloorView
sent_floor s ds w = record s { due = ds; watchers = put watcher_key w s.watchers }

-- the first post that is due is sent, or finds the queue full
post_step : (s : FloorView) {e : Due} {ds : List Due} {w : Watcher} (b : Bool) → s.due ≡ e ∷ ds → row_at watcher_key e.key s.watchers ≡ Some w → is_full s.capacity w ≡ b → floor_step s PostNext ≡ sent_to s e ds b w
unfolding floor_step
post_step s {e} {ds} {w} b due at full = ap (posted s) due ∙ ap (λ o. option_map_or (λ v. sent_to s e ds (is_full s.capacity v) v) o (s, Ok NotNow)) at ∙ ap (λ b. sent_to s e ds b w) full

-- The post that is due first is sent to the watcher of a row, after a take where its queue was full.
pub record Sends (s now : FloorView) : Type 0 where
  pub events : List Event
  pub told : List (Result Answer Fault)
  pub each : AllByRecursion IsSend events
  pub done : AllByRecursion IsDone told
  pub schedule : run s events ≡ (now, told)

-- where so many were taken that the queue has room
send_step : (s : FloorView) {e : Due} {ds : List Due} (r : DeskRow) (k : ℕ) → s.due ≡ e ∷ ds → row_at watcher_key e.key s.watchers ≡ Some (with_taken k (late_watcher s.capacity r)) → late_count s.capacity r.met (length r.sent + 1) ≡ k
    → length r.sent < k + s.capacity → k ≤ length r.sent → floor_step s PostNext ≡ (sent_floor s ds (late_watcher s.capacity (with_sent_post e.post r)), Ok (Posted e.key false))
send_step s {e} {ds} r k due at count room low =
    post_step s false due at (let size = length-take-le k r.sent low in grind (arith, nat_tests, size, room))
    ∙ ap (λ (l : List PostView). (sent_floor s ds (record (late_watcher s.capacity (with_sent_post e.post r)) { taken = l }), Ok (Posted e.key false))) (sym (late_more s.capacity r.met r.sent e.post k count low))

module _ (s : FloorView) {e : Due} {ds : List Due} (r : DeskRow) (due : s.due ≡ e ∷ ds) (at : row_at watcher_key e.key s.watchers ≡ Some (late_watcher s.capacity r)) where
  pub sent_step : 0 < s.capacity → r.met ≤ length r.sent → Sends s (sent_floor s ds (late_watcher s.capacity (with_sent_post e.post r)))
  sent_step room met = elim (counted s.capacity r.met (length r.sent) room met) [
    | inl had ↦ record {
      events = PostNext ∷ [];
      told = Ok (Posted e.key false) ∷ [];
      each = (tt, tt);
      done = (tt, tt);
      schedule = run_cons s PostNext [] (send_step s r _ due at had.0 had.1 had.2) refl;
    }
    | inr was ↦
        let k = late_count s.capacity r.met (length r.sent) in
        let w : Watcher = late_watcher s.capacity r in
        let v : Watcher = with_taken (k + 1) w in
        let first = take_step s e.key k w at (omega (arith, was.2)) in
        let there = put_same watcher_key e.key v s.watchers (sym (row_at-key watcher_key e.key s.watchers w at)) in
        let once = put_twice watcher_key v (late_watcher s.capacity (with_sent_post e.post r)) s.watchers refl in record {
          events = Take e.key ∷ PostNext ∷ [];
          told = Ok (Took (Some first.0)) ∷ Ok (Posted e.key false) ∷ [];
          each = (tt, (tt, tt));
          done = (tt, (tt, tt));
          schedule = run_cons s (Take e.key) (PostNext ∷ []) first.1 (run_cons (changed s v) PostNext [] (send_step (changed s v) r (k + 1) due there was.0 was.1 was.2) refl ∙ ap (λ (l : List Watcher). (record s { due = ds; watchers = l }, Ok (Posted e.key false) ∷ [])) once);
        }
  ]

  -- It finds the queue full, and the row lags.
  pub full_sends : r.met + s.capacity ≤ length r.sent → Sends s (sent_floor s (filter (λ (d : Due). not (d.key == e.key)) ds) (late_watcher s.capacity (lagging r)))
  full_sends full = record {
    events = PostNext ∷ [];
    told = Ok (Posted e.key true) ∷ [];
    each = (tt, tt);
    done = (tt, tt);
    schedule = run_cons s PostNext [] (post_step s true due at (let long = late_length s.capacity r.met r.sent (omega (arith, full)) in grind (arith, nat_tests, long, full))) refl;
  }

-- a row with a post more keeps what a row keeps of its meetings
more_in_time : (c n more met in_time : ℕ) (f : Phase) → n ≤ more → IsInTime c n met in_time f → IsInTime c more met in_time f
more_in_time c n more met in_time IsOpen l t = t
more_in_time c n more met in_time Ended l t = t
more_in_time c n more met in_time Lagged l t = (t.0, omega (arith, t.1, l))

pub post_keeps : (c : ℕ) (p : PostView) (r : DeskRow) → IsDeskRow c r → IsDeskRow c (with_sent_post p r)
post_keeps c p r k =
    let long = length-append r.sent (p ∷ []) in
    record { met = omega (arith, k.met, long); in_time = more_in_time c (length r.sent) (length (r.sent ++ p ∷ [])) r.met r.met_in_time r.phase (omega (arith, long)) k.in_time }

-- and so does one that lags, since its queue was full
pub lag_rule : (c : ℕ) (r : DeskRow) → r.phase ≡ IsOpen → r.met + c ≤ length r.sent → IsDeskRow c r → IsDeskRow c (lagging r)
lag_rule c r is full k =
    let same : r.met_in_time ≡ r.met = subst (IsInTime c (length r.sent) r.met r.met_in_time) is k.in_time in
    record { met = k.met; in_time = (omega (arith, same), omega (arith, same, full)) }
