-- What the lines of a session do to a floor, and what they give of a watcher.
use Rattle.std.proofs.Common.{◌≡◌, ◌∙◌, ℕ, Bool, true, false, cond, List, [], ◌∷◌, ◌++◌, length, replicate, Option, Some, None, slice_get, Ok, Err, refl, sym, ap, subst, zero, suc, ◌≤◌, take, drop, arith, length-append, Result, ◌==◌, if◌then◌else◌}
use Rattle.std.specs.Option.{option_map_or}
use Rattle.mt_skel.specs.declared.fault.Fault.{Fault}
use Rattle.mt_skel.specs.declared.fault.Fault.TheVariants.{NoWatcher}
use Rattle.mt_events.specs.Posts.{PostView}
use Rattle.mt_events.specs.declared.opening.Scope.{Scope}
use Rattle.mt_floor.specs.declared.event.Event.{Event}
use Rattle.mt_floor.specs.declared.event.Event.TheVariants.{Apply, PostNext, Open, Take as TakePost, Close as CloseWatcher, Stop as StopFloor}
use Rattle.mt_floor.specs.declared.event.Answer.{Answer}
use Rattle.mt_floor.specs.declared.event.Answer.TheVariants.{Opened, Took, Closed}
use Rattle.mt_floor.specs.Watcher.{opening_of, Watcher, watcher_key}
use Rattle.mt_floor.specs.Schedule.{FloorView, floor_step, run, settled, unless, if_idle, opened, opening_refusal, waiting, Stepped, changed, took, closed, nothing_left}
use Rattle.mt_floor.specs.WellFormed.{IsFloor}
use Rattle.mt_floor.specs.Headline.{given_by, given_posts, takes_from, closes}
use Rattle.mt_floor.proofs.BeginLaws.{opens}
use Rattle.mt_floor.proofs.RunLaws.{run_state, run_told}
use Rattle.mt_floor.proofs.SettledLaws.{open_idle, close_idle, stop_idle}
use Rattle.mt_floor.proofs.StandingLaws.{stays}
use Rattle.mt_floor.proofs.GivenLaws.{begun_waits, floors_stay}
use Rattle.mt_floor.proofs.SinceLaws.{told_count, given_posts-append}
use Rattle.mt_floor.proofs.FloorLaws.{nothing}
use Rattle.mt_requests.specs.declared.request.Request.{Request}
use Rattle.mt_requests.specs.declared.request.Request.TheVariants.{Run, Watch, Take, Follow, Close, Stop}
use Rattle.mt_session.specs.Requests.{SessionState, session_state, state_to, next_posts, begins_watcher, begun, left}
use Rattle.mt_session.specs.Session.{Turn, Growth, Granted, Refused, Unshown, request_of_line, may_fail, may_be_unshown, granted_state, state_with, state_after_turn, state_after}
use Rattle.mt_session.specs.Headline.{sends, leaves, events_to, granted_events, events_with, events_of, session_events, of_key, told_to, granted_told, told_with, told_by, session_told}
use Rattle.std.proofs.lemmas.List.{append-nil}
use Rattle.mt_skel.specs.Keyed.{row_at}
use Rattle.mt_skel.proofs.KeyedLaws.{row_at-key}
use Rattle.mt_floor.proofs.RowLaws.{put_same}
use Rattle.std.proofs.Math.Seq.{take-nil}
use Rattle.mt_session.proofs.TurnLaws.{close_step, takes_idle, settled_due}

-- ---- events that give nothing

gives_none : (key : ℕ) (e : Event) (a : Result Answer Fault) → takes_from key e ≡ false → closes key e ≡ false → given_by key e a ≡ []
gives_none key e (Ok (Took p)) t c = rw t refl
gives_none key e (Ok (Closed ps)) t c = rw c refl
gives_none key e a t c = refl

one_none : (key : ℕ) (s : FloorView) (e : Event) → takes_from key e ≡ false → closes key e ≡ false → given_posts key (e ∷ []) (run s (e ∷ [])).1 ≡ []
one_none key s e t c = ap (λ l. l ++ []) (gives_none key e (floor_step s e).1 t c)

posts_none : (key n : ℕ) (s : FloorView) → given_posts key (replicate n PostNext) (run s (replicate n PostNext)).1 ≡ []
posts_none key zero s = refl
posts_none key (suc n) s =
    ap (λ l. l ++ given_posts key (replicate n PostNext) (run (floor_step s PostNext).0 (replicate n PostNext)).1) (gives_none key PostNext (floor_step s PostNext).1 refl refl)
    ∙ posts_none key n (floor_step s PostNext).0

-- a command and its posts
command_none : (key : ℕ) (s : FloorView) (e : Event) → takes_from key e ≡ false → closes key e ≡ false
    → given_posts key (e ∷ sends (floor_step s e).0) (run s (e ∷ sends (floor_step s e).0)).1 ≡ []
command_none key s e t c =
    let a = floor_step s e in
    ap (λ l. l ++ given_posts key (sends a.0) (run a.0 (sends a.0)).1) (gives_none key e a.1 t c) ∙ posts_none key (length a.0.due) a.0

-- ---- takes

-- the next one of a list, and those behind it
behind : (ps : List PostView) (i : ℕ) → 1 ≤ length (drop i ps) → (p : PostView) × (slice_get ps i ≡ Some p) × (drop i ps ≡ p ∷ drop (suc i) ps)
behind [] zero l = absurd (omega (arith, l))
behind [] (suc i) l = absurd (omega (arith, l))
behind (p ∷ ps) zero l = (p, refl, refl)
behind (p ∷ ps) (suc i) l = behind ps i l

one_taken : (s : FloorView) (own : ℕ) (r : Watcher) (p : PostView) → row_at watcher_key own s.watchers ≡ Some r → slice_get r.sent (length r.taken) ≡ Some p
    → floor_step s (TakePost own) ≡ (changed s (record r { taken = r.taken ++ p ∷ [] }), Ok (Took (Some p)))
unfolding floor_step
one_taken s own r p at next =
    ap (λ o. option_map_or (took s) o (s, Err NoWatcher)) at
    ∙ ap (λ (o : Option PostView). option_map_or {U = Stepped} (λ q. (changed s (record r { taken = r.taken ++ q ∷ [] }), Ok (Took (Some q)))) o (s, nothing_left r.phase)) next

-- takes in a row give the next posts
takes_give : (n : ℕ) (s : FloorView) (key own : ℕ) (r : Watcher) → row_at watcher_key own s.watchers ≡ Some r → n ≤ length (drop (length r.taken) r.sent)
    → given_posts key (replicate n (TakePost own)) (run s (replicate n (TakePost own))).1 ≡ cond (own == key) (take n (drop (length r.taken) r.sent)) []
takes_give zero s key own r at l = sym (nothing (own == key))
takes_give (suc n) s key own r at l =
    let next = behind r.sent (length r.taken) (omega (arith, l)) in
    let r' : Watcher = record r { taken = r.taken ++ next.0 ∷ [] } in
    let count : length r'.taken ≡ suc (length r.taken) = omega (arith, length-append r.taken (next.0 ∷ [])) in
    let rest : drop (length r.taken) r.sent ≡ next.0 ∷ drop (length r'.taken) r'.sent = next.2 ∙ ap (λ k. next.0 ∷ drop k r.sent) (sym count) in
    let there : row_at watcher_key own (changed s r').watchers ≡ Some r' = put_same watcher_key own r' s.watchers (sym (row_at-key watcher_key own s.watchers r at)) in
    let more = takes_give n (changed s r') key own r' there (omega (arith, l, ap (λ (x : List PostView). length x) rest)) in
    let joined : (b : Bool) → cond b (next.0 ∷ []) [] ++ cond b (take n (drop (length r'.taken) r'.sent)) [] ≡ cond b (next.0 ∷ take n (drop (length r'.taken) r'.sent)) [] = λ b. grind arith in
    ap (λ (a : Stepped). given_by key (TakePost own) a.1 ++ given_posts key (replicate n (TakePost own)) (run a.0 (replicate n (TakePost own))).1) (one_taken s own r next.0 at next.1)
    ∙ ap (λ l. cond (own == key) (next.0 ∷ []) [] ++ l) more
    ∙ joined (own == key)
    ∙ ap (λ l. cond (own == key) (take (suc n) l) []) (sym rest)

few : (k : ℕ) (ps : List PostView) → (length (take k ps) ≤ length ps) × (take (length (take k ps)) ps ≡ take k ps)
few zero ps = (omega arith, refl)
few (suc k) [] = (omega arith, refl)
few (suc k) (p ∷ ps) = let more = few k ps in (omega (arith, more.0), ap (λ l. p ∷ l) more.1)

-- as many as a request asks for
takes_given : (s : FloorView) (key own k : ℕ)
    → given_posts key (replicate (length (next_posts s own k)) (TakePost own)) (run s (replicate (length (next_posts s own k)) (TakePost own))).1 ≡ cond (own == key) (next_posts s own k) []
takes_given s key own k =
    let left : Option Watcher → List PostView = λ o. option_map_or (λ (r : Watcher). drop (length r.taken) r.sent) o [] in
    elim (row_at watcher_key own s.watchers) as (λ o. row_at watcher_key own s.watchers ≡ o → given_posts key (replicate (length (take k (left o))) (TakePost own)) (run s (replicate (length (take k (left o))) (TakePost own))).1 ≡ cond (own == key) (take k (left o)) []) [
      | None ↦ λ at. rw (take-nil k) (sym (nothing (own == key)))
      | Some r ↦ λ at. let f = few k (left (Some r)) in takes_give (length (take k (left (Some r)))) s key own r at f.0 ∙ ap (λ l. cond (own == key) l []) f.1
    ] refl

-- ---- a close

close_given : (s : FloorView) (key own : ℕ) → s.due ≡ [] → given_posts key (CloseWatcher own ∷ []) (run s (CloseWatcher own ∷ [])).1 ≡ cond (own == key) (waiting s own) []
close_given s key own idle =
    elim (row_at watcher_key own s.watchers) as (λ o. floor_step s (CloseWatcher own) ≡ option_map_or (closed s) o (s, Err NoWatcher) → given_by key (CloseWatcher own) (floor_step s (CloseWatcher own)).1 ++ [] ≡ cond (own == key) (option_map_or (λ (r : Watcher). drop (length r.taken) r.sent) o []) []) [
      | None ↦ λ e. ap (λ (a : Stepped). given_by key (CloseWatcher own) a.1 ++ []) e ∙ sym (nothing (own == key))
      | Some r ↦ λ e. ap (λ (a : Stepped). given_by key (CloseWatcher own) a.1 ++ []) e ∙ append-nil (cond (own == key) (drop (length r.taken) r.sent) [])
    ] (close_step s idle own)

-- ---- what lines do

-- the floor of a session's state is well-formed, and nothing is due on it
pub record Rests (s : SessionState) : Type 0 where
  pub floor : IsFloor s.floor
  pub idle : s.floor.due ≡ []

-- what events do to a floor, and what they give the watcher of a key
pub record Turns (key : ℕ) (s now : SessionState) (es : List Event) (told : List PostView) : Type 0 where
  pub floor : (run s.floor es).0 ≡ now.floor
  pub given : given_posts key es (run s.floor es).1 ≡ told
  pub idle : now.floor.due ≡ []

still : {key : ℕ} {s : SessionState} → s.floor.due ≡ [] → Turns key s s [] []
still idle = record { floor = refl; given = refl; idle = idle }

-- ---- requests

takes_turn : (key : ℕ) (s : SessionState) (k : ℕ) → s.floor.due ≡ [] → (w : Option ℕ)
    → Turns key s (option_map_or (λ own. record s { floor = (run s.floor (replicate (length (next_posts s.floor own k)) (TakePost own))).0 }) w s)
    (option_map_or (λ own. replicate (length (next_posts s.floor own k)) (TakePost own)) w [])
    (option_map_or (λ own. cond (own == key) (next_posts s.floor own k) []) w [])
takes_turn key s k idle None = still idle
takes_turn key s k idle (Some own) = record {
  floor = refl;
  given = takes_given s.floor key own k;
  idle = takes_idle (length (next_posts s.floor own k)) s.floor own idle;
}

pub leaves_turn : (key : ℕ) (s : SessionState) → s.floor.due ≡ [] → (w : Option ℕ)
    → Turns key s (option_map_or (λ own. session_state (floor_step s.floor (CloseWatcher own)).0 None) w s) (option_map_or (λ own. CloseWatcher own ∷ []) w []) (option_map_or (λ own. cond (own == key) (waiting s.floor own) []) w [])
leaves_turn key s idle None = still idle
leaves_turn key s idle (Some own) = record {
  floor = refl;
  given = close_given s.floor key own idle;
  idle = close_idle s.floor own idle;
}

watch_turn : (key : ℕ) (s : SessionState) (scope : Scope) → s.floor.due ≡ [] → (w : Option ℕ)
    → Turns key s (option_map_or (λ own. s) w (begun s.floor scope)) (option_map_or (λ own. []) w (Open scope ∷ [])) []
watch_turn key s scope idle None = record {
  floor = refl;
  given = one_none key s.floor (Open scope) refl refl;
  idle = open_idle s.floor scope idle;
}
watch_turn key s scope idle (Some own) = still idle

request_turn : (key : ℕ) (s : SessionState) (r : Request) → Rests s → Turns key s (state_to s r) (events_to s r) (told_to key s r)
unfolding state_to events_to told_to settled
request_turn key s (Run c) h = record {
  floor = refl;
  given = command_none key s.floor (Apply c) refl refl;
  idle = settled_due (floor_step s.floor (Apply c)).0 (stays s.floor (Apply c) h.floor);
}
request_turn key s (Watch scope) h = watch_turn key s scope h.idle s.watcher
request_turn key s (Take k) h = takes_turn key s k h.idle s.watcher
request_turn key s (Follow k) h = takes_turn key s k h.idle s.watcher
request_turn key s Close h = leaves_turn key s h.idle s.watcher
request_turn key s Stop h = record {
  floor = refl;
  given = one_none key s.floor StopFloor refl refl;
  idle = stop_idle s.floor h.idle;
}
request_turn key s r h = still h.idle

granted_turn : (key : ℕ) (s : SessionState) (q : Result Request Fault) → Rests s → Turns key s (granted_state s q) (granted_events s q) (granted_told key s q)
granted_turn key s (Ok r) h = request_turn key s r h
granted_turn key s (Err f) h = still h.idle

-- behind these events the floor is well-formed too, and nothing is due on it
pub turn_rests : {key : ℕ} {s now : SessionState} {es : List Event} {told : List PostView} → Rests s → Turns key s now es told → Rests now
turn_rests {s = s} {es = es} h t = record { floor = subst IsFloor t.floor (floors_stay s.floor es h.floor); idle = t.idle }

-- ---- lines

-- events, and then others
both : {key : ℕ} {s mid now : SessionState} {es fs : List Event} {told more : List PostView} → Turns key s mid es told → Turns key mid now fs more → Turns key s now (es ++ fs) (told ++ more)
both {key} {s} {es = es} {fs = fs} {told = told} a b = record {
  floor = run_state s.floor es fs ∙ ap (λ (f : FloorView). (run f fs).0) a.floor ∙ b.floor;
  given =
      ap (given_posts key (es ++ fs)) (run_told s.floor es fs)
      ∙ given_posts-append key es fs (run s.floor es).1 (run (run s.floor es).0 fs).1 (told_count s.floor es)
      ∙ (λ i. a.given i ++ given_posts key fs (run (a.floor i) fs).1)
      ∙ ap (λ l. told ++ l) b.given;
  idle = b.idle;
}

-- a watcher that begins
pub open_told : (f : FloorView) (scope : Scope) → f.due ≡ [] → opening_refusal f scope ≡ None → (floor_step f (Open scope)).1 ≡ Ok (Opened f.next_key (opening_of f.journal scope))
unfolding floor_step
open_told f scope idle none =
    ap (λ ds. (if_idle ds f (opened f scope)).1) idle ∙ ap (λ o. (unless o f (opens f scope, Ok (Opened f.next_key (opening_of f.journal scope)))).1) none

-- what is told where it is closed again: it had no post
unshown_watch : (key : ℕ) (f : FloorView) (scope : Scope) → IsFloor f → f.due ≡ [] → (o : Option Fault) → opening_refusal f scope ≡ o
    → option_map_or (λ own. cond (own == key) (waiting (floor_step f (Open scope)).0 own) []) (option_map_or (λ x. None) o (Some f.next_key)) [] ≡ []
unshown_watch key f scope h idle None none =
    ap (λ l. cond (f.next_key == key) l []) (begun_waits f (Open scope) h f.next_key (opening_of f.journal scope) (open_told f scope idle none)) ∙ nothing (f.next_key == key)
unshown_watch key f scope h idle (Some x) some = refl

unshown_none : (key : ℕ) (f : FloorView) (w : Option ℕ) (r : Request) → IsFloor f → f.due ≡ [] → begins_watcher (session_state f w) r ≡ true
    → (told_to key (session_state f w) r ≡ []) × (of_key key (state_to (session_state f w) r) (λ own. waiting (state_to (session_state f w) r).floor own) ≡ [])
unfolding state_to told_to
unshown_none key f (Some own) r h idle is = absurd (cc)
unshown_none key f None (Watch scope) h idle is = (refl, unshown_watch key f scope h idle (opening_refusal f scope) refl)
unshown_none key f None r h idle is = absurd (cc)

unshown_turn : (key : ℕ) (s : SessionState) (q : Result Request Fault) → Rests s → may_be_unshown s q ≡ true → Turns key s (left (granted_state s q)) (granted_events s q ++ leaves (granted_state s q)) []
unshown_turn key s (Err f) h is = absurd (cc)
unshown_turn key s (Ok r) h is =
    let first = request_turn key s r h in
    let all = both first (leaves_turn key (state_to s r) first.idle (state_to s r).watcher) in
    let none = unshown_none key s.floor s.watcher r h.floor h.idle is in
    record { floor = all.floor; given = all.given ∙ (λ i. none.0 i ++ none.1 i); idle = all.idle }

-- where want of memory stands in place of an answer, other events came, which tell nothing
unless_turn : (key : ℕ) (s other : SessionState) (q : Result Request Fault) (es : List Event) (b : Bool) → Rests s → (b ≡ true → Turns key s other es [])
    → Turns key s (if b then other else granted_state s q) (if b then es else granted_events s q) (if b then [] else granted_told key s q)
unless_turn key s other q es true h wants = wants refl
unless_turn key s other q es false h wants = granted_turn key s q h

line_with : (key : ℕ) (s : SessionState) (g : Growth) (q : Result Request Fault) → Rests s → Turns key s (state_with s g q) (events_with s g q) (told_with key s g q)
line_with key s Granted q h = granted_turn key s q h
line_with key s Refused q h = unless_turn key s s q [] (may_fail s q) h (λ is. still h.idle)
line_with key s Unshown q h = unless_turn key s (left (granted_state s q)) q (granted_events s q ++ leaves (granted_state s q)) (may_be_unshown s q) h (unshown_turn key s q h)

pub line_turn : (key : ℕ) (s : SessionState) (turn : Turn) → Rests s → Turns key s (state_after_turn s turn) (events_of s turn) (told_by key s turn)
unfolding state_after_turn events_of told_by
line_turn key s turn h = line_with key s turn.growth (request_of_line turn.line) h

-- what lines do to a floor, one after another, and what they tell of a watcher
pub lines_turn : (key : ℕ) (turns : List Turn) (s : SessionState) → Rests s → Turns key s (state_after turns s) (session_events turns s) (session_told key turns s)
lines_turn key [] s h = still h.idle
lines_turn key (turn ∷ turns) s h = let first = line_turn key s turn h in both first (lines_turn key turns (state_after_turn s turn) (turn_rests h first))
