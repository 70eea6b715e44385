-- Events that are put off or refused, and floors on which nothing is due: how they are reached, and what keeps them so.
use Rattle.std.proofs.Common.{◌≡◌, ◌≢◌, ℕ, zero, suc, ◌-◌, ◌≤◌, Bool, true, false, cond, not, eqb, List, [], ◌∷◌, length, replicate, Option, Some, None, Ok, Err, refl, sym, ap, ◌∙◌, subst, arith, eq-eqb}
use Rattle.std.specs.Prelude.{Result, OnErr}
use Rattle.std.specs.Option.{option_map_or}
use Rattle.std.proofs.lemmas.List.{nil_from_length}
use Rattle.mt_skel.specs.declared.fault.Fault.{Fault}
use Rattle.mt_skel.specs.declared.fault.Fault.TheVariants.{NoWatcher}
use Rattle.mt_skel.specs.Keyed.{row_at}
use Rattle.mt_propagate.proofs.SizeLaws.{few_pass}
use Rattle.mt_events.specs.Posts.{PostView}
use Rattle.mt_events.specs.declared.opening.Scope.{Scope}
use Rattle.mt_book.specs.declared.command.Command.{Command}
use Rattle.mt_floor.specs.declared.event.Event.{Event}
use Rattle.mt_floor.specs.declared.event.Event.TheVariants.{Apply, PostNext, Open, Take, Meet, Close, Stop}
use Rattle.mt_floor.specs.declared.event.Answer.{Answer}
use Rattle.mt_floor.specs.declared.event.Answer.TheVariants.{NotNow}
use Rattle.mt_floor.specs.Watcher.{Watcher, Due, watcher_key, due_for}
use Rattle.mt_floor.specs.Schedule.{FloorView, Stepped, floor_step, run, settled, if_idle, sent_to, is_full, posted, met, is_put_off}
use Rattle.mt_floor.specs.WellFormed.{IsFloor}
use Rattle.mt_floor.proofs.HeldLaws.{is_found_open}
use Rattle.mt_floor.proofs.EffectLaws.{each_event, Still, refused, still_answer}
use Rattle.mt_floor.proofs.StandingLaws.{stays}

late : (s : FloorView) (done : Stepped) (ds : List Due) (off : List Due → Bool) → off [] ≡ false → off ds ≡ true → if_idle ds s done ≡ (s, Ok NotNow)
late s done [] off none is = absurd (let bad : true ≡ false = sym is ∙ none in cc)
late s done (d ∷ ds) off none is = refl

-- one that is put off changes nothing
pub put_off : (s : FloorView) (e : Event) → is_put_off s.due e ≡ true → floor_step s e ≡ (s, Ok NotNow)
unfolding floor_step
put_off s PostNext is = absurd (cc)
put_off s (Take k) is = absurd (cc)
put_off s e is = late s _ s.due (λ ds. is_put_off ds e) refl is

-- so is a command where a post is due
pub command_put_off : (s : FloorView) (c : Command) → 1 ≤ length s.due → floor_step s (Apply c) ≡ (s, Ok NotNow)
command_put_off s c some = put_off s (Apply c) (is_off s.due some)
  where
    is_off : (ds : List Due) → 1 ≤ length ds → is_put_off ds (Apply c) ≡ true
    is_off [] few = absurd (let bad : ⊥ = omega (arith, few) in bad)
    is_off (d ∷ ds) few = refl

-- one that is refused changes nothing
pub refused_still : (s now : FloorView) (e : Event) (a : Result Answer Fault) → floor_step s e ≡ (now, a) → OnErr a (now ≡ s)
refused_still s now e a is = subst (λ (x : Stepped). OnErr x.1 (x.0 ≡ s)) is (each_event s (λ e x. OnErr x.1 (x.0 ≡ s)) (record {
  on_still = λ e a. still a;
  on_apply = λ c p none can. tt;
  on_lag = λ d ds r some at. tt;
  on_send = λ d ds r some at. tt;
  on_open = λ sc none can. tt;
  on_take = λ q r p at left. tt;
  on_close = λ q r at none. tt;
  on_stop = λ none. tt;
}) e)
  where
    still : (a : Still) → OnErr (still_answer a) (s ≡ s)
    still (refused f) = refl
    still a = tt

-- ---- Events one after another

pub settled_idle : (s : FloorView) → s.due ≡ [] → settled s ≡ s
unfolding settled
settled_idle s none = ap (λ (ds : List Due). (run s (replicate (length ds) PostNext)).0) none

-- ---- What keeps a floor idle

-- where nothing is due, only a command makes something due
keeps_idle : (s : FloorView) (e : Event) → s.due ≡ [] → ((c : Command) → e ≢ Apply c) → (floor_step s e).0.due ≡ []
keeps_idle s e idle = each_event s (λ e a. ((c : Command) → e ≢ Apply c) → a.0.due ≡ []) (record {
  on_still = λ e a other. idle;
  on_apply = λ c p none can other. absurd (other c refl);
  on_lag = λ d ds r some at other. absurd (let bad : ◌≡◌ {A = List Due} [] (d ∷ ds) = sym idle ∙ some in cc);
  on_send = λ d ds r some at other. absurd (let bad : ◌≡◌ {A = List Due} [] (d ∷ ds) = sym idle ∙ some in cc);
  on_open = λ sc none can other. idle;
  on_take = λ q r p at left other. idle;
  on_close = λ q r at none other. idle;
  on_stop = λ none other. idle;
}) e

-- so a floor with nothing due stays so through a take, a close, a stop and an opening
pub take_idle : (s : FloorView) (key : ℕ) → s.due ≡ [] → (floor_step s (Take key)).0.due ≡ []
take_idle s key none = keeps_idle s (Take key) none (λ c e. cc)

pub close_idle : (s : FloorView) (key : ℕ) → s.due ≡ [] → (floor_step s (Close key)).0.due ≡ []
close_idle s key none = keeps_idle s (Close key) none (λ c e. cc)

pub stop_idle : (s : FloorView) → s.due ≡ [] → (floor_step s Stop).0.due ≡ []
stop_idle s none = keeps_idle s Stop none (λ c e. cc)

pub open_idle : (s : FloorView) (scope : Scope) → s.due ≡ [] → (floor_step s (Open scope)).0.due ≡ []
open_idle s scope none = keeps_idle s (Open scope) none (λ c e. cc)

-- a meeting changes nothing
pub meet_same : (s : FloorView) (key : ℕ) → (floor_step s (Meet key)).0 ≡ s
unfolding floor_step
meet_same s key = by s.due (row_at watcher_key key s.watchers)
  where
    by : (ds : List Due) (o : Option Watcher) → (if_idle ds s (option_map_or (met s) o (s, Err NoWatcher))).0 ≡ s
    by (d ∷ ds) o = refl
    by [] None = refl
    by [] (Some r) = refl

-- ---- How a floor settles

-- what is due first is due to a watcher that is there, so each `PostNext` leaves fewer due
pub post_fewer : (s : FloorView) → IsFloor s → length (floor_step s PostNext).0.due ≤ length s.due - 1
unfolding floor_step
post_fewer s h = by s.due refl
  where
    sent : (d : Due) (ds : List Due) (r : Watcher) (b : Bool) → length (sent_to s d ds b r).0.due ≤ length ds
    sent d ds r true = few_pass (λ (e : Due). not (eqb e.key d.key)) ds
    sent d ds r false = omega arith

    to : (d : Due) (ds : List Due) → s.due ≡ d ∷ ds → (o : Option Watcher) → row_at watcher_key d.key s.watchers ≡ o
        → length (option_map_or (λ r. sent_to s d ds (is_full s.capacity r) r) o (s, Ok NotNow)).0.due ≤ length ds
    to d ds is None none =
        let shut = h.idle d.key (ap is_found_open none) in
        let bad : ◌≡◌ {A = List PostView} (d.post ∷ due_for d.key ds) [] =
        sym (ap (λ b. cond b (d.post ∷ due_for d.key ds) (due_for d.key ds)) (eq-eqb d.key d.key refl)) ∙ sym (ap (due_for d.key) is) ∙ shut in
        absurd (cc)
    to d ds is (Some r) at = sent d ds r (is_full s.capacity r)

    by : (ds : List Due) → s.due ≡ ds → length (posted s ds).0.due ≤ length ds - 1
    by [] none = omega (arith, ap (λ (l : List Due). length l) none)
    by (d ∷ ds) is = let more = to d ds is (row_at watcher_key d.key s.watchers) refl in omega (arith, more)

abbrev posts : ℕ → FloorView → FloorView
posts n s = (run s (replicate n PostNext)).0

pub none_due : (s : FloorView) → length s.due ≤ 0 → s.due ≡ []
none_due s low = nil_from_length s.due (omega (arith, low))

-- where nothing is due, there is nothing to be sent
post_still : (s : FloorView) → s.due ≡ [] → (floor_step s PostNext).0 ≡ s
unfolding floor_step
post_still s none = ap (λ ds. (posted s ds).0) none

posts_still : (n : ℕ) (s : FloorView) → s.due ≡ [] → posts n s ≡ s
posts_still zero s none = refl
posts_still (suc n) s none = ap (posts n) (post_still s none) ∙ posts_still n s none

-- as many as are due are enough
enough : (m n : ℕ) (s : FloorView) → IsFloor s → length s.due ≤ m → length s.due ≤ n → posts m s ≡ posts n s
enough zero n s h l k = sym (posts_still n s (none_due s l))
enough (suc m) zero s h l k = posts_still (suc m) s (none_due s k)
enough (suc m) (suc n) s h l k =
    let fewer = post_fewer s h in
    enough m n (floor_step s PostNext).0 (stays s PostNext h) (omega (arith, fewer, l)) (omega (arith, fewer, k))

pub settled_step : (s : FloorView) → IsFloor s → settled (floor_step s PostNext).0 ≡ settled s
unfolding settled
settled_step s h =
    let after = (floor_step s PostNext).0 in
    let fewer = post_fewer s h in
    enough (length after.due) (length s.due) after (stays s PostNext h) (omega arith) (omega (arith, fewer)) ∙ enough (suc (length s.due)) (length s.due) s h (omega arith) (omega arith)

-- both, as a `PostNext` tells it
pub post_told : {s now : FloorView} {a : Result Answer Fault} → IsFloor s → floor_step s PostNext ≡ (now, a) → (length now.due ≤ length s.due - 1) × (settled now ≡ settled s)
post_told {s = s} h is = subst (λ (x : Stepped). (length x.0.due ≤ length s.due - 1) × (settled x.0 ≡ settled s)) is (post_fewer s h, settled_step s h)
