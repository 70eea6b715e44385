-- What was done since an event, once more events follow; and events that post nothing.
use Rattle.std.proofs.Common.{◌≡◌, ◌≢◌, ℕ, zero, suc, ◌-◌, ◌≤◌, List, [], ◌∷◌, ◌++◌, length, take, drop, replicate, Some, slice_get, refl, sym, ap, ◌∙◌, arith, append_assoc}
use Rattle.std.specs.Prelude.{Result}
use Rattle.std.proofs.lemmas.List.{take-append-le, drop-append-le, drop_at, length-drop}
use Rattle.std.proofs.lemmas.Option.{slice_get_within}
use Rattle.mt_skel.specs.declared.fault.Fault.{Fault}
use Rattle.mt_skel.proofs.MiddleLaws.{get_mid}
use Rattle.mt_events.specs.Posts.{PostView}
use Rattle.mt_floor.specs.declared.event.Event.{Event}
use Rattle.mt_floor.specs.declared.event.Event.TheVariants.{PostNext, Take, Close}
use Rattle.mt_floor.specs.declared.event.Answer.{Answer}
use Rattle.mt_floor.specs.Watcher.{Due}
use Rattle.mt_floor.specs.Schedule.{FloorView, empty_floor, floor_step, run}
use Rattle.mt_floor.specs.Headline.{answers, floor_after, taken_by, taken_posts, posted_by, posted_to, taken_since, posted_since, given_by, given_posts, given_since}
use Rattle.mt_floor.proofs.RunLaws.{run_told, run_split, get_left}
use Rattle.mt_floor.proofs.EffectLaws.{Still, emptied, still_answer, each_event}

-- each event has one answer
pub told_count : (s : FloorView) (es : List Event) → length (run s es).1 ≡ length es
told_count s [] = refl
told_count s (e ∷ es) = ap (λ n. suc n) (told_count (floor_step s e).0 es)

-- events, and then others
pub posted_to-append : (key : ℕ) (s : FloorView) (xs ys : List Event) → posted_to key s (xs ++ ys) ≡ posted_to key s xs ++ posted_to key (run s xs).0 ys
posted_to-append key s [] ys = refl
posted_to-append key s (x ∷ xs) ys =
    let a = floor_step s x in
    ap (λ l. posted_by key s.due a.1 ++ l) (posted_to-append key a.0 xs ys) ∙ sym (append_assoc (posted_by key s.due a.1) (posted_to key a.0 xs) (posted_to key (run a.0 xs).0 ys))

-- lists that are gathered from events and their answers
module _ (by : Event → Result Answer Fault → List PostView) (all : List Event → List (Result Answer Fault) → List PostView) (none : all [] [] ≡ [])
    (one : (e : Event) (es : List Event) (a : Result Answer Fault) (ans : List (Result Answer Fault)) → all (e ∷ es) (a ∷ ans) ≡ by e a ++ all es ans) where
  gathered-append : (xs ys : List Event) (told more : List (Result Answer Fault)) → length told ≡ length xs → all (xs ++ ys) (told ++ more) ≡ all xs told ++ all ys more
  gathered-append [] ys [] more e = ap (λ l. l ++ all ys more) (sym none)
  gathered-append [] ys (a ∷ told) more e = absurd (omega (arith, e))
  gathered-append (x ∷ xs) ys [] more e = absurd (omega (arith, e))
  gathered-append (x ∷ xs) ys (a ∷ told) more e =
      one x (xs ++ ys) a (told ++ more) ∙ ap (λ l. by x a ++ l) (gathered-append xs ys told more (omega (arith, e))) ∙ sym (append_assoc (by x a) (all xs told) (all ys more)) ∙ ap (λ l. l ++ all ys more) (sym (one x xs a told))

pub given_posts-append : (key : ℕ) (xs ys : List Event) (told more : List (Result Answer Fault)) → length told ≡ length xs → given_posts key (xs ++ ys) (told ++ more) ≡ given_posts key xs told ++ given_posts key ys more
given_posts-append key = gathered-append (given_by key) (given_posts key) refl (λ e es a ans. refl)

-- since an event
module _ (capacity : ℕ) (xs ys : List Event) (at key : ℕ) (a : Result Answer Fault) (is : slice_get (answers capacity xs) at ≡ Some a) where
  pub still_at : slice_get (answers capacity (xs ++ ys)) at ≡ Some a
  still_at = ap (λ l. slice_get l at) (run_told (empty_floor capacity) xs ys) ∙ get_left (answers capacity xs) (run (floor_after capacity xs) ys).1 at is

  within : at ≤ length xs
  within = omega (arith, slice_get_within (answers capacity xs) at a is, told_count (empty_floor capacity) xs)

  pub posted_more : posted_since capacity (xs ++ ys) at key ≡ posted_since capacity xs at key ++ posted_to key (floor_after capacity xs) ys
  posted_more =
      (λ i. posted_to key (floor_after capacity (take-append-le at xs ys within i)) (drop-append-le at xs ys within i))
      ∙ posted_to-append key (floor_after capacity (take at xs)) (drop at xs) ys
      ∙ (λ i. posted_since capacity xs at key ++ posted_to key (run_split (empty_floor capacity) xs at i).0 ys)

  pub taken_more : taken_since capacity (xs ++ ys) at key ≡ taken_since capacity xs at key ++ taken_posts key ys (run (floor_after capacity xs) ys).1
  taken_more =
      let told = answers capacity xs in
      let more = (run (floor_after capacity xs) ys).1 in
      let count = told_count (empty_floor capacity) xs in
      let all : drop at (answers capacity (xs ++ ys)) ≡ drop at told ++ more = ap (drop at) (run_told (empty_floor capacity) xs ys) ∙ drop-append-le at told more (omega (arith, within, count)) in
      (λ i. taken_posts key (drop-append-le at xs ys within i) (all i))
      ∙ gathered-append (taken_by key) (taken_posts key) refl (λ e es a ans. refl) (drop at xs) ys (drop at told) more (length-drop at told ∙ ap (λ n. n - at) count ∙ sym (length-drop at xs))

-- since the end of some events
pub given_behind : (capacity : ℕ) (xs ys : List Event) (key : ℕ) → given_since capacity (xs ++ ys) (length xs) key ≡ given_posts key ys (run (floor_after capacity xs) ys).1
given_behind capacity xs ys key =
    let told = answers capacity xs in
    let more = (run (floor_after capacity xs) ys).1 in
    λ i. given_posts key (drop_at xs ys (length xs) refl i) ((ap (drop (length xs)) (run_told (empty_floor capacity) xs ys) ∙ drop_at told more (length xs) (told_count (empty_floor capacity) xs)) i)

-- the answer after some events
pub at_seam : (capacity : ℕ) (xs : List Event) (e : Event) (ys : List Event) → slice_get (answers capacity (xs ++ e ∷ ys)) (length xs) ≡ Some (floor_step (floor_after capacity xs) e).1
at_seam capacity xs e ys =
    let a = floor_step (floor_after capacity xs) e in
    ap (λ l. slice_get l (length xs)) (run_told (empty_floor capacity) xs (e ∷ ys))
    ∙ ap (slice_get (answers capacity xs ++ a.1 ∷ (run a.0 ys).1)) (sym (told_count (empty_floor capacity) xs))
    ∙ get_mid (answers capacity xs) (run a.0 ys).1 a.1

-- only the sending of a due post posts
quiet : (s : FloorView) (e : Event) (key : ℕ) (due : List Due) → e ≢ PostNext → posted_by key due (floor_step s e).1 ≡ []
quiet s e key due = each_event s (λ e a. e ≢ PostNext → posted_by key due a.1 ≡ []) (record {
  on_still = λ e a other. still a;
  on_apply = λ c p none can other. refl;
  on_lag = λ d ds r some at other. refl;
  on_send = λ d ds r some at other. absurd (other refl);
  on_open = λ sc none can other. refl;
  on_take = λ q r p at left other. refl;
  on_close = λ q r at none other. refl;
  on_stop = λ none other. refl;
}) e
  where
    still : (a : Still) → posted_by key due (still_answer a) ≡ []
    still emptied = refl
    still a = refl

-- so takes post nothing, and no more does a close
pub takes_quiet : (s : FloorView) (n k key : ℕ) → posted_to key s (replicate n (Take k)) ≡ []
takes_quiet s zero k key = refl
takes_quiet s (suc n) k key = ap (λ l. l ++ posted_to key (floor_step s (Take k)).0 (replicate n (Take k))) (quiet s (Take k) key s.due (λ e. cc)) ∙ takes_quiet (floor_step s (Take k)).0 n k key

pub leave_quiet : (s : FloorView) (k key : ℕ) → posted_to key s (Close k ∷ []) ≡ []
leave_quiet s k key = ap (λ l. l ++ []) (quiet s (Close k) key s.due (λ e. cc))
