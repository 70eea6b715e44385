-- Lists of events: cut in two, and what they keep.
use Rattle.std.proofs.Common.{◌≡◌, ℕ, zero, suc, ◌+◌, ◌<◌, true, false, List, [], ◌∷◌, ◌++◌, take, drop, Some, slice_get, refl, sym, ap, ◌∙◌, arith, append_assoc}
use Rattle.std.specs.Prelude.{Result}
use Rattle.std.proofs.lemmas.List.{append-nil}
use Rattle.std.proofs.lemmas.Option.{slice_get_past}
use Rattle.mt_skel.proofs.ElementLaws.{get_in}
use Rattle.mt_skel.specs.declared.fault.Fault.{Fault}
use Rattle.mt_events.specs.Posts.{PostView}
use Rattle.mt_events.specs.declared.opening.Scope.{Scope}
use Rattle.mt_events.specs.declared.opening.Scope.TheVariants.{All}
use Rattle.mt_book.specs.declared.command.Command.{Command}
use Rattle.mt_floor.specs.declared.event.Event.{Event}
use Rattle.mt_floor.specs.declared.event.Answer.{Answer}
use Rattle.mt_floor.specs.Schedule.{FloorView, empty_floor, floor_step, run, has_open}
use Rattle.mt_floor.specs.Headline.{accepted_by, accepted, taken_by, taken_posts, posted_by, posted_to, posts_to, ends_watcher, answers, floor_after, accepted_before}
use Rattle.mt_floor.proofs.HeldLaws.{Kept, Held, held_same, no_row}
use Rattle.mt_floor.proofs.FloorLaws.{goes}

-- some events, and then others
pub run_state : (s : FloorView) (xs ys : List Event) → (run s (xs ++ ys)).0 ≡ (run (run s xs).0 ys).0
run_state s [] ys = refl
run_state s (x ∷ xs) ys = run_state (floor_step s x).0 xs ys

pub run_told : (s : FloorView) (xs ys : List Event) → (run s (xs ++ ys)).1 ≡ (run s xs).1 ++ (run (run s xs).0 ys).1
run_told s [] ys = refl
run_told s (x ∷ xs) ys = ap (λ l. (floor_step s x).1 ∷ l) (run_told (floor_step s x).0 xs ys)

pub run_take : (s : FloorView) (es : List Event) (n : ℕ) → (run s (take n es)).1 ≡ take n (run s es).1
run_take s es zero = refl
run_take s [] (suc n) = refl
run_take s (e ∷ es) (suc n) = ap (λ l. (floor_step s e).1 ∷ l) (run_take (floor_step s e).0 es n)

pub run_split : (s : FloorView) (es : List Event) (n : ℕ) → run (run s (take n es)).0 (drop n es) ≡ ((run s es).0, drop n (run s es).1)
run_split s es zero = refl
run_split s [] (suc n) = refl
run_split s (e ∷ es) (suc n) = run_split (floor_step s e).0 es n

-- an element after the first ones, or among them
pub get_drop : {X : Type 0} (xs : List X) (n i : ℕ) → slice_get (drop n xs) i ≡ slice_get xs (n + i)
get_drop xs zero i = ap (slice_get xs) (omega arith)
get_drop [] (suc n) i = sym (slice_get_past [] (suc n + i) (omega arith))
get_drop (x ∷ xs) (suc n) i = let more : suc n + i ≡ suc (n + i) = omega arith in get_drop xs n i ∙ ap (slice_get (x ∷ xs)) (sym more)

pub get_take : {X : Type 0} (xs : List X) (m n : ℕ) → n < m → slice_get (take m xs) n ≡ slice_get xs n
get_take xs zero n l = absurd (omega (arith, l))
get_take [] (suc m) n l = refl
get_take (x ∷ xs) (suc m) zero l = refl
get_take (x ∷ xs) (suc m) (suc n) l = get_take xs m n (omega (arith, l))

pub get_left : {X : Type 0} (xs ys : List X) (n : ℕ) {x : X} → slice_get xs n ≡ Some x → slice_get (xs ++ ys) n ≡ Some x
get_left [] ys n e = absurd (get_in [] n _ e)
get_left (z ∷ xs) ys zero e = e
get_left (z ∷ xs) ys (suc n) e = get_left xs ys n e

-- the answers after some events
pub told_behind : (capacity : ℕ) (es : List Event) (n i : ℕ) → slice_get (run (floor_after capacity (take n es)) (drop n es)).1 i ≡ slice_get (answers capacity es) (n + i)
told_behind capacity es n i = (λ j. slice_get (run_split (empty_floor capacity) es n j).1 i) ∙ get_drop (answers capacity es) n i

pub told_next : (capacity : ℕ) (es : List Event) (n : ℕ) → slice_get (run (floor_after capacity (take n es)) (drop n es)).1 0 ≡ slice_get (answers capacity es) n
told_next capacity es n = let here : n + 0 ≡ n = omega arith in told_behind capacity es n 0 ∙ ap (slice_get (answers capacity es)) here

-- an answer among the first ones
pub told_front : (capacity : ℕ) (es : List Event) (n i : ℕ) → i < n → slice_get (answers capacity (take n es)) i ≡ slice_get (answers capacity es) i
told_front capacity es n i l = ap (λ a. slice_get a i) (run_take (empty_floor capacity) es n) ∙ get_take (answers capacity es) n i l

-- what a run does to the watcher of a key
pub record Ran (key : ℕ) (scope : Scope) (before since : List Command) (sent taken : List PostView) (s : FloorView) (es : List Event) : Type 0 where
  pub kept : Kept (run s es).0
  pub held : Held key scope before (since ++ accepted es (run s es).1) (sent ++ posted_to key s es) (taken ++ taken_posts key es (run s es).1) (run s es).0

pub ran : {key : ℕ} {scope : Scope} {before since : List Command} {sent taken : List PostView} {s : FloorView} → Kept s → Held key scope before since sent taken s → (es : List Event) → Ran key scope before since sent taken s es
ran k h [] = record { kept = k; held = held_same (sym (append-nil _)) (sym (append-nil _)) (sym (append-nil _)) h }
ran {key = key} {since = since} {sent = sent} {taken = taken} {s = s} k h (e ∷ es) =
    let a = floor_step s e in
    let g = goes k h e in
    let r = ran {since = since ++ accepted_by e a.1} {sent = sent ++ posted_by key s.due a.1} {taken = taken ++ taken_by key e a.1} {s = a.0} g.kept g.held es in
    let ans = (run a.0 es).1 in
    record { kept = r.kept; held = held_same (append_assoc since (accepted_by e a.1) (accepted es ans)) (append_assoc sent (posted_by key s.due a.1) (posted_to key a.0 es)) (append_assoc taken (taken_by key e a.1) (taken_posts key es ans)) r.held }

-- a watcher that is not open gets no post any more, and no answer posts to it
pub ran_shut : {key : ℕ} {scope : Scope} {before since : List Command} {sent taken : List PostView} {s : FloorView} → Kept s → Held key scope before since sent taken s → has_open key s ≡ false
    → (es : List Event) → (posted_to key s es ≡ []) × ((i : ℕ) (b : Result Answer Fault) → slice_get (run s es).1 i ≡ Some b → posts_to key b ≡ false)
ran_shut k h o [] = (refl, λ i b at. absurd (get_in [] i b at))
ran_shut {key = key} {since = since} {sent = sent} {taken = taken} {s = s} k h o (e ∷ es) =
    let a = floor_step s e in
    let g = goes k h e in
    let rest = ran_shut {since = since ++ accepted_by e a.1} {sent = sent ++ posted_by key s.due a.1} {taken = taken ++ taken_by key e a.1} {s = a.0} g.kept g.held (g.shut o).0 es in
    (ap (λ l. l ++ posted_to key a.0 es) (g.shut o).1 ∙ rest.0, by (g.shut o).2 rest.1)
  where
    by : posts_to key (floor_step s e).1 ≡ false → ((i : ℕ) (b : Result Answer Fault) → slice_get (run (floor_step s e).0 es).1 i ≡ Some b → posts_to key b ≡ false)
        → (i : ℕ) (b : Result Answer Fault) → slice_get (run s (e ∷ es)).1 i ≡ Some b → posts_to key b ≡ false
    by calm rest zero b at = let same : (floor_step s e).1 ≡ b = cc in ap (posts_to key) (sym same) ∙ calm
    by calm rest (suc i) b at = rest i b at

-- nor after it lags, is closed or ended
pub ran_ended : {key : ℕ} {scope : Scope} {before since : List Command} {sent taken : List PostView} {s : FloorView} → Kept s → Held key scope before since sent taken s
    → (es : List Event) (e : Event) (a : Result Answer Fault) → slice_get es 0 ≡ Some e → slice_get (run s es).1 0 ≡ Some a → ends_watcher key e a ≡ true
    → (i : ℕ) (b : Result Answer Fault) → slice_get (run s es).1 (suc i) ≡ Some b → posts_to key b ≡ false
ran_ended k h [] e a is at ends i b there = absurd (get_in [] 0 e is)
ran_ended {key = key} {s = s} k h (x ∷ es) e a is at ends i b there =
    let g = goes k h x in
    let event : x ≡ e = cc in
    let answer : (floor_step s x).1 ≡ a = cc in
    (ran_shut g.kept g.held (g.ended ((λ j. ends_watcher key (event j) (answer j)) ∙ ends)) es).1 i b there

-- no watcher has key 0, so all that is kept is kept from the start
start_kept : (capacity : ℕ) → Kept (empty_floor capacity)
start_kept capacity = record { rising = refl; below = refl }

pub start_held : (capacity : ℕ) (scope : Scope) → Held 0 scope [] [] [] [] (empty_floor capacity)
start_held capacity scope = record {
  journal = refl;
  old = omega arith;
  first = record { not_taken = []; taken_is = refl; not_posted = []; posted_is = refl };
  row = λ r e. no_row refl e;
  due = refl;
}

pub after_kept : (capacity : ℕ) (es : List Event) → Kept (floor_after capacity es)
after_kept capacity es = (ran (start_kept capacity) (start_held capacity All) es).kept

-- the journal is what the answers tell
pub journal_told : (capacity : ℕ) (es : List Event) → (floor_after capacity es).journal ≡ accepted es (answers capacity es)
journal_told capacity es = (ran (start_kept capacity) (start_held capacity All) es).held.journal

pub before_told : (capacity : ℕ) (es : List Event) (n : ℕ) → (floor_after capacity (take n es)).journal ≡ accepted_before capacity es n
before_told capacity es n = journal_told capacity (take n es) ∙ ap (accepted (take n es)) (run_take (empty_floor capacity) es n)
