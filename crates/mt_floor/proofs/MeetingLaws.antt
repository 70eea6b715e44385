-- What a meeting and a close tell.
use Rattle.std.proofs.Common.{◌≡◌, ◌≢◌, ℕ, ◌+◌, ◌<◌, List, [], ◌∷◌, ◌++◌, length, take, drop, Option, Some, None, slice_get, Ok, Err, refl, sym, ap, ◌∙◌, arith}
use Rattle.std.specs.Prelude.{Result}
use Rattle.std.specs.Option.{option_map_or}
use Rattle.std.proofs.lemmas.List.{drop_at}
use Rattle.mt_skel.specs.declared.fault.Fault.{Fault}
use Rattle.mt_skel.specs.declared.fault.Fault.TheVariants.{NoWatcher}
use Rattle.mt_skel.specs.Keyed.{row_at}
use Rattle.mt_skel.proofs.ElementLaws.{get_in}
use Rattle.mt_events.specs.Posts.{PostView}
use Rattle.mt_events.specs.declared.opening.Opening.{Opening}
use Rattle.mt_floor.specs.declared.watch.Meeting.{Meeting}
use Rattle.mt_floor.specs.declared.event.Event.{Event}
use Rattle.mt_floor.specs.declared.event.Event.TheVariants.{Meet, Close}
use Rattle.mt_floor.specs.declared.event.Answer.{Answer}
use Rattle.mt_floor.specs.declared.event.Answer.TheVariants.{Opened, Met, Closed, NotNow}
use Rattle.mt_floor.specs.Watcher.{Watcher, Due, watcher_key}
use Rattle.mt_floor.specs.Schedule.{FloorView, Stepped, floor_step, run, if_idle, at_row, met, closed}
use Rattle.mt_floor.specs.Headline.{answers, floor_after, taken_since, posted_since}
use Rattle.mt_floor.specs.Laws.{IsTold}
use Rattle.mt_floor.proofs.RunLaws.{get_drop, told_next}
use Rattle.mt_floor.proofs.HeadLaws.{held_then}

-- the row after an answer
pub record Answers (key : ℕ) (s : FloorView) (says : Watcher → Type 0) : Type 0 where
  pub row : Watcher
  pub at : row_at watcher_key key s.watchers ≡ Some row
  pub told : says row

-- what is answered of a watcher, and neither put off nor refused
row_answer : (s : FloorView) (key : ℕ) (f : Watcher → Stepped) (a : Answer) → (if_idle s.due s (at_row s key f)).1 ≡ Ok a → a ≢ NotNow → Answers key s (λ r. if_idle s.due s (at_row s key f) ≡ f r)
row_answer s key f a is now = by s.due (row_at watcher_key key s.watchers) refl is
  where
    by : (ds : List Due) (o : Option Watcher) → row_at watcher_key key s.watchers ≡ o → (if_idle ds s (option_map_or f o (s, Err NoWatcher))).1 ≡ Ok a
        → Answers key s (λ r. if_idle ds s (option_map_or f o (s, Err NoWatcher)) ≡ f r)
    by (d ∷ ds) o at e = absurd (now (let same : a ≡ NotNow = cc in same))
    by [] None at e = absurd (cc)
    by [] (Some r) at e = record { row = r; at = at; told = refl }

pub close_step : (s : FloorView) (key : ℕ) (ps : List PostView) → (floor_step s (Close key)).1 ≡ Ok (Closed ps) → Answers key s (λ r. floor_step s (Close key) ≡ closed s r)
unfolding floor_step
close_step s key ps e = row_answer s key (closed s) (Closed ps) e (λ bad. cc)

pub close_answer : (s : FloorView) (key : ℕ) (ps : List PostView) → (floor_step s (Close key)).1 ≡ Ok (Closed ps) → Answers key s (λ r. ps ≡ drop (length r.taken) r.sent)
close_answer s key ps e =
    let a = close_step s key ps e in
    let said : ◌≡◌ {A = Result Answer Fault} (Ok (Closed (drop (length a.row.taken) a.row.sent))) (Ok (Closed ps)) = ap (λ (x : Stepped). x.1) (sym a.told) ∙ e in
    let same : drop (length a.row.taken) a.row.sent ≡ ps = cc in
    record { row = a.row; at = a.at; told = sym same }

meet_answer : (s : FloorView) (key : ℕ) (m : Meeting) → (floor_step s (Meet key)).1 ≡ Ok (Met m) → Answers key s (λ r. m ≡ record { posted = length r.sent; taken = length r.taken; state = r.phase })
unfolding floor_step
meet_answer s key m e =
    let a = row_answer s key (met s) (Met m) e (λ bad. cc) in
    let said : (met s a.row).1 ≡ Ok (Met m) = ap (λ (x : Stepped). x.1) (sym a.told) ∙ e in
    let same : ◌≡◌ {A = Meeting} (record { posted = length a.row.sent; taken = length a.row.taken; state = a.row.phase }) m = cc in
    record { row = a.row; at = a.at; told = sym same }

module _ (capacity : ℕ) (es : List Event) (at key : ℕ) (o : Opening) (is : slice_get (answers capacity es) at ≡ Some (Ok (Opened key o))) (n : ℕ) (less : at < n) where
  -- the answer to an event is that of its step
  answer_then : (x : Event) (a : Result Answer Fault) → slice_get es n ≡ Some x → slice_get (answers capacity es) n ≡ Some a → (floor_step (floor_after capacity (take n es)) x).1 ≡ a
  answer_then x a e f = let here : n + 0 ≡ n = omega arith in first (drop n es) (get_drop es n 0 ∙ ap (slice_get es) here ∙ e) (told_next capacity es n ∙ f)
    where
      first : (ys : List Event) → slice_get ys 0 ≡ Some x → slice_get (run (floor_after capacity (take n es)) ys).1 0 ≡ Some a → (floor_step (floor_after capacity (take n es)) x).1 ≡ a
      first [] e f = absurd (get_in [] 0 x e)
      first (y ∷ ys) e f =
          let event : y ≡ x = cc in
          let answer : (floor_step (floor_after capacity (take n es)) y).1 ≡ a = cc in
          ap (λ z. (floor_step (floor_after capacity (take n es)) z).1) (sym event) ∙ answer

  closed_then : (ps : List PostView) → slice_get es n ≡ Some (Close key) → slice_get (answers capacity es) n ≡ Some (Ok (Closed ps)) → posted_since capacity (take n es) at key ≡ taken_since capacity (take n es) at key ++ ps
  closed_then ps e f =
      let a = close_answer (floor_after capacity (take n es)) key ps (answer_then (Close key) (Ok (Closed ps)) e f) in
      let h = held_then capacity es at key o is n less in
      let r = h.row a.row a.at in
      let taken = taken_since capacity (take n es) at key in
      h.first.taken_is ∙ ap (λ l. taken ++ l) (sym (a.told ∙ (λ i. drop (length (r.taken_is i)) ((r.posted_is ∙ h.first.taken_is) i)) ∙ drop_at taken h.first.not_taken (length taken) refl))

  met_then : (m : Meeting) → slice_get es n ≡ Some (Meet key) → slice_get (answers capacity es) n ≡ Some (Ok (Met m))
      → (m.posted ≡ length (posted_since capacity (take n es) at key)) × (m.taken ≡ length (taken_since capacity (take n es) at key))
  met_then m e f =
      let a = meet_answer (floor_after capacity (take n es)) key m (answer_then (Meet key) (Ok (Met m)) e f) in
      let r = (held_then capacity es at key o is n less).row a.row a.at in
      (ap (λ (x : Meeting). x.posted) a.told ∙ ap length r.posted_is, ap (λ (x : Meeting). x.taken) a.told ∙ ap length r.taken_is)

-- a meeting tells how many posts were posted to a watcher and how many it took, and a close answers those that it did not take
pub told : (capacity : ℕ) (es : List Event) (at key : ℕ) (o : Opening) → slice_get (answers capacity es) at ≡ Some (Ok (Opened key o)) → IsTold capacity es at key
told capacity es at key o is = record { met = λ n m less e f. met_then capacity es at key o is n less m e f; closed = λ n ps less e f. closed_then capacity es at key o is n less ps e f }
