-- What a watcher is given: the posts that it takes, and then those that its close answers.
use Rattle.std.proofs.Common.{◌≡◌, inl, inr, ◌⊎◌, ℕ, Bool, true, false, cond, eqb, List, [], ◌∷◌, ◌++◌, length, take, drop, Option, Some, None, slice_get, Ok, refl, sym, ap, ◌∙◌, append_assoc, eq-eqb, eqb-true}
use Rattle.std.specs.Prelude.{Result}
use Rattle.std.specs.Option.{option_map_or}
use Rattle.std.proofs.lemmas.List.{append-nil, drop_at}
use Rattle.mt_skel.specs.declared.fault.Fault.{Fault}
use Rattle.mt_skel.specs.Keyed.{row_at}
use Rattle.mt_skel.proofs.KeyedLaws.{row_at-key}
use Rattle.mt_skel.proofs.ElementLaws.{get_in}
use Rattle.mt_events.specs.Posts.{PostView}
use Rattle.mt_events.specs.declared.opening.Scope.{Scope}
use Rattle.mt_events.specs.declared.opening.Opening.{Opening}
use Rattle.mt_book.specs.declared.command.Command.{Command}
use Rattle.mt_floor.specs.declared.event.Event.{Event}
use Rattle.mt_floor.specs.declared.event.Event.TheVariants.{Close}
use Rattle.mt_floor.specs.declared.event.Answer.{Answer}
use Rattle.mt_floor.specs.declared.event.Answer.TheVariants.{Opened, Closed}
use Rattle.mt_floor.specs.Watcher.{Watcher, watcher_key}
use Rattle.mt_floor.specs.Schedule.{FloorView, Stepped, empty_floor, floor_step, run, closed, waiting}
use Rattle.mt_floor.specs.Headline.{answers, floor_after, accepted_by, taken_by, posted_by, posted_to, posted_since, given_by, given_posts, given_since, IsGivenInOrder}
use Rattle.mt_floor.specs.WellFormed.{IsFloor}
use Rattle.mt_floor.proofs.RowLaws.{row_without}
use Rattle.mt_floor.proofs.HeldLaws.{Kept, Held, IsRowFor, no_row, is_found_open}
use Rattle.mt_floor.proofs.FloorLaws.{goes}
use Rattle.mt_floor.proofs.BeginLaws.{begins}
use Rattle.mt_floor.proofs.RunLaws.{run_split, told_next, after_kept}
use Rattle.mt_floor.proofs.StandingLaws.{kept_of, stays, begins_well}
use Rattle.mt_floor.proofs.MeetingLaws.{close_step, close_answer}
use Rattle.mt_floor.proofs.FollowLaws.{told_in_order, told_tables}

-- an answer gives what it says was taken, or what a close answers
abbrev Gives : ℕ → Event → Result Answer Fault → Type 0
Gives key e a = (given_by key e a ≡ taken_by key e a) ⊎ ((ps : List PostView) × (e ≡ Close key) × (a ≡ Ok (Closed ps)))

-- each answer does one or the other
closing : (key : ℕ) (e : Event) (ps : List PostView) → Gives key e (Ok (Closed ps))
closing key (Close k) ps = by (eqb k key) refl
  where
    by : (b : Bool) → eqb k key ≡ b → (cond b ps [] ≡ []) ⊎ ((qs : List PostView) × (Close k ≡ Close key) × (◌≡◌ {A = Result Answer Fault} (Ok (Closed ps)) (Ok (Closed qs))))
    by true q = inr (ps, ap (λ n. Close n) (eqb-true k key q), refl)
    by false q = inl refl
closing key e ps = inl refl

gives : (key : ℕ) (e : Event) (a : Result Answer Fault) → Gives key e a
gives key e (Ok (Closed ps)) = closing key e ps
gives key e a = inl refl

-- a watcher was given what it has taken; or it is gone, and was given the first of the posts that were posted to it
abbrev IsGiven : ℕ → List PostView → List PostView → List PostView → FloorView → Type 0
IsGiven key posted taken given s = (given ≡ taken) ⊎ ((rest : List PostView) × (row_at watcher_key key s.watchers ≡ None) × (posted ≡ given ++ rest))

-- each event keeps this
module _ {key : ℕ} {scope : Scope} {before since : List Command} {posted taken : List PostView} {s : FloorView} (k : Kept s) (h : Held key scope before since posted taken s) (given : List PostView) (e : Event) where
  abbrev done : Stepped
  done = floor_step s e

  abbrev Next : Type 0
  Next = IsGiven key (posted ++ posted_by key s.due done.1) (taken ++ taken_by key e done.1) (given ++ given_by key e done.1) done.0

  -- a close gives all that was posted and not taken
  closes_next : given ≡ taken → (ps : List PostView) → e ≡ Close key → done.1 ≡ Ok (Closed ps) → Next
  closes_next all ps event answer =
      let told : (floor_step s (Close key)).1 ≡ Ok (Closed ps) = ap (λ (x : Event). (floor_step s x).1) (sym event) ∙ answer in
      let c = close_step s key ps told in
      let left = close_answer s key ps told in
      let r = h.row left.row left.at in
      let rest : ps ≡ h.first.not_taken = left.told ∙ (λ i. drop (length (r.taken_is i)) ((r.posted_is ∙ h.first.taken_is) i)) ∙ drop_at taken h.first.not_taken (length taken) refl in
      let gave : given_by key e done.1 ≡ ps = (λ i. given_by key (event i) (answer i)) ∙ ap (λ b. cond b ps []) (eq-eqb key key refl) in
      inr (
        [],
        ap (λ (x : Event). row_at watcher_key key (floor_step s x).0.watchers) event ∙ ap (λ (x : Stepped). row_at watcher_key key x.0.watchers) c.told
            ∙ row_without watcher_key key c.row.key s.watchers ∙ ap (λ b. cond b None (row_at watcher_key key s.watchers)) (eq-eqb key c.row.key (sym (row_at-key watcher_key key s.watchers c.row c.at))),
        (λ i. posted ++ posted_by key s.due (answer i)) ∙ append-nil posted ∙ h.first.taken_is ∙ (λ i. sym all i ++ sym rest i) ∙ ap (λ l. given ++ l) (sym gave) ∙ sym (append-nil (given ++ given_by key e done.1)),
      )

  given_next : IsGiven key posted taken given s → Next
  given_next has = by has (gives key e done.1)
    where
      by : IsGiven key posted taken given s → Gives key e done.1 → Next
      by (inl all) (inl same) = inl (λ i. all i ++ same i)
      by (inl all) (inr closed) = closes_next all closed.0 closed.1 closed.2
      by (inr gone) (inl same) =
          let g = goes k h e in
          inr (
            gone.0,
            (g.gone gone.1).0,
            ap (λ l. posted ++ l) (g.shut (ap is_found_open gone.1)).1 ∙ append-nil posted ∙ gone.2 ∙ ap (λ l. l ++ gone.0) (sym (append-nil given) ∙ ap (λ l. given ++ l) (sym (same ∙ (g.gone gone.1).1))),
          )
      by (inr gone) (inr closed) = no_row gone.1 (close_answer s key closed.0 (ap (λ (x : Event). (floor_step s x).1) (sym closed.1) ∙ closed.2)).at

-- so the posts given are the first of those that were posted
all_given : {key : ℕ} {scope : Scope} {before since : List Command} {posted taken : List PostView} {s : FloorView} → Kept s → Held key scope before since posted taken s → (given : List PostView) → IsGiven key posted taken given s → (es : List Event)
    → (rest : List PostView) × (posted ++ posted_to key s es ≡ (given ++ given_posts key es (run s es).1) ++ rest)
all_given {posted = posted} k h given has [] = elim has [
  | inl all ↦ (h.first.not_taken, append-nil posted ∙ h.first.taken_is ∙ ap (λ l. l ++ h.first.not_taken) (sym all ∙ sym (append-nil given)))
  | inr gone ↦ (gone.0, append-nil posted ∙ gone.2 ∙ ap (λ l. l ++ gone.0) (sym (append-nil given)))
]
all_given {key = key} {since = since} {posted = posted} {taken = taken} {s = s} k h given has (e ∷ es) =
    let a = floor_step s e in
    let g = goes k h e in
    let more = all_given {since = since ++ accepted_by e a.1} {posted = posted ++ posted_by key s.due a.1} {taken = taken ++ taken_by key e a.1} {s = a.0} g.kept g.held (given ++ given_by key e a.1) (given_next k h given e has) es in (
      more.0,
      sym (append_assoc posted (posted_by key s.due a.1) (posted_to key a.0 es)) ∙ more.1 ∙ ap (λ l. l ++ more.0) (append_assoc given (given_by key e a.1) (given_posts key es (run a.0 es).1)),
    )

-- from its opening on
given_from : (s : FloorView) (es : List Event) (key : ℕ) (o : Opening) → Kept s → slice_get (run s es).1 0 ≡ Some (Ok (Opened key o))
    → (rest : List PostView) × (posted_to key s es ≡ given_posts key es (run s es).1 ++ rest)
given_from s [] key o k is = absurd (get_in [] 0 _ is)
given_from s (e ∷ es) key o k is =
    let a = floor_step s e in
    let opened : a.1 ≡ Ok (Opened key o) = cc in
    let b = begins s e k key o opened in
    let more = all_given b.kept b.held [] (inl refl) es in
    (more.0, ap (λ (x : Result Answer Fault). posted_by key s.due x ++ posted_to key a.0 es) opened ∙ more.1 ∙ ap (λ (x : Result Answer Fault). (given_by key e x ++ given_posts key es (run a.0 es).1) ++ more.0) (sym opened))

pub floors_stay : (s : FloorView) (es : List Event) → IsFloor s → IsFloor (run s es).0
floors_stay s [] h = h
floors_stay s (e ∷ es) h = floors_stay (floor_step s e).0 es (stays s e h)

-- so a floor is well-formed after any events from its beginning on
pub after_well : (capacity : ℕ) (es : List Event) → IsFloor (floor_after capacity es)
after_well capacity es = floors_stay (empty_floor capacity) es (begins_well capacity)

-- a watcher is given the first of the posts that were posted to it, in order, and they tell its tables
pub given_in_order : (capacity : ℕ) (es : List Event) (at key : ℕ) (o : Opening) → slice_get (answers capacity es) at ≡ Some (Ok (Opened key o)) → IsGivenInOrder capacity es at key o
given_in_order capacity es at key o is =
    let g = given_from (floor_after capacity (take at es)) (drop at es) key o (after_kept capacity (take at es)) (told_next capacity es at ∙ is) in
    let first : posted_since capacity es at key ≡ given_since capacity es at key ++ g.0 = g.1 ∙ (λ i. given_posts key (drop at es) (run_split (empty_floor capacity) es at i).1 ++ g.0) in record {
      not_given = g.0;
      given = first;
      run = told_in_order capacity es at key o is (given_since capacity es at key) g.0 first;
      tables = told_tables capacity es at key o is (given_since capacity es at key) g.0 first;
    }

-- a watcher that has begun waits for nothing
pub begun_waits : (s : FloorView) (e : Event) → IsFloor s → (key : ℕ) (o : Opening) → (floor_step s e).1 ≡ Ok (Opened key o) → waiting (floor_step s e).0 key ≡ []
begun_waits s e h key o opened = by (row_at watcher_key key (floor_step s e).0.watchers) (begins s e (kept_of h) key o opened).held.row
  where
    by : (x : Option Watcher) → ((r : Watcher) → x ≡ Some r → IsRowFor o.scope s.journal [] [] r) → option_map_or (λ (r : Watcher). drop (length r.taken) r.sent) x [] ≡ []
    by None row = refl
    by (Some r) row = λ i. drop (length ((row r refl).taken_is i)) ((row r refl).posted_is i)
