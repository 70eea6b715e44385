-- What is always true of a floor, and how large it can be.
use Rattle.std.proofs.Common.{◌≡◌, inl, inr, ℕ, ◌^◌, ◌<◌, ◌≤◌, Bool, true, false, cond, eqb, ltb, List, [], ◌∷◌, ◌++◌, length, take, drop, Option, Some, None, refl, sym, ap, ◌∙◌, subst, arith, length-append, ltb-true, ◌+◌, ◌*◌, not}
use Rattle.std.proofs.lemmas.List.{append-nil, take-append-drop, length-take-le, take_at, drop_at, length-map}
use Rattle.std.proofs.lemmas.Bool.Decides.{nat_tests}
use Rattle.mt_skel.specs.Keyed.{row_at, put, rises}
use Rattle.mt_skel.proofs.KeyedLaws.{row_at-key, row_at-below, all-lower}
use Rattle.mt_propagate.proofs.RowLaws.{all-row}
use Rattle.mt_events.specs.Posts.{PostView}
use Rattle.mt_events.specs.declared.opening.Scope.{Scope}
use Rattle.mt_events.specs.declared.opening.Scope.TheVariants.{All}
use Rattle.mt_book.specs.declared.command.Command.{Command}
use Rattle.mt_book.specs.History.{posts_of, posts_from}
use Rattle.mt_floor.specs.declared.event.Event.{Event}
use Rattle.mt_floor.specs.Watcher.{Watcher, Due, watcher_key, due_for, opening_of, followed_posts, is_open}
use Rattle.mt_floor.specs.Schedule.{FloorView, empty_floor, floor_step, has_open, watcher_limit}
use Rattle.mt_floor.specs.WellFormed.{IsFollower, IsFloor, IsBounded}
use Rattle.mt_floor.proofs.RowLaws.{fresh}
use Rattle.mt_floor.proofs.DueLaws.{due_row, due_all, but_other, but}
use Rattle.mt_floor.proofs.EffectLaws.{each_event, newcomer}
use Rattle.mt_floor.proofs.HeldLaws.{Kept, Held, is_found_open, no_row, only}
use Rattle.mt_floor.proofs.FloorLaws.{goes, nothing}
use Rattle.mt_floor.proofs.BeginLaws.{begins, counts, grows}
use Rattle.std.specs.Prelude.{nat_le}
use Rattle.std.specs.List.{list_all}
use Rattle.std.proofs.lemmas.Bool.{or_parts}
use Rattle.mt_propagate.proofs.SizeLaws.{few_pass}
use Rattle.mt_skel.proofs.MiddleLaws.{and_second}
use Rattle.mt_events.specs.Following.{names_space}
use Rattle.mt_book.proofs.CountLaws.{posts_few}
use Rattle.mt_floor.specs.declared.watch.Phase.TheVariants.{Lagged, Ended}
use Rattle.mt_book.specs.Book.{command_limit}

-- a row that is put in the place of another
length-put : {X : Type 0} (key : X → ℕ) (x : X) (xs : List X) (y : X) → rises key xs ≡ true → row_at key (key x) xs ≡ Some y → length (put key x xs) ≡ length xs
length-put key x [] y h e = absurd (let no_row : ◌≡◌ {A = Option _} None (Some y) = e in cc)
length-put key x (z ∷ zs) y h e =
    let ih = length-put key x zs y (and_second (list_all (λ w. ltb (key z) (key w)) zs) (rises key zs) h) in
    let lower = all-lower key (key x) (key z) zs in
    let gone = row_at-below key (key x) (z ∷ zs) in
    grind (arith, nat_tests)

-- one more has room
room : (a b : ℕ) → nat_le a b ≡ false → b + 1 ≤ a
room a b e = grind (arith, nat_tests)

-- no event makes it larger than that
pub bounded : (s : FloorView) (e : Event) → IsBounded s → rises watcher_key s.watchers ≡ true → IsBounded (floor_step s e).0
bounded s e h order = each_event s (λ e a. IsBounded a.0) (record {
  on_still = λ e a. h;
  on_apply = λ c p none can. record { journal = omega (arith, room command_limit (length s.journal) can.few, length-append s.journal (c ∷ [])); watchers = h.watchers; keys = h.keys };
  on_lag = λ d ds r some at. put_bounded d.key r (record r { phase = Lagged }) (but d.key ds) at refl;
  on_send = λ d ds r some at. put_bounded d.key r (record r { sent = r.sent ++ d.post ∷ [] }) ds at refl;
  on_open = λ sc none can.
      let few = or_parts (nat_le watcher_limit (length s.watchers)) (nat_le (2 ^ 64) s.next_key) can.few in
      record { journal = h.journal; watchers = omega (arith, room watcher_limit (length s.watchers) few.0, length-append s.watchers (newcomer s sc ∷ [])); keys = room (2 ^ 64) s.next_key few.1 };
  on_take = λ q r p at left. put_bounded q r (record r { taken = r.taken ++ p ∷ [] }) s.due at refl;
  on_close = λ q r at none. record { journal = h.journal; watchers = omega (arith, few_pass (λ (x : Watcher). not (eqb x.key r.key)) s.watchers, h.watchers); keys = h.keys };
  on_stop = λ none. record { journal = h.journal; watchers = omega (arith, length-map s.watchers (λ (r : Watcher). record r { phase = cond (is_open r.phase) Ended r.phase }), h.watchers); keys = h.keys };
}) e
  where
    put_bounded : (q : ℕ) (r r' : Watcher) (due : List Due) → row_at watcher_key q s.watchers ≡ Some r → r'.key ≡ r.key → IsBounded (record s { watchers = put watcher_key r' s.watchers; due = due })
    put_bounded q r r' due at same =
        let len = length-put watcher_key r' s.watchers r order (ap (λ k. row_at watcher_key k s.watchers) (same ∙ row_at-key watcher_key q s.watchers r at) ∙ at) in
        record { journal = h.journal; watchers = omega (arith, len, h.watchers); keys = h.keys }

-- on a well-formed floor watchers stand by rising key, each below the next one
pub kept_of : {s : FloorView} → IsFloor s → Kept s
kept_of h = record { rising = h.rising; below = h.below }

-- keys of watchers were given out
pub key_below : {s : FloorView} {key : ℕ} {r : Watcher} → Kept s → row_at watcher_key key s.watchers ≡ Some r → key < s.next_key
key_below {s = s} {key = key} {r = r} k at =
    subst (λ n. n < s.next_key) (row_at-key watcher_key key s.watchers r at) (ltb-true r.key s.next_key (all-row watcher_key (λ (x : Watcher). ltb x.key s.next_key) s.watchers key r k.below at))

-- nothing becomes due to a key that has no watcher
none_stays : (s : FloorView) (key : ℕ) → Kept s → row_at watcher_key key s.watchers ≡ None → due_for key s.due ≡ [] → (e : Event) → due_for key (floor_step s e).0.due ≡ []
none_stays s key k none h = each_event s (λ e a. due_for key a.0.due ≡ []) (record {
  on_still = λ e a. h;
  on_apply = λ c p idle can. due_all key (posts_of s.journal c) s.watchers k.rising ∙ ap (due_row (posts_of s.journal c)) none;
  on_lag = λ d ds r some at. let rest = others d ds some in but_other d.key key ds rest.0 ∙ rest.1;
  on_send = λ d ds r some at. (others d ds some).1;
  on_open = λ sc idle can. h;
  on_take = λ q r p at left. h;
  on_close = λ q r at idle. h;
  on_stop = λ idle. h;
})
  where
    others : (d : Due) (ds : List Due) → s.due ≡ d ∷ ds → (eqb d.key key ≡ false) × (due_for key ds ≡ [])
    others d ds some =
        let none : cond (eqb d.key key) (d.post ∷ due_for key ds) (due_for key ds) ≡ [] = sym (ap (due_for key) some) ∙ h in
        (grind (arith, nat_tests), grind (arith, nat_tests))

-- what events see of the watcher of a key
pub record Known (key : ℕ) (s : FloorView) : Type 0 where
  pub scope : Scope
  pub before : List Command
  pub since : List Command
  pub sent : List PostView
  pub taken : List PostView
  pub held : Held key scope before since sent taken s

-- on a floor they see the watcher of each key that was given out
known : (s : FloorView) → IsFloor s → (key : ℕ) → key < s.next_key → Known key s
known s h key low = by (row_at watcher_key key s.watchers) refl
  where
    by : (o : Option Watcher) → row_at watcher_key key s.watchers ≡ o → Known key s
    by (Some r) at =
        let f = h.rows key r at in
        let key_is = row_at-key watcher_key key s.watchers r at in record {
          scope = r.scope;
          before = take r.since s.journal;
          since = drop r.since s.journal;
          sent = r.sent;
          taken = r.taken;
          held = record {
            journal = sym (take-append-drop r.since s.journal);
            old = low;
            first = record { not_taken = f.not_taken; taken_is = f.taken; not_posted = f.not_posted; posted_is = f.posted };
            row = only at (record { scope_is = refl; since_is = sym (length-take-le r.since s.journal f.since); opening_is = f.opening; posted_is = refl; taken_is = refl });
            due = ap (λ k. due_for k s.due) (sym key_is) ∙ f.due ∙ ap (λ o. cond (is_found_open o) f.not_posted []) (sym at);
          };
        }
    by None none = record {
      scope = All;
      before = s.journal;
      since = [];
      sent = [];
      taken = [];
      held = record {
        journal = sym (append-nil s.journal);
        old = low;
        first = record { not_taken = []; taken_is = refl; not_posted = []; posted_is = refl };
        row = λ r at. no_row none at;
        due = h.idle key (ap is_found_open none) ∙ sym (nothing (has_open key s));
      };
    }

-- and so it is a follower
held_follower : {key : ℕ} {scope : Scope} {before since : List Command} {sent taken : List PostView} {s : FloorView} → Held key scope before since sent taken s
    → (r : Watcher) → row_at watcher_key key s.watchers ≡ Some r → IsFollower s r
held_follower {key = key} {before = before} {since = since} {s = s} h r at =
    let w = h.row r at in
    let split : take r.since s.journal ≡ before = (λ i. take (w.since_is i) (h.journal i)) ∙ take_at before since (length before) refl in
    let rest : drop r.since s.journal ≡ since = (λ i. drop (w.since_is i) (h.journal i)) ∙ drop_at before since (length before) refl in record {
      since = omega (arith, w.since_is, ap length h.journal, length-append before since);
      opening = w.opening_is ∙ (λ i. opening_of (sym split i) (sym w.scope_is i));
      not_taken = h.first.not_taken;
      taken = w.posted_is ∙ h.first.taken_is ∙ ap (λ l. l ++ h.first.not_taken) (sym w.taken_is);
      not_posted = h.first.not_posted;
      posted = (λ i. followed_posts (w.scope_is i) (split i) (rest i)) ∙ h.first.posted_is ∙ ap (λ l. l ++ h.first.not_posted) (sym w.posted_is);
      due = ap (λ k. due_for k s.due) (row_at-key watcher_key key s.watchers r at) ∙ h.due ∙ ap (λ o. cond (is_found_open o) h.first.not_posted []) at;
    }

module _ (s : FloorView) (e : Event) (h : IsFloor s) where
  kept_next : Kept (floor_step s e).0
  kept_next = (goes (kept_of h) (known s h 0 h.from_one).held e).kept

  -- of a key that was given out before, or by this event
  known_next : (key : ℕ) → key < (floor_step s e).0.next_key → Known key (floor_step s e).0
  known_next key low = by (ltb key s.next_key) refl
    where
      new : s.next_key ≤ key → Known key (floor_step s e).0
      new high = elim (counts s e) [
        | inl same ↦ absurd (omega (arith, low, high, same))
        | inr gives ↦
            let is : s.next_key ≡ key = omega (arith, low, high, gives.next) in
            subst (λ n. Known n (floor_step s e).0) is (record { scope = _; before = _; since = _; sent = _; taken = _; held = (begins s e (kept_of h) s.next_key gives.opening gives.answer).held })
      ]

      by : (b : Bool) → ltb key s.next_key ≡ b → Known key (floor_step s e).0
      by true l = record { scope = _; before = _; since = _; sent = _; taken = _; held = (goes (kept_of h) (known s h key (ltb-true key s.next_key l)).held e).held }
      by false l = new (grind (arith, nat_tests))

  -- nothing is due to a key that was not given out
  idle_next : (key : ℕ) → has_open key (floor_step s e).0 ≡ false → due_for key (floor_step s e).0.due ≡ []
  idle_next key shut = by (ltb key (floor_step s e).0.next_key) refl
    where
      by : (b : Bool) → ltb key (floor_step s e).0.next_key ≡ b → due_for key (floor_step s e).0.due ≡ []
      by true low = let w = (known_next key (ltb-true key (floor_step s e).0.next_key low)).held in w.due ∙ ap (λ b. cond b w.first.not_posted []) shut
      by false high =
          let above : (floor_step s e).0.next_key ≤ key = grind (arith, nat_tests) in
          let none = fresh watcher_key key s.next_key s.watchers (omega (arith, above, grows s e)) h.below in
          none_stays s key (kept_of h) none (h.idle key (ap is_found_open none)) e

  pub stays : IsFloor (floor_step s e).0
  stays = record {
    rising = kept_next.rising;
    below = kept_next.below;
    from_one = omega (arith, grows s e, h.from_one);
    rows = λ key r at. held_follower (known_next key (key_below kept_next at)).held r at;
    bounds = bounded s e h.bounds h.rising;
    idle = idle_next;
  }

-- a floor with nothing done is well-formed
pub begins_well : (capacity : ℕ) → IsFloor (empty_floor capacity)
begins_well capacity = record {
  rising = refl;
  below = refl;
  from_one = omega arith;
  rows = λ key r at. no_row refl at;
  bounds = record { journal = omega arith; watchers = omega arith; keys = omega arith };
  idle = λ key o. refl;
}

-- the lists of a row
pub lists_short : (s : FloorView) (key : ℕ) (r : Watcher) → IsFloor s → row_at watcher_key key s.watchers ≡ Some r → (length r.taken ≤ length r.sent) × (length r.sent ≤ 2 ^ 40)
lists_short s key r h at =
    let f = h.rows key r at in
    let before = take r.since s.journal in
    let since = drop r.since s.journal in
    let all = ap length (take-append-drop r.since s.journal) in
    let many : length (posts_from before since) ≤ length since * 1048576 = posts_few before since 1048576 (omega (arith, all, length-append before since, h.bounds.journal)) in
    let few = few_pass (λ (p : PostView). names_space r.scope p.space) (posts_from before since) in (
      omega (arith, ap length f.taken, length-append r.taken f.not_taken),
      omega (arith, many, few, all, length-append before since, h.bounds.journal, ap length f.posted, length-append r.sent f.not_posted),
    )
