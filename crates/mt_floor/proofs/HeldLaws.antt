-- What the watcher of one key has, and what events do to it that post to it and take from it nothing.
use Rattle.std.proofs.Common.{◌≡◌, ℕ, ◌<◌, ◌≤◌, Bool, true, false, cond, eqb, ltb, List, [], ◌++◌, length, Option, Some, None, sym, ap, ◌∙◌, subst, arith, true≢false}
use Rattle.std.specs.List.{list_all}
use Rattle.std.specs.Option.{option_map_or}
use Rattle.std.proofs.lemmas.List.{append-nil}
use Rattle.mt_skel.specs.Keyed.{row_at, put, rises}
use Rattle.mt_skel.proofs.KeyedLaws.{row_at-key, rises-put}
use Rattle.mt_propagate.proofs.RowLaws.{all-row}
use Rattle.mt_events.specs.Posts.{PostView}
use Rattle.mt_events.specs.declared.opening.Scope.{Scope}
use Rattle.mt_book.specs.declared.command.Command.{Command}
use Rattle.mt_floor.specs.declared.event.Event.{Event}
use Rattle.mt_floor.specs.Watcher.{Watcher, Due, watcher_key, is_open, due_for, opening_of, followed_posts}
use Rattle.mt_floor.specs.Schedule.{FloorView, Stepped, has_open}
use Rattle.mt_floor.specs.Headline.{accepted_by, taken_by, posted_by, posts_to, ends_watcher}
use Rattle.mt_floor.proofs.RowLaws.{put_same, put_other, all_put}

-- watchers stand by rising key, each below the next one
pub record Kept (s : FloorView) : Type 0 where
  pub rising : rises watcher_key s.watchers ≡ true
  pub below : list_all (λ (r : Watcher). ltb r.key s.next_key) s.watchers ≡ true

-- a row is that of the watcher with this scope that began after these commands, to which these were posted and which took these
pub record IsRowFor (scope : Scope) (before : List Command) (posted taken : List PostView) (r : Watcher) : Type 0 where
  pub scope_is : r.scope ≡ scope
  pub since_is : r.since ≡ length before
  pub opening_is : r.opening ≡ opening_of before scope
  pub posted_is : r.sent ≡ posted
  pub taken_is : r.taken ≡ taken

-- the first of the followed posts were posted, and the first of these were taken
pub record AreFirst (scope : Scope) (before since : List Command) (posted taken : List PostView) : Type 0 where
  pub not_taken : List PostView
  pub taken_is : posted ≡ taken ++ not_taken
  pub not_posted : List PostView
  pub posted_is : followed_posts scope before since ≡ posted ++ not_posted

-- the watcher of a key began after the commands before, and since then these were accepted, posted and taken
pub record Held (key : ℕ) (scope : Scope) (before since : List Command) (posted taken : List PostView) (s : FloorView) : Type 0 where
  pub journal : s.journal ≡ before ++ since
  pub old : key < s.next_key
  pub first : AreFirst scope before since posted taken
  pub row : (r : Watcher) → row_at watcher_key key s.watchers ≡ Some r → IsRowFor scope before posted taken r
  pub due : due_for key s.due ≡ cond (has_open key s) first.not_posted []

-- what an event does to it
pub record Goes (key : ℕ) (scope : Scope) (before since : List Command) (sent taken : List PostView) (s : FloorView) (e : Event) (a : Stepped) : Type 0 where
  pub kept : Kept a.0
  pub held : Held key scope before (since ++ accepted_by e a.1) (sent ++ posted_by key s.due a.1) (taken ++ taken_by key e a.1) a.0
  -- one that is gone stays so, and gives no post; one that is not open is not opened again, and gets no post
  pub gone : row_at watcher_key key s.watchers ≡ None → (row_at watcher_key key a.0.watchers ≡ None) × (taken_by key e a.1 ≡ [])
  pub shut : has_open key s ≡ false → (has_open key a.0 ≡ false) × (posted_by key s.due a.1 ≡ []) × (posts_to key a.1 ≡ false)
  -- one that lags, is closed or ended is not open
  pub ended : ends_watcher key e a.1 ≡ true → has_open key a.0 ≡ false
  -- no key is given out but by an `Opened`
  pub next : s.next_key ≤ a.0.next_key

-- equal lists of commands and posts
pub held_same : {key : ℕ} {scope : Scope} {before since since' : List Command} {sent sent' taken taken' : List PostView} {s : FloorView} → since ≡ since' → sent ≡ sent' → taken ≡ taken'
    → Held key scope before since sent taken s → Held key scope before since' sent' taken' s
held_same {key = key} {scope = scope} {before = before} {s = s} a b c h = coe 0 1 (i. Held key scope before (a i) (b i) (c i) s) h

-- a list with nothing after it
pub more : {X : Type 0} (xs : List X) {ys : List X} → ys ≡ [] → xs ≡ xs ++ ys
more xs e = sym (append-nil xs) ∙ ap (λ l. xs ++ l) (sym e)

-- what cannot be: a test that gives both answers, and a key with and without a row
pub off : {A : Type 0} → true ≡ false → A
off e = absurd (true≢false e)

pub no_row : {A : Type 0} {o : Option Watcher} {r : Watcher} → o ≡ None → o ≡ Some r → A
no_row {r = r} none e = absurd (let bad : ◌≡◌ {A = Option Watcher} None (Some r) = sym none ∙ e in cc)

-- the watcher that is found is there and open
abbrev pub is_found_open : Option Watcher → Bool
is_found_open o = option_map_or (λ (r : Watcher). is_open r.phase) o false

-- two rows of one key are one
pub one_row : {o : Option Watcher} {x y : Watcher} → o ≡ Some x → o ≡ Some y → x ≡ y
one_row {x = x} {y = y} a b = let two : ◌≡◌ {A = Option Watcher} (Some x) (Some y) = sym a ∙ b in let same : x ≡ y = cc in same

pub only : {o : Option Watcher} {r : Watcher} {scope : Scope} {before : List Command} {sent taken : List PostView} → o ≡ Some r → IsRowFor scope before sent taken r
    → (x : Watcher) → o ≡ Some x → IsRowFor scope before sent taken x
only {scope = scope} {before = before} {sent = sent} {taken = taken} at is x e = subst (IsRowFor scope before sent taken) (one_row at e) is

module _ {key : ℕ} {scope : Scope} {before since : List Command} {sent taken : List PostView} {s : FloorView} (k : Kept s) (h : Held key scope before since sent taken s) where
  -- an event that accepts, posts and takes nothing
  becomes : (e : Event) (a : Stepped) → Kept a.0 → a.0.journal ≡ s.journal → s.next_key ≤ a.0.next_key
      → ((r : Watcher) → row_at watcher_key key a.0.watchers ≡ Some r → IsRowFor scope before sent taken r) → due_for key a.0.due ≡ cond (has_open key a.0) h.first.not_posted []
      → accepted_by e a.1 ≡ [] → posted_by key s.due a.1 ≡ [] → taken_by key e a.1 ≡ [] → (row_at watcher_key key s.watchers ≡ None → row_at watcher_key key a.0.watchers ≡ None)
      → (has_open key s ≡ false → (has_open key a.0 ≡ false) × (posts_to key a.1 ≡ false)) → (ends_watcher key e a.1 ≡ true → has_open key a.0 ≡ false)
      → Goes key scope before since sent taken s e a
  becomes e a kept journal next row due none posts takes gone shut ended = record {
    kept = kept;
    held = held_same (more since none) (more sent posts) (more taken takes) (record { journal = journal ∙ h.journal; old = omega (arith, h.old, next); first = h.first; row = row; due = due });
    gone = λ n. (gone n, takes);
    shut = λ o. ((shut o).0, posts, (shut o).1);
    ended = ended;
    next = next;
  }

  -- one that leaves the watcher and what is due to it as they are
  pub aside : (e : Event) (a : Stepped) → Kept a.0 → a.0.journal ≡ s.journal → s.next_key ≤ a.0.next_key
      → row_at watcher_key key a.0.watchers ≡ row_at watcher_key key s.watchers → due_for key a.0.due ≡ due_for key s.due
      → accepted_by e a.1 ≡ [] → posted_by key s.due a.1 ≡ [] → taken_by key e a.1 ≡ [] → posts_to key a.1 ≡ false → ends_watcher key e a.1 ≡ false
      → Goes key scope before since sent taken s e a
  aside e a kept journal next row due none posts takes calm lasts =
      becomes e a kept journal next (λ r at. h.row r (sym row ∙ at)) (due ∙ h.due ∙ ap (λ o. cond (is_found_open o) h.first.not_posted []) (sym row)) none posts takes (λ n. row ∙ n)
      (λ o. (ap is_found_open row ∙ o, calm)) (λ x. off (sym x ∙ lasts))

  -- one after which the watcher is gone or not open, and nothing is due to it
  pub ends : (e : Event) (a : Stepped) → Kept a.0 → a.0.journal ≡ s.journal → s.next_key ≤ a.0.next_key
      → ((r : Watcher) → row_at watcher_key key a.0.watchers ≡ Some r → IsRowFor scope before sent taken r) → has_open key a.0 ≡ false → due_for key a.0.due ≡ []
      → accepted_by e a.1 ≡ [] → posted_by key s.due a.1 ≡ [] → taken_by key e a.1 ≡ [] → (row_at watcher_key key s.watchers ≡ None → row_at watcher_key key a.0.watchers ≡ None)
      → (has_open key s ≡ false → posts_to key a.1 ≡ false) → Goes key scope before since sent taken s e a
  ends e a kept journal next row shut due none posts takes gone calm =
      becomes e a kept journal next row (due ∙ ap (λ b. cond b h.first.not_posted []) (sym shut)) none posts takes gone (λ o. (shut, calm o)) (λ x. shut)

  -- a watcher of another key, or of this one, has changed
  pub kept_put : (q : ℕ) (r r' : Watcher) (due : List Due) → row_at watcher_key q s.watchers ≡ Some r → r'.key ≡ r.key → Kept (record s { watchers = put watcher_key r' s.watchers; due = due })
  kept_put q r r' due at same = record {
    rising = rises-put watcher_key r' s.watchers k.rising;
    below = all_put watcher_key (λ (x : Watcher). ltb x.key s.next_key) r' s.watchers (ap (λ n. ltb n s.next_key) same ∙ all-row watcher_key (λ (x : Watcher). ltb x.key s.next_key) s.watchers q r k.below at) k.below;
  }

  -- so the row of this key is as it was, or the new one
  pub other_row : (q : ℕ) (r r' : Watcher) → row_at watcher_key q s.watchers ≡ Some r → r'.key ≡ r.key → eqb q key ≡ false
      → row_at watcher_key key (put watcher_key r' s.watchers) ≡ row_at watcher_key key s.watchers
  other_row q r r' at same ne = put_other watcher_key key r' s.watchers (ap (λ n. eqb n key) (same ∙ row_at-key watcher_key q s.watchers r at) ∙ ne)

  pub own_row : (q : ℕ) (r r' : Watcher) → row_at watcher_key q s.watchers ≡ Some r → r'.key ≡ r.key → q ≡ key → row_at watcher_key key (put watcher_key r' s.watchers) ≡ Some r'
  own_row q r r' at same is = put_same watcher_key key r' s.watchers (sym (same ∙ row_at-key watcher_key q s.watchers r at ∙ is))
