-- What each event does to the watcher of one key.
use Rattle.std.proofs.Common.{◌≡◌, ℕ, ◌+◌, Bool, true, false, cond, not, eqb, ltb, List, [], ◌∷◌, ◌++◌, length, drop, map, Option, Some, None, slice_get, Ok, refl, sym, ap, ◌∙◌, subst, arith, append_assoc, eq-eqb, eqb-true, lt-ltb, ne_eqb}
use Rattle.std.specs.List.{filter}
use Rattle.std.specs.Option.{option_map}
use Rattle.std.proofs.lemmas.List.{append-nil}
use Rattle.std.proofs.lemmas.List.Elements.{filter-append}
use Rattle.std.proofs.lemmas.List.Folds.{list_all-map}
use Rattle.mt_skel.specs.Keyed.{row_at}
use Rattle.mt_skel.proofs.KeyedLaws.{row_at-key, row_at-map, rises-filter, rises-map}
use Rattle.mt_propagate.specs.World.{WorldView}
use Rattle.mt_propagate.proofs.RowLaws.{mapped-row}
use Rattle.mt_events.specs.Posts.{PostView}
use Rattle.mt_events.specs.declared.opening.Scope.{Scope}
use Rattle.mt_events.specs.Following.{names_space}
use Rattle.mt_book.specs.declared.command.Command.{Command}
use Rattle.mt_book.specs.declared.command.Reply.{Reply}
use Rattle.mt_book.specs.History.{posts_of, posts_from}
use Rattle.mt_book.proofs.HistoryLaws.{posts_from-append}
use Rattle.mt_floor.specs.declared.watch.Phase.{Phase}
use Rattle.mt_floor.specs.declared.watch.Phase.TheVariants.{Open as IsOpen, Lagged, Ended}
use Rattle.mt_floor.specs.declared.event.Event.{Event}
use Rattle.mt_floor.specs.declared.event.Event.TheVariants.{Apply, PostNext, Open, Take, Close, Stop}
use Rattle.mt_floor.specs.declared.event.Answer.TheVariants.{Opened, Took}
use Rattle.mt_floor.specs.Watcher.{Watcher, Due, watcher_key, is_open, due_for, opening_of, followed_posts}
use Rattle.mt_floor.specs.Schedule.{FloorView, Stepped, floor_step, changed, sent_to, replied, closed, halted, has_open}
use Rattle.mt_floor.specs.Headline.{takes_from, first_due}
use Rattle.mt_floor.proofs.RowLaws.{get_behind, first_of, turned, other_last, all_filter, all_higher, all_last, rises-last, row_without}
use Rattle.mt_floor.proofs.DueLaws.{due_row, due_all, but, but_same, but_other}
use Rattle.mt_floor.proofs.EffectLaws.{newcomer, opens, Still, emptied, still_answer, each_event}
use Rattle.mt_floor.proofs.HeldLaws.{Kept, IsRowFor, Held, Goes, held_same, off, no_row, is_found_open, only, aside, ends, kept_put, other_row, own_row}

-- nothing, whichever way a test goes
pub nothing : (b : Bool) → ◌≡◌ {A = List PostView} (cond b [] []) []
nothing true = refl
nothing false = refl

-- a newcomer stands after the others
pub newcomer_kept : (s : FloorView) (sc : Scope) → Kept s → Kept (opens s sc)
newcomer_kept s sc k = record {
  rising = rises-last watcher_key (newcomer s sc) s.watchers k.below k.rising;
  below = all_last (λ (x : Watcher). ltb x.key (s.next_key + 1)) (newcomer s sc) s.watchers (lt-ltb s.next_key (s.next_key + 1) (omega arith)) (all_higher watcher_key s.next_key (s.next_key + 1) s.watchers (omega arith) k.below);
}

-- the posts of one more command
pub followed_more : (scope : Scope) (before since : List Command) (c : Command)
    → followed_posts scope before (since ++ c ∷ []) ≡ followed_posts scope before since ++ filter (λ (p : PostView). names_space scope p.space) (posts_of (before ++ since) c)
followed_more scope before since c =
    ap (filter (λ (p : PostView). names_space scope p.space)) (posts_from-append before since (c ∷ []) ∙ ap (λ l. posts_from before since ++ l) (append-nil (posts_of (before ++ since) c)))
    ∙ filter-append (λ (p : PostView). names_space scope p.space) (posts_from before since) (posts_of (before ++ since) c)

-- what is due of posts to a watcher with this scope
row_due : (scope : Scope) (ps : List PostView) (o : Option Watcher) → ((r : Watcher) → o ≡ Some r → r.scope ≡ scope)
    → due_row ps o ≡ cond (is_found_open o) (filter (λ (p : PostView). names_space scope p.space) ps) []
row_due scope ps None is = refl
row_due scope ps (Some r) is = ap (λ x. cond (is_open r.phase) (filter (λ (p : PostView). names_space x p.space) ps) []) (is r refl)

-- something is due to an open watcher only
due_open : (p : PostView) (ps rest : List PostView) (b : Bool) → p ∷ ps ≡ cond b rest [] → (b ≡ true) × (rest ≡ p ∷ ps)
due_open p ps rest true e = (refl, sym e)
due_open p ps rest false e = absurd (cc)

-- what a stop makes of a watcher
abbrev as_ended : Watcher → Watcher
as_ended r = record r { phase = cond (is_open r.phase) Ended r.phase }

module _ {key : ℕ} {scope : Scope} {before since : List Command} {sent taken : List PostView} {s : FloorView} (k : Kept s) (h : Held key scope before since sent taken s) where
  abbrev After : Event → Stepped → Type 0
  After e a = Goes key scope before since sent taken s e a

  -- an event that changes nothing
  unmoved : (e : Event) (a : Still) → After e (s, still_answer a)
  unmoved e emptied = aside k h e (s, still_answer emptied) k refl (omega arith) refl refl refl refl (nothing (takes_from key e)) refl refl
  unmoved e a = aside k h e (s, still_answer a) k refl (omega arith) refl refl refl refl refl refl refl

  -- the followed posts of a command, and the command: they are due then, if the watcher is open
  abbrev new_posts : Command → List PostView
  new_posts c = filter (λ (p : PostView). names_space scope p.space) (posts_of (before ++ since) c)

  after_apply : (c : Command) (p : WorldView × Reply) → s.due ≡ [] → After (Apply c) (replied s c (Ok p))
  after_apply c p none = record {
    kept = record { rising = k.rising; below = k.below };
    held = held_same refl (sym (append-nil sent)) (sym (append-nil taken)) (record {
      journal = ap (λ l. l ++ c ∷ []) h.journal ∙ append_assoc before since (c ∷ []);
      old = h.old;
      first = record {
        not_taken = h.first.not_taken;
        taken_is = h.first.taken_is;
        not_posted = h.first.not_posted ++ new_posts c;
        posted_is = followed_more scope before since c ∙ ap (λ l. l ++ new_posts c) h.first.posted_is ∙ append_assoc sent h.first.not_posted (new_posts c);
      };
      row = h.row;
      due = due_all key (posts_of s.journal c) s.watchers k.rising ∙ row_due scope (posts_of s.journal c) (row_at watcher_key key s.watchers) (λ r at. (h.row r at).scope_is)
          ∙ ap (λ l. cond (has_open key s) (filter (λ (p : PostView). names_space scope p.space) (posts_of l c)) []) h.journal ∙ by (has_open key s) (sym h.due ∙ ap (due_for key) none);
    });
    gone = λ n. (n, refl);
    shut = λ o. (o, refl, refl);
    ended = λ x. off (sym x);
    next = omega arith;
  }
    where
      by : (b : Bool) → cond b h.first.not_posted [] ≡ [] → cond b (new_posts c) [] ≡ cond b (h.first.not_posted ++ new_posts c) []
      by true e = ap (λ l. l ++ new_posts c) (sym e)
      by false e = refl

  module _ (d : Due) (ds : List Due) (r : Watcher) (is : s.due ≡ d ∷ ds) (at : row_at watcher_key d.key s.watchers ≡ Some r) where
    -- a post to another watcher
    module _ (ne : eqb d.key key ≡ false) where
      rest : due_for key ds ≡ due_for key s.due
      rest = sym (ap (due_for key) is ∙ ap (λ b. cond b (d.post ∷ due_for key ds) (due_for key ds)) ne)

      other_lags : After PostNext (sent_to s d ds true r)
      other_lags = aside k h PostNext (sent_to s d ds true r) (kept_put k h d.key r (record r { phase = Lagged }) (but d.key ds) at refl) refl (omega arith)
          (other_row k h d.key r (record r { phase = Lagged }) at refl ne) (but_other d.key key ds ne ∙ rest) refl refl refl ne ne

      other_sent : After PostNext (sent_to s d ds false r)
      other_sent = aside k h PostNext (sent_to s d ds false r) (kept_put k h d.key r (record r { sent = r.sent ++ d.post ∷ [] }) ds at refl) refl (omega arith)
          (other_row k h d.key r (record r { sent = r.sent ++ d.post ∷ [] }) at refl ne) rest refl (ap (λ b. cond b (first_due s.due) []) ne) refl ne refl

    -- a post to this one, which is open
    module _ (same : d.key ≡ key) where
      here : row_at watcher_key key s.watchers ≡ Some r
      here = ap (λ q. row_at watcher_key q s.watchers) (sym same) ∙ at

      opened : (has_open key s ≡ true) × (h.first.not_posted ≡ d.post ∷ due_for key ds)
      opened = due_open d.post (due_for key ds) h.first.not_posted (has_open key s)
          (sym (ap (due_for key) is ∙ ap (λ b. cond b (d.post ∷ due_for key ds) (due_for key ds)) (eq-eqb d.key key same)) ∙ h.due)

      own_lags : After PostNext (sent_to s d ds true r)
      own_lags =
          let was = h.row r here in
          let row = own_row k h d.key r (record r { phase = Lagged }) at refl same in
          ends k h PostNext (sent_to s d ds true r) (kept_put k h d.key r (record r { phase = Lagged }) (but d.key ds) at refl) refl (omega arith)
          (only row (record { scope_is = was.scope_is; since_is = was.since_is; opening_is = was.opening_is; posted_is = was.posted_is; taken_is = was.taken_is }))
          (ap is_found_open row) (ap (λ q. due_for q (but d.key ds)) (sym same) ∙ but_same d.key ds) refl refl refl (λ n. no_row n here) (λ o. off (sym opened.0 ∙ o))

      own_sent : After PostNext (sent_to s d ds false r)
      own_sent =
          let was = h.row r here in
          let row = own_row k h d.key r (record r { sent = r.sent ++ d.post ∷ [] }) at refl same in
          let post : cond (eqb d.key key) (first_due s.due) [] ≡ d.post ∷ [] = ap (λ b. cond b (first_due s.due) []) (eq-eqb d.key key same) ∙ ap first_due is in record {
            kept = kept_put k h d.key r (record r { sent = r.sent ++ d.post ∷ [] }) ds at refl;
            held = held_same (sym (append-nil since)) (ap (λ l. sent ++ l) (sym post)) (sym (append-nil taken)) (record {
              journal = h.journal;
              old = h.old;
              first = record {
                not_taken = h.first.not_taken ++ d.post ∷ [];
                taken_is = ap (λ l. l ++ d.post ∷ []) h.first.taken_is ∙ append_assoc taken h.first.not_taken (d.post ∷ []);
                not_posted = due_for key ds;
                posted_is = h.first.posted_is ∙ ap (λ l. sent ++ l) opened.1 ∙ sym (append_assoc sent (d.post ∷ []) (due_for key ds));
              };
              row = only row (record { scope_is = was.scope_is; since_is = was.since_is; opening_is = was.opening_is; posted_is = ap (λ l. l ++ d.post ∷ []) was.posted_is; taken_is = was.taken_is });
              due = ap (λ b. cond b (due_for key ds) []) (sym (ap is_found_open row ∙ sym (ap is_found_open here) ∙ opened.0));
            });
            gone = λ n. no_row n here;
            shut = λ o. off (sym opened.0 ∙ o);
            ended = λ x. off (sym x);
            next = omega arith;
          }

  -- a newcomer has another key
  after_open : (sc : Scope) → After (Open sc) (opens s sc, Ok (Opened s.next_key (opening_of s.journal sc)))
  after_open sc = aside k h (Open sc) _ (newcomer_kept s sc k) refl (omega arith) (other_last watcher_key key (newcomer s sc) s.watchers (ne_eqb key s.next_key (λ e. absurd (omega (arith, h.old, e))))) refl refl refl refl refl refl

  module _ (q : ℕ) (r : Watcher) (at : row_at watcher_key q s.watchers ≡ Some r) where
    -- a watcher takes a post
    module _ (p : PostView) (left : slice_get r.sent (length r.taken) ≡ Some p) where
      abbrev taker : Watcher
      taker = record r { taken = r.taken ++ p ∷ [] }

      other_takes : eqb q key ≡ false → After (Take q) (changed s taker, Ok (Took (Some p)))
      other_takes ne = aside k h (Take q) _ (kept_put k h q r taker s.due at refl) refl (omega arith) (other_row k h q r taker at refl ne) refl refl refl (ap (λ b. cond b (p ∷ []) []) ne) refl refl

      own_takes : q ≡ key → After (Take q) (changed s taker, Ok (Took (Some p)))
      own_takes same =
          let here : row_at watcher_key key s.watchers ≡ Some r = ap (λ n. row_at watcher_key n s.watchers) (sym same) ∙ at in
          let was = h.row r here in
          let row = own_row k h q r taker at refl same in
          let first = first_of h.first.not_taken p (sym (get_behind taken h.first.not_taken) ∙ (λ i. slice_get ((sym h.first.taken_is ∙ sym was.posted_is) i) (length (sym was.taken_is i))) ∙ left) in record {
            kept = kept_put k h q r taker s.due at refl;
            held = held_same (sym (append-nil since)) (sym (append-nil sent)) (ap (λ b. taken ++ cond b (p ∷ []) []) (sym (eq-eqb q key same))) (record {
              journal = h.journal;
              old = h.old;
              first = record {
                not_taken = drop 1 h.first.not_taken;
                taken_is = h.first.taken_is ∙ ap (λ l. taken ++ l) first ∙ sym (append_assoc taken (p ∷ []) (drop 1 h.first.not_taken));
                not_posted = h.first.not_posted;
                posted_is = h.first.posted_is;
              };
              row = only row (record { scope_is = was.scope_is; since_is = was.since_is; opening_is = was.opening_is; posted_is = was.posted_is; taken_is = ap (λ l. l ++ p ∷ []) was.taken_is });
              due = h.due ∙ ap (λ b. cond b h.first.not_posted []) (ap is_found_open here ∙ sym (ap is_found_open row));
            });
            gone = λ n. no_row n here;
            shut = λ o. (ap is_found_open row ∙ sym (ap is_found_open here) ∙ o, refl, refl);
            ended = λ x. off (sym x);
            next = omega arith;
          }

    -- a watcher goes
    module _ (none : s.due ≡ []) where
      row_left : row_at watcher_key key (closed s r).0.watchers ≡ cond (eqb key q) None (row_at watcher_key key s.watchers)
      row_left = ap (λ n. row_at watcher_key key (filter (λ (x : Watcher). not (eqb x.key n)) s.watchers)) (row_at-key watcher_key q s.watchers r at) ∙ row_without watcher_key key q s.watchers

      closed_kept : Kept (closed s r).0
      closed_kept = record { rising = rises-filter watcher_key (λ (x : Watcher). not (eqb x.key r.key)) s.watchers k.rising; below = all_filter (λ (x : Watcher). ltb x.key s.next_key) (λ (x : Watcher). not (eqb x.key r.key)) s.watchers k.below }

      other_closes : eqb q key ≡ false → After (Close q) (closed s r)
      other_closes ne = aside k h (Close q) (closed s r) closed_kept refl (omega arith) (row_left ∙ ap (λ b. cond b None (row_at watcher_key key s.watchers)) (turned q key ne)) refl refl refl refl refl ne

      own_closes : q ≡ key → After (Close q) (closed s r)
      own_closes same =
          let gone : row_at watcher_key key (closed s r).0.watchers ≡ None = row_left ∙ ap (λ b. cond b None (row_at watcher_key key s.watchers)) (eq-eqb key q (sym same)) in
          ends k h (Close q) (closed s r) closed_kept refl (omega arith) (λ x e. no_row gone e) (ap is_found_open gone) (ap (due_for key) none) refl refl refl (λ n. gone) (λ o. refl)

  -- no watcher is open after a stop
  after_stop : s.due ≡ [] → After Stop (halted s)
  after_stop none =
      let row = row_at-map watcher_key as_ended (λ r. refl) key s.watchers in
      ends k h Stop (halted s) (record { rising = rises-map watcher_key as_ended (λ r. refl) s.watchers ∙ k.rising; below = list_all-map (λ (r : Watcher). ltb r.key s.next_key) as_ended s.watchers ∙ k.below }) refl (omega arith) was
      (ap is_found_open row ∙ no_open (row_at watcher_key key s.watchers)) (ap (due_for key) none) refl refl refl (λ n. row ∙ ap (option_map as_ended) n) (λ o. refl)
    where
      no_phase : (f : Phase) → is_open (cond (is_open f) Ended f) ≡ false
      no_phase IsOpen = refl
      no_phase Lagged = refl
      no_phase Ended = refl

      no_open : (o : Option Watcher) → is_found_open (option_map as_ended o) ≡ false
      no_open None = refl
      no_open (Some r) = no_phase r.phase

      was : (x : Watcher) → row_at watcher_key key (map as_ended s.watchers) ≡ Some x → IsRowFor scope before sent taken x
      was x e =
          let m = mapped-row watcher_key as_ended (λ r. refl) s.watchers key x e in
          let old = h.row m.0 m.1 in
          subst (IsRowFor scope before sent taken) (sym m.2) (record { scope_is = old.scope_is; since_is = old.since_is; opening_is = old.opening_is; posted_is = old.posted_is; taken_is = old.taken_is })

  -- an event of a watcher that is another or this one
  which : (q : ℕ) (e : Event) (a : Stepped) → (eqb q key ≡ false → After e a) → (q ≡ key → After e a) → After e a
  which q e a other own = by (eqb q key) refl
    where
      by : (b : Bool) → eqb q key ≡ b → After e a
      by true is = own (eqb-true q key is)
      by false is = other is

  -- each event keeps all this
  pub goes : (e : Event) → After e (floor_step s e)
  goes = each_event s After (record {
    on_still = unmoved;
    on_apply = λ c p none can. after_apply c p none;
    on_lag = λ d ds r is at. which d.key PostNext (sent_to s d ds true r) (other_lags d ds r is at) (own_lags d ds r is at);
    on_send = λ d ds r is at. which d.key PostNext (sent_to s d ds false r) (other_sent d ds r is at) (own_sent d ds r is at);
    on_open = λ sc none can. after_open sc;
    on_take = λ q r p at left. which q (Take q) _ (other_takes q r at p left) (own_takes q r at p left);
    on_close = λ q r at none. which q (Close q) (closed s r) (other_closes q r at none) (own_closes q r at none);
    on_stop = after_stop;
  })
