-- A command on the floor of a desk: refused, or accepted, and what a desk keeps while it sends the posts.
use Rattle.std.proofs.Common.{◌≡◌, ℕ, ◌+◌, ◌≤◌, Bool, true, false, cond, not, ◌&&◌, eqb, List, [], ◌∷◌, ◌++◌, map, length, take, drop, Option, Some, Ok, Err, inl, inr, refl, sym, ap, ◌∙◌, subst, arith, append_assoc, eqb-true}
use Rattle.std.specs.Prelude.{Result, nat_le, if◌then◌else◌}
use Rattle.std.specs.List.{filter, AllByRecursion}
use Rattle.std.specs.Option.{option_map_or}
use Rattle.std.proofs.lemmas.Bool.{lt-leb}
use Rattle.std.proofs.lemmas.Bool.Decides.{nat_tests}
use Rattle.std.proofs.lemmas.List.{append-nil}
use Rattle.std.proofs.lemmas.List.Elements.{filter_agree}
use Rattle.mt_skel.specs.declared.fault.Fault.{Fault}
use Rattle.mt_skel.specs.declared.fault.Fault.TheVariants.{Stopped, JournalFull}
use Rattle.mt_skel.specs.Outcome.{refuse_if, first_fault}
use Rattle.mt_skel.specs.Keyed.{row_at, put, rises}
use Rattle.mt_skel.proofs.KeyedLaws.{row_at-put, row_at-key, rises-put}
use Rattle.mt_skel.proofs.ElementLaws.{In, in_filter, in_map, in_flat, in_row}
use Rattle.mt_skel.proofs.MiddleLaws.{and_first, each_append}
use Rattle.mt_propagate.specs.World.{WorldView}
use Rattle.mt_propagate.proofs.RowLaws.{filter-two}
use Rattle.mt_events.specs.Posts.{PostView}
use Rattle.mt_events.specs.Following.{IsRun}
use Rattle.mt_book.specs.declared.command.Command.{Command}
use Rattle.mt_book.specs.declared.command.Reply.{Reply}
use Rattle.mt_book.specs.declared.prepared.Prepared.{Prepared}
use Rattle.mt_book.specs.Step.{step, after}
use Rattle.mt_book.specs.History.{posts_of}
use Rattle.mt_book.specs.Book.{answer, reply_of, command_limit}
use Rattle.mt_book.specs.Kept.{IsPrepared}
use Rattle.mt_floor.specs.declared.watch.Phase.{Phase}
use Rattle.mt_floor.specs.declared.watch.Phase.TheVariants.{Open as IsOpen, Lagged, Ended}
use Rattle.mt_floor.specs.declared.event.Event.TheVariants.{Apply}
use Rattle.mt_floor.specs.declared.event.Answer.TheVariants.{Replied}
use Rattle.mt_floor.specs.Watcher.{Watcher, Due, watcher_key, is_open, follows, due_for, due_pairs}
use Rattle.mt_floor.specs.Schedule.{FloorView, Stepped, floor_step, unless, replied}
use Rattle.mt_floor.specs.WellFormed.{IsFollower}
use Rattle.mt_floor.proofs.RowLaws.{put_same, put_other}
use Rattle.mt_floor.proofs.DueLaws.{due_row, due_all}
use Rattle.mt_floor.proofs.FollowedLaws.{is_run}
use Rattle.mt_floor.proofs.RunningLaws.{joined}
use Rattle.mt_desk.specs.Desk.{DeskRow, DeskView, IsDeskRow, IsDesk, row_key, late_watcher, floor_of_desk}
use Rattle.mt_desk.specs.Calls.{IsSentIn, IsApplied, IsSend, IsDone, due_to}
use Rattle.mt_desk.specs.Sent.{with_sent_post, lagging, IsSentOne, IsSentOneIn, has_open_row, still_due, IsSentSoFarIn, RowSoFar, sending_floor, IsSendingPosts}
use Rattle.mt_desk.proofs.RowsLaws.{watcher_there, put_watchers, each_at, each_put, put_back}
use Rattle.mt_desk.proofs.RunLaws.{run_cons, floor_stays, desk_stays, Sends, sent_floor, sent_step, full_sends, post_keeps, lag_rule}
use Rattle.mt_desk.proofs.ScheduleLaws.{rows_rise}

-- ---- A command that is refused or accepted

module _ (d : DeskView) (x : Command) where
  -- what the floor does behind these tests
  abbrev tested : Bool → Bool → Stepped
  tested stopped full =
      let s : FloorView = floor_of_desk d in
      unless (first_fault (refuse_if stopped Stopped ∷ refuse_if full JournalFull ∷ [])) s (replied s x (step (after d.journal) x))

  -- after a stop, and with a refusal of the book, the floor refuses it
  pub apply_stopped : d.stopped ≡ true → floor_step (floor_of_desk d) (Apply x) ≡ (floor_of_desk d, Err Stopped)
  unfolding floor_step
  apply_stopped is = ap (λ b. tested b (nat_le command_limit (length d.journal))) is

  pub apply_refused : (f : Fault) → d.stopped ≡ false → answer d.journal x ≡ Err f → floor_step (floor_of_desk d) (Apply x) ≡ (floor_of_desk d, Err f)
  unfolding floor_step answer
  apply_refused f runs is = ap (λ b. tested b (nat_le command_limit (length d.journal))) runs ∙ by (nat_le command_limit (length d.journal)) (step (after d.journal) x) is
    where
      by : (b : Bool) (q : Result (WorldView × Reply) Fault) → (if b then Err JournalFull else reply_of q) ≡ Err f
          → unless (first_fault (refuse_if false Stopped ∷ refuse_if b JournalFull ∷ [])) (floor_of_desk d) (replied (floor_of_desk d) x q) ≡ (floor_of_desk d, Err f)
      by true q r = let same : JournalFull ≡ f = cc in ap (λ y. (floor_of_desk d, Err y)) same
      by false (Ok p) r = absurd cc
      by false (Err g) r = let same : g ≡ f = cc in ap (λ y. (floor_of_desk d, Err y)) same

  -- the posts of a command are due to the open rows that follow them
  abbrev pub first_due : List Due
  first_due = due_pairs (posts_of d.journal x) (map (late_watcher d.capacity) d.rows)

  -- what a book has prepared is accepted
  pub prepared_begins : {p : Prepared} → d.stopped ≡ false → IsPrepared d.journal p → p.command ≡ x → floor_step (floor_of_desk d) (Apply x) ≡ (sending_floor d x d.rows first_due, Ok (Replied p.reply))
  unfolding floor_step
  prepared_begins runs q same = (λ i. tested (runs i) (lt-leb command_limit (length d.journal) q.few i)) ∙ ap (replied (floor_of_desk d) x) (ap (step (after d.journal)) (sym same) ∙ q.accepted)

-- ---- What is due still

-- nothing goes where each passes
filter_same : {X : Type 0} (t : X → Bool) (xs : List X) → ((x : X) → In x xs → t x ≡ true) → filter t xs ≡ xs
filter_same t [] all = refl
filter_same t (x ∷ xs) all = grind (arith, all x (inl refl), filter_same t xs (λ y m. all y (inr m)))

abbrev open_in : Option DeskRow → Bool
open_in o = option_map_or (λ (r : DeskRow). is_open r.phase) o false

-- all that is due at first is due to open rows
first_is_due : (c : ℕ) (ps : List PostView) (rows : List DeskRow) → rises row_key rows ≡ true → still_due rows (due_pairs ps (map (late_watcher c) rows)) ≡ due_pairs ps (map (late_watcher c) rows)
first_is_due c ps rows rising = filter_same (λ (d : Due). has_open_row rows d.key) (due_pairs ps (map (late_watcher c) rows)) (λ e m.
    let of_post = in_flat (λ p. map (λ (w : Watcher). record { post = p; key = w.key }) (filter (follows p) (map (late_watcher c) rows))) e ps m in
    let of_watcher = in_map (λ (w : Watcher). record { post = of_post.0; key = w.key }) e _ of_post.2 in
    let passed = in_filter (follows of_post.0) of_watcher.0 (map (late_watcher c) rows) of_watcher.1 in
    let of_row = in_map (late_watcher c) of_watcher.0 rows passed.0 in
    ap (λ (d : Due). has_open_row rows d.key) (sym of_watcher.2) ∙ ap (λ (w : Watcher). has_open_row rows w.key) (sym of_row.2) ∙ ap open_in (in_row row_key rows of_row.0 rising of_row.1)
    ∙ ap (λ (w : Watcher). is_open w.phase) of_row.2 ∙ and_first (is_open of_watcher.0.phase) _ passed.1)

-- a post leaves the rows open that are open
open_posted : (rows : List DeskRow) (key : ℕ) (p : PostView) (q : DeskRow) → row_at row_key key rows ≡ Some q → (k : ℕ) → has_open_row rows k ≡ has_open_row (put row_key (with_sent_post p q) rows) k
open_posted rows key p q at k =
    rw (row_at-put row_key k (with_sent_post p q) rows) (elim (eqb k q.key) as (λ b. eqb k q.key ≡ b → has_open_row rows k ≡ open_in (cond b (Some (with_sent_post p q)) (row_at row_key k rows))) [
      | true ↦ λ e. ap (has_open_row rows) (eqb-true k q.key e ∙ row_at-key row_key key rows q at) ∙ ap open_in at
      | false ↦ λ e. refl
    ] refl)

-- a row that lags is the only one that is open no more
open_lagged : (rows : List DeskRow) (key : ℕ) (q : DeskRow) → row_at row_key key rows ≡ Some q → (k : ℕ) → has_open_row (put row_key (lagging q) rows) k ≡ (has_open_row rows k && not (eqb k key))
open_lagged rows key q at k =
    ap open_in (row_at-put row_key k (lagging q) rows)
    ∙ ap (λ n. open_in (cond (eqb k n) (Some (lagging q)) (row_at row_key k rows))) (row_at-key row_key key rows q at)
    ∙ (elim (eqb k key) as (λ b. open_in (cond b (Some (lagging q)) (row_at row_key k rows)) ≡ (has_open_row rows k && not b)) [ true ↦ grind arith | false ↦ grind arith ])

-- of what is left for an open row, all is due still
still_for : (rows : List DeskRow) (key : ℕ) → has_open_row rows key ≡ true → (ds : List Due) → due_for key (still_due rows ds) ≡ due_for key ds
still_for rows key is [] = refl
still_for rows key is (e ∷ ds) =
    let mine : eqb e.key key ≡ true → has_open_row rows e.key ≡ true = λ q. ap (has_open_row rows) (eqb-true e.key key q) ∙ is in
    grind (arith, nat_tests, mine, still_for rows key is ds)

-- ---- One row

-- an open row is sent a post, lags, or was skipped: what was sent of all that is due to it
is_not : IsOpen ≡ Lagged → ⊥
is_not e = cc

row_posted : (f : Phase) (c : ℕ) (all rest : List PostView) (p : PostView) (r q : DeskRow) → r.phase ≡ f → q.phase ≡ IsOpen → IsSentSoFarIn f c all (p ∷ rest) r q → IsSentSoFarIn f c all rest r (with_sent_post p q)
row_posted IsOpen c all rest p r q mine is (inl way) = inl (record {
  front = way.front ++ p ∷ [];
  split = way.split ∙ sym (append_assoc way.front (p ∷ []) rest);
  row = ap (with_sent_post p) way.row ∙ ap (λ (l : List PostView). record r { sent = l }) (append_assoc r.sent way.front (p ∷ []));
})
row_posted IsOpen c all rest p r q mine is (inr lags) = absurd (is_not (sym is ∙ ap (λ (x : DeskRow). x.phase) lags.row))
row_posted Lagged c all rest p r q mine is same = absurd (is_not (sym is ∙ ap (λ (x : DeskRow). x.phase) same ∙ mine))
row_posted Ended c all rest p r q mine is same = absurd (let bad : IsOpen ≡ Ended = sym is ∙ ap (λ (x : DeskRow). x.phase) same ∙ mine in cc)

row_lagged : (f : Phase) (c : ℕ) (all rest : List PostView) (p : PostView) (r q : DeskRow) → r.phase ≡ f → q.phase ≡ IsOpen → q.met + c ≤ length q.sent
    → IsSentSoFarIn f c all (p ∷ rest) r q → (left : List PostView) → IsSentSoFarIn f c all left r (lagging q)
row_lagged IsOpen c all rest p r q mine is full (inl way) left = inr (record {
  front = way.front;
  refused = p;
  behind = rest;
  due_is = way.split;
  full = omega (arith, full, ap (λ (x : DeskRow). x.met) way.row, ap (λ (x : DeskRow). length x.sent) way.row);
  row = ap lagging way.row;
})
row_lagged IsOpen c all rest p r q mine is full (inr lags) left = absurd (is_not (sym is ∙ ap (λ (x : DeskRow). x.phase) lags.row))
row_lagged Lagged c all rest p r q mine is full same left = absurd (is_not (sym is ∙ ap (λ (x : DeskRow). x.phase) same ∙ mine))
row_lagged Ended c all rest p r q mine is full same left = absurd (let bad : IsOpen ≡ Ended = sym is ∙ ap (λ (x : DeskRow). x.phase) same ∙ mine in cc)

row_skipped : (f : Phase) (c : ℕ) (all left : List PostView) (r q : DeskRow) → r.phase ≡ f → is_open q.phase ≡ false → IsSentSoFarIn f c all left r q → (rest : List PostView) → IsSentSoFarIn f c all rest r q
row_skipped IsOpen c all left r q mine shut (inl way) rest = absurd (let bad : true ≡ false = sym (ap is_open mine) ∙ sym (ap (λ (x : DeskRow). is_open x.phase) way.row) ∙ shut in cc)
row_skipped IsOpen c all left r q mine shut (inr lags) rest = inr lags
row_skipped Lagged c all left r q mine shut same rest = same
row_skipped Ended c all left r q mine shut same rest = same

-- ---- All rows

module _ (d : DeskView) (c : Command) (reply : Reply) (h : IsDesk d) where
  -- a command was accepted, and nothing was sent
  pub sent_first : floor_step (floor_of_desk d) (Apply c) ≡ (sending_floor d c d.rows (first_due d c), Ok (Replied reply)) → IsSendingPosts d c reply d.rows (first_due d c)
  sent_first step = record {
    sends = [];
    told = [];
    each = tt;
    done = tt;
    schedule = run_cons (floor_of_desk d) (Apply c) [] step refl ∙ ap (λ (ds : List Due). (sending_floor d c d.rows ds, Ok (Replied reply) ∷ [])) (sym (first_is_due d.capacity (posts_of d.journal c) d.rows (rows_rise d h)));
    kept = h.rows;
    rising = rows_rise d h;
    so_far = λ key r at.
        let ps = posts_of d.journal c in
        let is = due_all key ps (map (late_watcher d.capacity) d.rows) h.floor.rising ∙ ap (due_row ps) (watcher_there d.capacity key d.rows r at) in
        record { now = r; there = at; sent = begun r.phase r (due_for key (first_due d c)) (due_to r.scope ps) is };
  }
    where
      begun : (f : Phase) (r : DeskRow) (left all : List PostView) → left ≡ cond (is_open f) all [] → IsSentSoFarIn f d.capacity all left r r
      begun IsOpen r left all is = inl (record { front = []; split = sym is; row = ap (λ (l : List PostView). record r { sent = l }) (sym (append-nil r.sent)) })
      begun Lagged r left all is = refl
      begun Ended r left all is = refl

  -- what is left for an open row are the next posts that its watcher follows
  pub left_is_run : {rows : List DeskRow} {left : List Due} → IsSendingPosts d c reply rows left → (key : ℕ) {q : DeskRow} → row_at row_key key rows ≡ Some q → q.phase ≡ IsOpen → IsRun q.opening (q.sent ++ due_for key left)
  left_is_run {rows} {left} k key {q} at is =
      let f : IsFollower (sending_floor d c rows (still_due rows left)) (late_watcher d.capacity q) = (floor_stays (floor_of_desk d) (Apply c ∷ k.sends) h.floor k.schedule).rows key (late_watcher d.capacity q) (watcher_there d.capacity key rows q at) in
      let journal : List Command = d.journal ++ c ∷ [] in
      let next : f.not_posted ≡ due_for key left =
      sym (ap (λ p. cond (is_open p) f.not_posted []) is) ∙ sym f.due ∙ ap (λ n. due_for n (still_due rows left)) (row_at-key row_key key rows q at) ∙ still_for rows key (ap open_in at ∙ ap is_open is) left in
      subst (λ o. IsRun o (q.sent ++ due_for key left)) (sym f.opening)
      (is_run q.scope (take q.since journal) (drop q.since journal) (q.sent ++ due_for key left) [] (f.posted ∙ ap (λ l. q.sent ++ l) next ∙ sym (append-nil (q.sent ++ due_for key left))))

  -- what is sent next
  module _ {rows : List DeskRow} {e : Due} {left : List Due} {q : DeskRow} (k : IsSendingPosts d c reply rows (e ∷ left)) (at : row_at row_key e.key rows ≡ Some q) where
    abbrev before : FloorView
    before = sending_floor d c rows (still_due rows (e ∷ left))

    -- more was sent
    go_on : {rows' : List DeskRow} → Sends before (sending_floor d c rows' (still_due rows' left)) → AllByRecursion (IsDeskRow d.capacity) rows' → rises row_key rows' ≡ true
        → ((key : ℕ) (r : DeskRow) → row_at row_key key d.rows ≡ Some r → RowSoFar d.capacity (posts_of d.journal c) key r rows' left) → IsSendingPosts d c reply rows' left
    go_on more kept rising so_far = record {
      sends = k.sends ++ more.events;
      told = k.told ++ more.told;
      each = each_append IsSend k.sends more.events k.each more.each;
      done = each_append IsDone k.told more.told k.done more.done;
      schedule = joined (floor_of_desk d) _ (Apply c ∷ k.sends) more.events (Ok (Replied reply) ∷ k.told) more.told before k.schedule more.schedule;
      kept = kept;
      rising = rising;
      so_far = so_far;
    }

    -- the row of a key, once this one is another
    so_far_put : (q' : DeskRow) → q'.key ≡ q.key
        → ((f : Phase) (all : List PostView) (r : DeskRow) → r.phase ≡ f → IsSentSoFarIn f d.capacity all (e.post ∷ due_for e.key left) r q → IsSentSoFarIn f d.capacity all (due_for e.key left) r q')
        → (key : ℕ) (r : DeskRow) → row_at row_key key d.rows ≡ Some r → RowSoFar d.capacity (posts_of d.journal c) key r (put row_key q' rows) left
    so_far_put q' same go key r was = by (eqb e.key key) refl (k.so_far key r was)
      where
        by : (b : Bool) → eqb e.key key ≡ b → RowSoFar d.capacity (posts_of d.journal c) key r rows (e ∷ left) → RowSoFar d.capacity (posts_of d.journal c) key r (put row_key q' rows) left
        by true mine old =
            let here : e.key ≡ key = eqb-true e.key key mine in
            let two : ◌≡◌ {A = Option DeskRow} (Some old.now) (Some q) = sym old.there ∙ ap (λ n. row_at row_key n rows) (sym here) ∙ at in
            let is_q : old.now ≡ q = cc in
            let split : due_for key (e ∷ left) ≡ e.post ∷ due_for e.key left = ap (λ b. cond b (e.post ∷ due_for key left) (due_for key left)) mine ∙ ap (λ n. e.post ∷ due_for n left) (sym here) in
            let all = due_to r.scope (posts_of d.journal c) in
            record {
              now = q';
              there = put_same row_key key q' rows (sym here ∙ sym (same ∙ row_at-key row_key e.key rows q at));
              sent = subst (λ n. IsSentSoFarIn r.phase d.capacity all (due_for n left) r q') here (go r.phase all r refl (subst (λ (x : List PostView × DeskRow). IsSentSoFarIn r.phase d.capacity all x.0 r x.1) (λ i. (split i, is_q i)) old.sent));
            }
        by false other old = record {
          now = old.now;
          there = put_other row_key key q' rows (ap (λ n. eqb n key) (same ∙ row_at-key row_key e.key rows q at) ∙ other) ∙ old.there;
          sent = subst (λ (l : List PostView). IsSentSoFarIn r.phase d.capacity (due_to r.scope (posts_of d.journal c)) l r old.now) (ap (λ b. cond b (e.post ∷ due_for key left) (due_for key left)) other) old.sent;
        }

    -- this one is another, and the floor has sent what it tells
    row_becomes : (q' : DeskRow) {ds : List Due} → Sends before (sent_floor before ds (late_watcher d.capacity q')) → ds ≡ still_due (put row_key q' rows) left → IsDeskRow d.capacity q' → q'.key ≡ q.key
        → ((f : Phase) (all : List PostView) (r : DeskRow) → r.phase ≡ f → IsSentSoFarIn f d.capacity all (e.post ∷ due_for e.key left) r q → IsSentSoFarIn f d.capacity all (due_for e.key left) r q')
        → IsSendingPosts d c reply (put row_key q' rows) left
    row_becomes q' sends same row key go =
        let watchers = sym (put_watchers d.capacity q' rows) in
        go_on (subst (Sends before) (λ i. record before { due = same i; watchers = watchers i }) sends) (each_put (IsDeskRow d.capacity) q' rows k.kept row) (rises-put row_key q' rows k.rising) (so_far_put q' key go)

    module _ (is : q.phase ≡ IsOpen) where
      due_now : still_due rows (e ∷ left) ≡ e ∷ still_due rows left
      due_now = ap (λ b. cond b (e ∷ still_due rows left) (still_due rows left)) (ap open_in at ∙ ap is_open is)

      there : row_at watcher_key e.key before.watchers ≡ Some (late_watcher d.capacity q)
      there = watcher_there d.capacity e.key rows q at

      was_row : IsDeskRow d.capacity q
      was_row = each_at (IsDeskRow d.capacity) e.key rows q k.kept at

      -- a push was done
      sent_more : IsSendingPosts d c reply (put row_key (with_sent_post e.post q) rows) left
      sent_more =
          row_becomes (with_sent_post e.post q) (sent_step before q due_now there h.room was_row.met) (filter_agree (λ (x : Due). has_open_row rows x.key) _ (λ x. open_posted rows e.key e.post q at x.key) left)
          (post_keeps d.capacity e.post q was_row) refl (λ f all r mine sent. row_posted f d.capacity all (due_for e.key left) e.post r q mine is sent)

      -- a push found the queue full
      sent_lag : q.met + d.capacity ≤ length q.sent → IsSendingPosts d c reply (put row_key (lagging q) rows) left
      sent_lag full =
          row_becomes (lagging q) (full_sends before q due_now there full) (filter-two (λ (x : Due). not (eqb x.key e.key)) (λ (x : Due). has_open_row rows x.key) (λ (x : Due). has_open_row (put row_key (lagging q) rows) x.key) (λ x. open_lagged rows e.key q at x.key) left)
          (lag_rule d.capacity q is full was_row) refl (λ f all r mine sent. row_lagged f d.capacity all (due_for e.key left) e.post r q mine is full sent (due_for e.key left))

    -- nothing is sent to a row that is not open
    sent_skip : is_open q.phase ≡ false → IsSendingPosts d c reply (put row_key q rows) left
    sent_skip shut =
        let back : put row_key q rows ≡ rows = put_back row_key e.key q rows k.rising at in
        let same : still_due rows (e ∷ left) ≡ still_due rows left = ap (λ b. cond b (e ∷ still_due rows left) (still_due rows left)) (ap open_in at ∙ shut) in
        let nothing : Sends before (sending_floor d c rows (still_due rows left)) = record { events = []; told = []; each = tt; done = tt; schedule = ap (λ (ds : List Due). (sending_floor d c rows ds, [])) same } in
        subst (λ l. IsSendingPosts d c reply l left) (sym back) (go_on nothing k.kept k.rising
        (λ key r was. subst (λ l. RowSoFar d.capacity (posts_of d.journal c) key r l left) back (so_far_put q refl (λ f all r mine sent. row_skipped f d.capacity all (e.post ∷ due_for e.key left) r q mine shut sent (due_for e.key left)) key r was)))

    -- whatever it was
    pub sent_row : (q' : DeskRow) → IsSentOne d.capacity e.post q q' → IsSendingPosts d c reply (put row_key q' rows) left
    sent_row q' was = by q.phase refl was
      where
        by : (f : Phase) → q.phase ≡ f → IsSentOneIn f d.capacity e.post q q' → IsSendingPosts d c reply (put row_key q' rows) left
        by IsOpen is (inl same) = subst (λ x. IsSendingPosts d c reply (put row_key x rows) left) (sym same) (sent_more is)
        by IsOpen is (inr lags) = subst (λ x. IsSendingPosts d c reply (put row_key x rows) left) (sym lags.1) (sent_lag is lags.0)
        by Lagged is same = subst (λ x. IsSendingPosts d c reply (put row_key x rows) left) (sym same) (sent_skip (ap is_open is))
        by Ended is same = subst (λ x. IsSendingPosts d c reply (put row_key x rows) left) (sym same) (sent_skip (ap is_open is))

  -- all was sent
  module _ {rows : List DeskRow} (k : IsSendingPosts d c reply rows []) where
    abbrev pub sent_desk : DeskView
    sent_desk = record d { journal = d.journal ++ c ∷ []; rows = rows }

    -- so the desk stays one, and each row was sent what is due to it
    pub sent_stays : IsDesk sent_desk
    sent_stays = desk_stays d sent_desk (Apply c ∷ k.sends) h refl k.schedule k.kept

    all_sent : (f : Phase) (all : List PostView) (r now : DeskRow) → IsSentSoFarIn f d.capacity all [] r now → IsSentIn f d.capacity all r now
    all_sent IsOpen all r now (inl way) = inl (way.row ∙ ap (λ (l : List PostView). record r { sent = r.sent ++ l }) (sym (append-nil way.front) ∙ sym way.split))
    all_sent IsOpen all r now (inr lags) = inr lags
    all_sent Lagged all r now same = same
    all_sent Ended all r now same = same

    pub sent_all : IsApplied d c reply sent_desk
    sent_all = record {
      sends = k.sends;
      told = k.told;
      each = k.each;
      done = k.done;
      schedule = k.schedule;
      rows = λ key r at. let now = k.so_far key r at in (now.now, now.there, all_sent r.phase (due_to r.scope (posts_of d.journal c)) r now.now now.sent);
    }
