-- What a command and a new watcher do to the rows of a floor.
use Rattle.std.proofs.Common.{◌≡◌, ℕ, ◌+◌, Bool, true, false, cond, List, [], ◌∷◌, ◌++◌, map, length, take, drop, Option, Some, None, Ok, Err, refl, sym, ap, ◌∙◌, subst, arith, length-append}
use Rattle.std.specs.Prelude.{Result, nat_le, if◌then◌else◌}
use Rattle.std.specs.List.{filter, flat_map, list_any, AllByRecursion}
use Rattle.std.proofs.lemmas.List.{take-append-le, drop-append-le, map-append}
use Rattle.std.proofs.lemmas.List.Folds.{flat_map-map}
use Rattle.std.proofs.lemmas.Bool.Decides.{nat_tests}
use Rattle.std.proofs.lemmas.Bool.{lt-leb}
use Rattle.std.proofs.Math.Seq.{take-length}
use Rattle.mt_skel.specs.declared.fault.Fault.{Fault}
use Rattle.mt_skel.specs.declared.fault.Fault.TheVariants.{Stopped, JournalFull}
use Rattle.mt_skel.specs.Outcome.{refuse_if, first_fault}
use Rattle.mt_propagate.specs.World.{WorldView}
use Rattle.mt_events.specs.Posts.{PostView}
use Rattle.mt_events.specs.declared.opening.Scope.{Scope}
use Rattle.mt_events.specs.declared.opening.Opening.{Opening}
use Rattle.mt_events.specs.Following.{names_space}
use Rattle.mt_book.specs.declared.command.Command.{Command}
use Rattle.mt_book.specs.declared.command.Reply.{Reply}
use Rattle.mt_book.specs.declared.prepared.Prepared.{Prepared}
use Rattle.mt_book.specs.Step.{step, after}
use Rattle.mt_book.specs.History.{posts_of}
use Rattle.mt_book.specs.Book.{answer, reply_of, command_limit}
use Rattle.mt_book.specs.Kept.{IsPrepared}
use Rattle.mt_floor.specs.declared.watch.Phase.TheVariants.{Open as IsOpen}
use Rattle.mt_floor.specs.declared.event.Event.TheVariants.{Apply, Open}
use Rattle.mt_floor.specs.declared.event.Answer.TheVariants.{Replied, Opened}
use Rattle.mt_floor.specs.Watcher.{Watcher, Due, is_open, follows, due_pairs, opening_of, followed_posts}
use Rattle.mt_floor.specs.Schedule.{FloorView, floor_step, unless, replied, applied, opened, opening_refusal}
use Rattle.mt_floor.specs.Rows.{FloorRowView, new_floor_row, row_follows, due_if, watcher_of, floor_of, IsFloorRow, IsKeptFloor}
use Rattle.mt_floor.proofs.EffectLaws.{newcomer}
use Rattle.mt_floor.proofs.BeginLaws.{opens}
use Rattle.mt_floor.proofs.FloorLaws.{followed_more}
use Rattle.mt_skel.proofs.MiddleLaws.{each_last, each_still}
use Rattle.mt_floor.proofs.KeptLaws.{IsDone, not_late, follows_all, idle_there, done}

-- ---- what is due

-- of a post, and of posts: from rows and from watchers it is the same
due_to : (j : List Command) (p : PostView) (rows : List FloorRowView)
    → flat_map (due_if p) rows ≡ map (λ (r : Watcher). record { post = p; key = r.key }) (filter (follows p) (map (watcher_of j) rows))
due_to j p [] = refl
due_to j p (r ∷ rows) =
    let ih = due_to j p rows in
    elim (row_follows p r) as (λ b. cond b (record { post = p; key = r.key } ∷ []) [] ++ flat_map (due_if p) rows
    ≡ map (λ (w : Watcher). record { post = p; key = w.key }) (cond b (watcher_of j r ∷ filter (follows p) (map (watcher_of j) rows)) (filter (follows p) (map (watcher_of j) rows)))) [
      | true ↦ ap (λ (l : List Due). record { post = p; key = r.key } ∷ l) ih
      | false ↦ ih
    ]

due_of_all : (j : List Command) (ps : List PostView) (rows : List FloorRowView) → flat_map (λ p. flat_map (due_if p) rows) ps ≡ due_pairs ps (map (watcher_of j) rows)
due_of_all j [] rows = refl
due_of_all j (p ∷ ps) rows = (λ k. due_to j p rows k ++ due_of_all j ps rows k)

due_is : {X : Type 0} (g : X → PostView) (xs : List X) (j : List Command) (ps : List PostView) (rows : List FloorRowView) → map g xs ≡ ps
    → flat_map (λ x. flat_map (due_if (g x)) rows) xs ≡ due_pairs ps (map (watcher_of j) rows)
due_is g xs j ps rows e = sym (flat_map-map (λ p. flat_map (due_if p) rows) g xs) ∙ ap (flat_map (λ p. flat_map (due_if p) rows)) e ∙ due_of_all j ps rows

-- where no watcher is open, nothing is due
nobody_follows : (p : PostView) (j : List Command) (rows : List FloorRowView) → list_any (λ (r : FloorRowView). is_open r.phase) rows ≡ false → filter (follows p) (map (watcher_of j) rows) ≡ []
nobody_follows p j [] e = refl
nobody_follows p j (r ∷ rows) e = let ih = nobody_follows p j rows in grind (arith, nat_tests)

nothing_due : (ps : List PostView) (j : List Command) (rows : List FloorRowView) → list_any (λ (r : FloorRowView). is_open r.phase) rows ≡ false → due_pairs ps (map (watcher_of j) rows) ≡ []
nothing_due [] j rows e = refl
nothing_due (p ∷ ps) j rows e =
    ap (λ l. map (λ (r : Watcher). record { post = p; key = r.key }) l ++ due_pairs ps (map (watcher_of j) rows)) (nobody_follows p j rows e) ∙ nothing_due ps j rows e

-- what is due of all posts is due of those that were made
pub due_asked : (heard : Bool) (ps : List PostView) (j : List Command) (rows : List FloorRowView) → heard ≡ list_any (λ (r : FloorRowView). is_open r.phase) rows
    → due_pairs (cond heard ps []) (map (watcher_of j) rows) ≡ due_pairs ps (map (watcher_of j) rows)
due_asked true ps j rows e = refl
due_asked false ps j rows e = sym (nothing_due ps j rows (sym e))

-- ---- watchers, after one command more

module _ (c : ℕ) (j : List Command) (x : Command) where
  all_more : (r : FloorRowView) → IsFloorRow c j r → follows_all (j ++ x ∷ []) r ≡ follows_all j r ++ filter (λ (p : PostView). names_space r.scope p.space) (posts_of (take r.since j ++ drop r.since j) x)
  all_more r h =
      (λ k. followed_posts r.scope (take-append-le r.since j (x ∷ []) h.since k) (drop-append-le r.since j (x ∷ []) h.since k)) ∙ followed_more r.scope (take r.since j) (drop r.since j) x

  taken_more : (r : FloorRowView) → IsFloorRow c j r → take r.taken (follows_all (j ++ x ∷ []) r) ≡ take r.taken (follows_all j r)
  taken_more r h = ap (take r.taken) (all_more r h) ∙ take-append-le r.taken (follows_all j r) (filter (λ (p : PostView). names_space r.scope p.space) (posts_of (take r.since j ++ drop r.since j) x)) h.taken

  watcher_more : (r : FloorRowView) → IsFloorRow c j r → watcher_of (j ++ x ∷ []) r ≡ watcher_of j r
  watcher_more r h =
      let taken = taken_more r h in
      λ k. record { key = r.key; scope = r.scope; since = r.since; opening = opening_of (take-append-le r.since j (x ∷ []) h.since k) r.scope; sent = taken k ++ r.waiting; taken = taken k; phase = r.phase }

  watchers_more : (rows : List FloorRowView) → AllByRecursion (IsFloorRow c j) rows → map (watcher_of (j ++ x ∷ [])) rows ≡ map (watcher_of j) rows
  watchers_more [] h = refl
  watchers_more (r ∷ rows) h = λ k. watcher_more r h.0 k ∷ watchers_more rows h.1 k

  row_more : (r : FloorRowView) → IsFloorRow c j r → IsFloorRow c (j ++ x ∷ []) r
  row_more r h = record {
    since = omega (arith, h.since, length-append j (x ∷ []));
    taken = omega (arith, h.taken, ap (λ (l : List PostView). length l) (all_more r h), length-append (follows_all j r) (filter (λ (p : PostView). names_space r.scope p.space) (posts_of (take r.since j ++ drop r.since j) x)));
    room = h.room;
  }

-- ---- Apply

module _ {c : ℕ} {j : List Command} {l : ℕ} {st : Bool} {rows : List FloorRowView} {due : List Due} {s : FloorView} (h : IsKeptFloor c j l st rows due) (view : floor_of c j l st rows due ≡ s) (idle : s.due ≡ []) where
  abbrev here : FloorView
  here = floor_of c j l st rows due

  -- what a command does that may be tried
  tried : (x : Command) → floor_step here (Apply x) ≡ unless (first_fault (refuse_if st Stopped ∷ refuse_if (nat_le command_limit (length j)) JournalFull ∷ [])) here (replied here x (step (after j) x))
  unfolding floor_step
  tried x = not_late here (applied here x) (idle_there h view idle)

  pub apply_stopped : (x : Command) → st ≡ true → floor_step s (Apply x) ≡ (s, Err Stopped)
  apply_stopped x e = subst (λ f. floor_step f (Apply x) ≡ (f, Err Stopped)) view
      (tried x ∙ ap (λ b. unless (first_fault (refuse_if b Stopped ∷ refuse_if (nat_le command_limit (length j)) JournalFull ∷ [])) here (replied here x (step (after j) x))) e)

  pub apply_refused : (x : Command) {f : Fault} → st ≡ false → answer j x ≡ Err f → floor_step s (Apply x) ≡ (s, Err f)
  unfolding answer
  apply_refused x {f = f} e is = subst (λ v. floor_step v (Apply x) ≡ (v, Err f)) view
      (tried x ∙ ap (λ b. unless (first_fault (refuse_if b Stopped ∷ refuse_if (nat_le command_limit (length j)) JournalFull ∷ [])) here (replied here x (step (after j) x))) e ∙ by (nat_le command_limit (length j)) (step (after j) x) is)
    where
      by : (b : Bool) (q : Result (WorldView × Reply) Fault) → (if b then Err JournalFull else reply_of q) ≡ Err f → unless (first_fault (None ∷ refuse_if b JournalFull ∷ [])) here (replied here x q) ≡ (here, Err f)
      by true q r = let same : JournalFull ≡ f = cc in ap (λ y. (here, Err y)) same
      by false (Ok p) r = absurd (cc)
      by false (Err g) r = let same : g ≡ f = cc in ap (λ y. (here, Err y)) same

  -- the posts are read from where they are shared, and the rows behind a reference
  pub apply_done : {X : Type 0} (g : X → PostView) (xs : List X) (x : Command) {p : Prepared} {j' : List Command} {due' : List Due} {reply : Reply} {hearing asked : List FloorRowView} → st ≡ false → IsPrepared j p
      → p.heard ≡ list_any (λ (r : FloorRowView). is_open r.phase) hearing → hearing ≡ rows → p.command ≡ x → j' ≡ j ++ p.command ∷ []
      → due' ≡ flat_map (λ a. flat_map (due_if (g a)) asked) xs → asked ≡ rows → map g xs ≡ p.posts → reply ≡ p.reply → IsDone s (Apply x) (Ok (Replied reply)) c j' l st rows due'
  apply_done g xs x {p = p} {j' = j'} e q heard by same journal new to read is =
      let more : j' ≡ j ++ x ∷ [] = journal ∙ ap (λ y. j ++ y ∷ []) same in
      let open_rows = heard ∙ ap (list_any (λ (r : FloorRowView). is_open r.phase)) by in
      let made = new ∙ ap (λ rs. flat_map (λ a. flat_map (due_if (g a)) rs) xs) to ∙ due_is g xs j p.posts rows read in
      let posts = ap (λ ps. due_pairs ps (map (watcher_of j) rows)) (ap (posts_of j) (sym same)) ∙ sym (due_asked p.heard (posts_of j p.command) j rows open_rows) ∙ ap (λ ps. due_pairs ps (map (watcher_of j) rows)) (sym q.posts) ∙ sym made in
      let watchers = sym (watchers_more c j x rows h.each) ∙ ap (λ js. map (watcher_of js) rows) (sym more) in
      done h view (Apply x) (
      tried x
      ∙ (λ k. unless (first_fault (refuse_if (e k) Stopped ∷ refuse_if (lt-leb command_limit (length j) q.few k) JournalFull ∷ [])) here (replied here x (step (after j) x)))
      ∙ ap (replied here x) (ap (step (after j)) (sym same) ∙ q.accepted)
      ∙ (λ k. (record here { journal = sym more k; watchers = watchers k; due = posts k }, Ok (Replied (sym is k))))
      ) (subst (λ js. AllByRecursion (IsFloorRow c js) rows) (sym more) (each_still (IsFloorRow c j) (IsFloorRow c (j ++ x ∷ [])) (row_more c j x) rows h.each))

  -- ---- Open

  pub open_refused : (scope : Scope) {f : Fault} {o : Option Fault} → o ≡ opening_refusal s scope → o ≡ Some f → floor_step s (Open scope) ≡ (s, Err f)
  unfolding floor_step
  open_refused scope is some = not_late s (opened s scope) idle ∙ ap (λ x. unless x s (opens s scope, Ok (Opened s.next_key (opening_of s.journal scope)))) (sym is ∙ some)

  pub open_done : {scope : Scope} {o : Option Fault} {n : ℕ} {row : FloorRowView} {rows' : List FloorRowView} {found : Opening} → o ≡ opening_refusal s scope → o ≡ None
      → n ≡ length j → row ≡ new_floor_row (l + 1) scope n c → rows' ≡ rows ++ row ∷ [] → found ≡ opening_of j scope → IsDone s (Open scope) (Ok (Opened (l + 1) found)) c j (l + 1) st rows' due
  unfolding floor_step
  open_done {scope = scope} {row = row} is none since begun all opening =
      let new = begun ∙ ap (λ k. new_floor_row (l + 1) scope k c) since in
      let begins_so : watcher_of j (new_floor_row (l + 1) scope (length j) c) ≡ newcomer here scope = λ k. record { key = l + 1; scope = scope; since = length j; opening = opening_of (take-length j k) scope; sent = []; taken = []; phase = IsOpen } in
      let watchers = sym (ap (map (watcher_of j)) all ∙ map-append (watcher_of j) rows (row ∷ []) ∙ ap (λ w. map (watcher_of j) rows ++ w ∷ []) (ap (watcher_of j) new ∙ begins_so)) in
      done h view (Open scope) (
      not_late here (opened here scope) (idle_there h view idle)
      ∙ ap (λ x. unless x here (opens here scope, Ok (Opened (l + 1) (opening_of j scope)))) (ap (λ (f : FloorView). opening_refusal f scope) view ∙ sym is ∙ none)
      ∙ (λ k. (record here { next_key = l + 1 + 1; watchers = watchers k }, Ok (Opened (l + 1) (sym opening k))))
      ) (subst (AllByRecursion (IsFloorRow c j)) (sym all) (each_last (IsFloorRow c j) rows row h.each (subst (IsFloorRow c j) (sym new) (record { since = omega arith; taken = omega arith; room = omega arith }))))
