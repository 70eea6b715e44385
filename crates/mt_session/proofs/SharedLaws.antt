-- What a request finds at a desk whose watchers take, and what the calls of a desk answer to it.
use Rattle.std.proofs.Common.{◌≡◌, ◌≢◌, ◌≤◌, ◌∙◌, ℕ, zero, suc, true, false, List, [], ◌∷◌, ◌++◌, length, replicate, Option, Some, None, Ok, Err, refl, sym, ap, subst, arith, inl, inr, ◌⊎◌, Result, IfOk, OnOk, OnErr}
use Rattle.std.specs.Option.{ForSome, option_map_or}
use Rattle.std.proofs.lemmas.List.{append-nil, same_from_push}
use Rattle.mt_skel.specs.declared.fault.Fault.{Fault}
use Rattle.mt_skel.specs.declared.fault.Fault.TheVariants.{NoMemory, NoWatcher}
use Rattle.mt_skel.specs.Keyed.{row_at}
use Rattle.mt_skel.proofs.MiddleLaws.{row_mid}
use Rattle.mt_events.specs.Posts.{PostView}
use Rattle.mt_events.specs.Following.{IsRun}
use Rattle.mt_events.specs.declared.opening.Scope.{Scope}
use Rattle.mt_book.specs.declared.command.Command.{Command}
use Rattle.mt_book.specs.declared.command.Reply.{Reply}
use Rattle.mt_requests.specs.declared.request.Request.{Request}
use Rattle.mt_requests.specs.declared.request.Request.TheVariants.{Run, Watch, Take as AsksTake, Follow as AsksFollow, Close as AsksClose, Quit as AsksQuit, Stop as AsksStop}
use Rattle.mt_floor.specs.declared.event.Event.{Event}
use Rattle.mt_floor.specs.declared.event.Event.TheVariants.{Apply, Open, Take, Close}
use Rattle.mt_floor.specs.declared.event.Answer.{Answer}
use Rattle.mt_floor.specs.declared.event.Answer.TheVariants.{Replied, Opened, Closed}
use Rattle.mt_floor.specs.Schedule.{FloorView, floor_step, run, opening_refusal}
use Rattle.mt_floor.proofs.RunLaws.{run_told}
use Rattle.mt_desk.specs.Desk.{DeskRow, DeskView, IsDesk, row_key, floor_of_desk, new_desk_row, with_watcher}
use Rattle.mt_desk.specs.Calls.{WatcherView, IsApplied, IsClosed, unseen}
use Rattle.mt_desk.proofs.ScheduleLaws.{rows_rise, opened_stays}
use Rattle.mt_events.specs.Texts.{opening_text, posts_text}
use Rattle.mt_session.specs.Answers.{refusal, reply_text}
use Rattle.mt_session.specs.Requests.{replied_text, opened_text, closed_text, answer_to, SessionState}
use Rattle.mt_session.specs.declared.serving.End.{End}
use Rattle.mt_session.specs.declared.serving.End.TheVariants.{Memory}
use Rattle.mt_session.specs.declared.shared_answer.Then.{Then}
use Rattle.mt_desk.specs.declared.act.Act.{Act}
use Rattle.mt_desk.specs.declared.act.Act.TheVariants as act
use Rattle.mt_desk.specs.declared.act.LogEntry.{LogEntry}
use Rattle.mt_desk.specs.Entries.{WitnessView, entries}
use Rattle.mt_desk.specs.Held.{HeldView, IsLogged}
use Rattle.mt_session.specs.SharedTurns.{SharedView, IsAtDesk, is_under_lock, SeesOn, accepted_act, acts_at, floor_seen, found_state, with_taken_posts, IsBegun, IsDoneBy, IsUndoneBy, HasTaken, HasEnded}
use Rattle.mt_session.specs.Session.{ends_by}
use Rattle.mt_session.specs.SharedSession.{IsAnsweredAt, IsAnswered, IsNotDoneAt, takes_posts, HasLeft}
use Rattle.mt_session.specs.SharedServing.{HasEndedAt, EndsWith, IsPiece}
use Rattle.mt_session.proofs.SightLaws.{sees_at}
use Rattle.mt_session.proofs.TurnLaws.{apply_told, apply_refused, open_told, open_found, open_refused, close_posts}

-- ---- A floor that only takes

take_watchers : (s : FloorView) (key : ℕ) → (floor_step s (Take key)).0 ≡ record s { watchers = (floor_step s (Take key)).0.watchers }
unfolding floor_step
take_watchers s key = grind arith

-- takes change the watchers alone
takes_watchers : (s : FloorView) (key n : ℕ) → (run s (replicate n (Take key))).0 ≡ record s { watchers = (run s (replicate n (Take key))).0.watchers }
takes_watchers s key zero = refl
takes_watchers s key (suc n) =
    let now = floor_step s (Take key) in
    takes_watchers now.0 key n ∙ ap (λ (t : FloorView). record t { watchers = (run now.0 (replicate n (Take key))).0.watchers }) (take_watchers s key)

-- so the floor that a request finds is that of the desk but for its watchers
seen_watchers : (d : DeskView) (w : Option WatcherView) → floor_seen d w ≡ record (floor_of_desk d) { watchers = (floor_seen d w).watchers }
seen_watchers d None = refl
seen_watchers d (Some w) =
    let seen : Option DeskRow → FloorView = λ o. option_map_or (λ (r : DeskRow). (run (floor_of_desk d) (replicate (unseen d.capacity r w.half) (Take w.key))).0) o (floor_of_desk d) in
    elim (row_at row_key w.key d.rows) as (λ o. seen o ≡ record (floor_of_desk d) { watchers = (seen o).watchers }) [ None ↦ refl | Some r ↦ takes_watchers (floor_of_desk d) w.key (unseen d.capacity r w.half) ]

pub seen_journal : (d : DeskView) (w : Option WatcherView) → (floor_seen d w).journal ≡ d.journal
seen_journal d w = ap (λ (s : FloorView). s.journal) (seen_watchers d w)

pub seen_replied : (d : DeskView) (w : Option WatcherView) (c : Command) → replied_text (floor_seen d w) c ≡ replied_text (floor_of_desk d) c
seen_replied d w c = ap (λ (s : FloorView). replied_text s c) (seen_watchers d w)

seen_idle : (d : DeskView) (w : Option WatcherView) → (floor_seen d w).due ≡ []
seen_idle d w = ap (λ (s : FloorView). s.due) (seen_watchers d w)

-- ---- Commands

pub command_told : (d now : DeskView) (c : Command) (reply : Reply) (text : List ℕ) → IsApplied d c reply now → text ≡ reply_text reply → text ≡ replied_text (floor_of_desk d) c
command_told d now c reply text a told =
    let s : FloorView = floor_of_desk d in
    let answers : ◌≡◌ {A = List (Result Answer Fault)} ((floor_step s (Apply c)).1 ∷ (run (floor_step s (Apply c)).0 a.sends).1) (Ok (Replied reply) ∷ a.told) = ap (λ (p : FloorView × List (Result Answer Fault)). p.1) a.schedule in
    let first : (floor_step s (Apply c)).1 ≡ Ok (Replied reply) = cc in
    let t = apply_told s (floor_step s (Apply c)).0 refl c (Replied reply) (ap (λ (r : Result Answer Fault). ((floor_step s (Apply c)).0, r)) first) in
    let same : reply ≡ t.0 = let is = t.1 in cc in
    told ∙ ap reply_text same ∙ sym t.2

pub command_refused : (d : DeskView) (c : Command) (f : Fault) (r : Result (List ℕ) Fault) → (f ≢ NoMemory → floor_step (floor_of_desk d) (Apply c) ≡ (floor_of_desk d, Err f))
    → IfOk r (λ text. (text ≡ refusal f) × (f ≢ NoMemory)) → IfOk r (λ text. text ≡ replied_text (floor_of_desk d) c)
command_refused d c f (Ok text) step told = told.0 ∙ sym (apply_refused (floor_of_desk d) (floor_of_desk d) refl c f (step told.1))
command_refused d c f (Err g) step told = told

-- ---- Watchers that begin

pub watch_told : (d now : DeskView) (scope : Scope) (w : WatcherView) (text : List ℕ) → floor_step (floor_of_desk d) (Open scope) ≡ (floor_of_desk now, Ok (Opened w.key w.half.opening))
    → text ≡ opening_text w.half.opening → text ≡ opened_text (floor_of_desk d) scope
watch_told d now scope w text step told = told ∙ sym (open_told (floor_of_desk d) (floor_of_desk now) refl scope (Opened w.key w.half.opening) w.key w.half.opening step refl).0

pub watch_begun : (d now : DeskView) (scope : Scope) (w : WatcherView) → floor_step (floor_of_desk d) (Open scope) ≡ (floor_of_desk now, Ok (Opened w.key w.half.opening)) → now ≡ with_watcher d scope
    → w.key ≡ d.next_key → w.half.taken ≡ [] → IsBegun d scope now (Some w)
watch_begun d now scope w step desk key none = (desk, key, (open_found (floor_of_desk d) (floor_of_desk now) refl scope w.key w.half.opening step).1, none)

pub watch_refused : (d : DeskView) (scope : Scope) (f : Fault) (r : Result (List ℕ) Fault) → (f ≢ NoMemory → floor_step (floor_of_desk d) (Open scope) ≡ (floor_of_desk d, Err f))
    → IfOk r (λ text. (text ≡ refusal f) × (f ≢ NoMemory)) → IfOk r (λ text. text ≡ opened_text (floor_of_desk d) scope)
watch_refused d scope f (Ok text) step told = told.0 ∙ sym (open_refused (floor_of_desk d) (floor_of_desk d) refl scope f (step told.1)).0
watch_refused d scope f (Err g) step told = told

-- a watcher that began and was closed again: no post was sent to it
begun_closed : (d held now : DeskView) (scope : Scope) (w : WatcherView) (posts : List PostView) → IsDesk d → opening_refusal (floor_of_desk d) scope ≡ None → IsBegun d scope held (Some w) → IsClosed held w posts now
    → IsClosed held w [] now
begun_closed d held now scope w posts h accepts b c =
    let after : DeskView = with_watcher d scope in
    let last : row_at row_key d.next_key after.rows ≡ Some (new_desk_row d scope) = row_mid row_key d.rows [] (new_desk_row d scope) (rows_rise after (opened_stays d scope h accepts)) in
    let there : row_at row_key d.next_key after.rows ≡ Some c.row = ap (λ k. row_at row_key k after.rows) (sym b.1) ∙ ap (λ (t : DeskView). row_at row_key w.key t.rows) (sym b.0) ∙ c.there in
    let both : ◌≡◌ {A = Option DeskRow} (Some (new_desk_row d scope)) (Some c.row) = sym last ∙ there in
    let same : new_desk_row d scope ≡ c.row = cc in
    let none : [] ≡ posts = ap (λ (r : DeskRow). r.sent) same ∙ c.halved.split ∙ ap (λ (l : List PostView). l ++ posts) b.3 in
    subst (λ (ps : List PostView). IsClosed held w ps now) (sym none) c

pub watch_undone : (d held now : DeskView) (own : Option WatcherView) (scope : Scope) (w : WatcherView) (posts : List PostView) → own ≡ None → IsDesk d
    → floor_step (floor_of_desk d) (Open scope) ≡ (floor_of_desk held, Ok (Opened w.key w.half.opening)) → held ≡ with_watcher d scope → w.key ≡ d.next_key → w.half.taken ≡ [] → IsClosed held w posts now
    → IsUndoneBy d None (Watch scope) now own
watch_undone d held now own scope w posts none h step desk key empty c =
    let begun = watch_begun d held scope w step desk key empty in
    let accepts = (open_found (floor_of_desk d) (floor_of_desk held) refl scope w.key w.half.opening step).0 in
    (none, inr (held, w, begun, begun_closed d held now scope w posts h accepts begun c))

-- ---- Watchers that go

pub end_told : (d now : DeskView) (w : WatcherView) (posts : List PostView) → IsClosed d w posts now → closed_text (floor_seen d (Some w)) w.key ≡ posts_text posts
end_told d now w posts c =
    let s : FloorView = floor_of_desk d in
    let takes : List Event = replicate (unseen d.capacity c.row w.half) (Take w.key) in
    let before : FloorView = (run s takes).0 in
    let seen : floor_seen d (Some w) ≡ before = ap (λ (o : Option DeskRow). option_map_or (λ (r : DeskRow). (run s (replicate (unseen d.capacity r w.half) (Take w.key))).0) o s) c.there in
    let answers : (run s takes).1 ++ (floor_step before (Close w.key)).1 ∷ [] ≡ c.told ++ Ok (Closed posts) ∷ [] =
    sym (run_told s takes (Close w.key ∷ [])) ∙ ap (λ (p : FloorView × List (Result Answer Fault)). p.1) c.schedule in
    let last : (floor_step before (Close w.key)).1 ≡ Ok (Closed posts) = (same_from_push (run s takes).1 c.told _ _ answers).1 in
    let idle : before.due ≡ [] = ap (λ (t : FloorView). t.due) (sym seen) ∙ seen_idle d (Some w) in
    ap (λ (t : FloorView). closed_text t w.key) seen ∙ close_posts before (floor_step before (Close w.key)).0 idle w.key posts (ap (λ (r : Result Answer Fault). ((floor_step before (Close w.key)).0, r)) last)

-- ---- Requests that ask for no watcher

-- what is told is what a request is answered
pub told_as : (s : SessionState) (q asked : Request) (r : Result (List ℕ) Fault) (told : List ℕ) → q ≡ asked → told ≡ answer_to s asked → IfOk r (λ text. text ≡ told) → IfOk r (λ text. text ≡ answer_to s q)
told_as s q asked r told is same ok = rw (is, ← same) ok

-- ---- Posts that were taken and could not be printed

pub lost_posts : (own own' : Option WatcherView) (w w' : WatcherView) (posts : List PostView) (most : ℕ) → own ≡ Some w → own' ≡ Some w' → w' ≡ with_taken_posts w posts → length posts ≤ most → IsRun w'.half.opening w'.half.taken
    → ForSome own (λ (v : WatcherView). (lost : List PostView) × (v' : WatcherView) × HasTaken v lost v' × (own' ≡ Some v') × (length lost ≤ most))
lost_posts own own' w w' posts most is is' taken within run = λ v at.
    let same : w ≡ v = let both = sym is ∙ at in cc in
    rw (← same) (posts, w', (w.half.told, omega arith, taken, rw taken at run), is', within)

-- ---- What is done while the desk is held

-- an answer of so many acts, of which the session has seen the end
locked_answered : (s s' : SharedView) (r : Request) (d now : HeldView) (answer : Result (List ℕ) Fault)
    → IsAtDesk s.sight d.desk d.log → IfOk answer (λ text. text ≡ answer_to (found_state d.desk s.own) r) → OnOk answer (IsDoneBy d.desk s.own r now.desk s'.own)
    → OnOk answer (now.log ≡ d.log ++ entries s.sight.by (acts_at d.desk r)) → s'.sight ≡ record s.sight { seen = now.log } → IfOk answer (λ text. IsAnsweredAt s r text s')
locked_answered s s' r d now (Ok text) at told done log sight = record {
  desk = d.desk;
  log = d.log;
  now = now.desk;
  kept = at;
  done = done;
  sight = sight ∙ ap (λ (l : List LogEntry). record s.sight { seen = l }) log;
  answer = told;
}
locked_answered s s' r d now (Err f) at told done log sight = told

locked_undone : (s s' : SharedView) (r : Request) (d now : HeldView) (answer : Result (List ℕ) Fault)
    → IsAtDesk s.sight d.desk d.log → OnErr answer (IsUndoneBy d.desk s.own r now.desk s'.own) → OnErr answer (now.log ≡ d.log) → s'.sight ≡ record s.sight { seen = now.log } → OnErr answer (IsNotDoneAt s r s')
locked_undone s s' r d now (Ok text) at undone log sight = undone
locked_undone s s' r d now (Err f) at undone log sight =
    record { desk = d.desk; log = d.log; now = now.desk; kept = at; undone = undone; sight = sight ∙ ap (λ (l : List LogEntry). record s.sight { seen = l }) log }

-- a request other than of posts is answered at the desk, or is not done for want of memory: then it is none that ends the session
at_desk : (s s' : SharedView) (r : Request) (text : List ℕ) → is_under_lock r ≡ true → IsAnsweredAt s r text s' → IsAnswered s (Ok r) text s'
at_desk s s' (AsksTake k) text lock a = cc
at_desk s s' (AsksFollow k) text lock a = cc
at_desk s s' r text lock a = a

undone_goes : (d now : DeskView) (w w' : Option WatcherView) (r : Request) → IsUndoneBy d w r now w' → ends_by (Ok r) ≡ None
undone_goes d now None w' AsksQuit u = absurd u
undone_goes d now (Some w) w' AsksQuit u = absurd u
undone_goes d now None w' AsksStop u = absurd u
undone_goes d now (Some w) w' AsksStop u = absurd u
undone_goes d now w w' r u = refl

takes_none : (r : Request) → is_under_lock r ≡ true → r ≢ AsksClose → takes_posts r ≡ false
takes_none (AsksTake k) lock other = cc
takes_none (AsksFollow k) lock other = cc
takes_none AsksClose lock other = absurd (other refl)
takes_none r lock other = refl

-- so its answer is a single piece
pub answered_piece : (s s' : SharedView) (r : Request) (d now : HeldView) (answer : Result (List ℕ) Fault) (text : List ℕ) (end : Option End) (p : Option (List ℕ)) (n : Then) → answer ≡ Ok text
    → IsAtDesk s.sight d.desk d.log → IfOk answer (λ text. text ≡ answer_to (found_state d.desk s.own) r) → OnOk answer (IsDoneBy d.desk s.own r now.desk s'.own)
    → OnOk answer (now.log ≡ d.log ++ entries s.sight.by (acts_at d.desk r)) → s'.sight ≡ record s.sight { seen = now.log }
    → is_under_lock r ≡ true → end ≡ ends_by (Ok r) → EndsWith text end p n → IsPiece s r [] p n s'
answered_piece s s' r d now answer text end p n ok at told done log sight lock ends last =
    let a : IfOk answer (λ text. IsAnsweredAt s r text s') = locked_answered s s' r d now answer at told done log sight in
    rw (last.0, last.1) (inl (inl (at_desk s s' r text lock (rw ok at a)), ends))

pub undone_piece : (s s' : SharedView) (r : Request) (d now : HeldView) (answer : Result (List ℕ) Fault) (f : Fault) (p : Option (List ℕ)) (n : Then) → answer ≡ Err f
    → IsAtDesk s.sight d.desk d.log → OnErr answer (IsUndoneBy d.desk s.own r now.desk s'.own) → OnErr answer (now.log ≡ d.log) → s'.sight ≡ record s.sight { seen = now.log }
    → is_under_lock r ≡ true → r ≢ AsksClose → EndsWith (refusal NoMemory) None p n → IsPiece s r [] p n s'
undone_piece s s' r d now answer f p n err at undone log sight lock other last =
    let u : OnErr answer (IsNotDoneAt s r s') = locked_undone s s' r d now answer at undone log sight in
    let not_done : IsNotDoneAt s r s' = rw err at u in
    rw (last.0, last.1) (inl (inr (refl, inr (takes_none r lock other, not_done)), sym (undone_goes not_done.desk not_done.now s.own s'.own r not_done.undone)))

-- an accepted command, and a refused one
pub applied_acts : (d now : DeskView) (c : Command) (reply : Reply) → IsApplied d c reply now → acts_at d (Run c) ≡ act.Apply c ∷ []
applied_acts d now c reply a =
    let s : FloorView = floor_of_desk d in
    let answers : ◌≡◌ {A = List (Result Answer Fault)} ((floor_step s (Apply c)).1 ∷ (run (floor_step s (Apply c)).0 a.sends).1) (Ok (Replied reply) ∷ a.told) = ap (λ (p : FloorView × List (Result Answer Fault)). p.1) a.schedule in
    let first : (floor_step s (Apply c)).1 ≡ Ok (Replied reply) = cc in
    ap (accepted_act c) first

pub refused_acts : (d : DeskView) (c : Command) (f : Fault) → floor_step (floor_of_desk d) (Apply c) ≡ (floor_of_desk d, Err f) → acts_at d (Run c) ≡ []
refused_acts d c f is = ap (λ (p : FloorView × Result Answer Fault). accepted_act c p.1) is

-- nothing comes to the history
pub same_log : (log now : List LogEntry) (by : ℕ) (acts : List Act) → now ≡ log → acts ≡ [] → now ≡ log ++ entries by acts
same_log log now by acts same none = same ∙ sym (append-nil log) ∙ ap (λ (as' : List Act). log ++ entries by as') (sym none)

pub refused_log : (d now : HeldView) (by : ℕ) (c : Command) (f : Fault) (r : Result (List ℕ) Fault) → now ≡ d → (f ≢ NoMemory → floor_step (floor_of_desk d.desk) (Apply c) ≡ (floor_of_desk d.desk, Err f))
    → IfOk r (λ text. (text ≡ refusal f) × (f ≢ NoMemory)) → OnOk r (now.log ≡ d.log ++ entries by (acts_at d.desk (Run c)))
refused_log d now by c f (Ok text) same step told = same_log d.log now.log by (acts_at d.desk (Run c)) (ap (λ (v : HeldView). v.log) same) (refused_acts d.desk c f (step told.1))
refused_log d now by c f (Err g) same step told = told

-- ---- A session that ends its watcher

ended_left : (d now : DeskView) (w : Option WatcherView) (posts : Option (List PostView)) (seen : List LogEntry) → IsDesk d → IsLogged d seen → HasEnded d w posts now → HasLeft w seen
ended_left d now None posts seen kept logged h = (d, kept, logged)
ended_left d now (Some w) None seen kept logged h = absurd h
ended_left d now (Some w) (Some posts) seen kept logged h = (d, posts, now, kept, logged, h.0, h.1)

-- it has seen the history so far
ended_seen : (s : SharedView) (posts : Option (List PostView)) (v' : WitnessView) (h : HasEndedAt s posts v') → IsLogged h.desk v'.seen
ended_seen s posts v' h = subst (λ (l : List LogEntry). IsLogged h.desk l) (sym (ap (λ (v : WitnessView). v.seen) h.sight)) h.kept.1

-- and so has left the desk
pub end_left : (s : SharedView) (posts : Option (List PostView)) (v' : WitnessView) → HasEndedAt s posts v' → HasLeft s.own v'.seen
end_left s posts v' h = ended_left h.desk h.now s.own posts v'.seen h.kept.0 (ended_seen s posts v' h) h.ended

pub end_sees : (s : SharedView) (posts : Option (List PostView)) (v' : WitnessView) → HasEndedAt s posts v' → SeesOn s.sight v'
end_sees s posts v' h = sees_at s.sight v' h.desk h.log h.kept h.sight

-- a close comes to nothing in the history
close_sight : (s : SharedView) (posts : Option (List PostView)) (v' : WitnessView) (h : HasEndedAt s posts v') → v' ≡ record s.sight { seen = h.log ++ entries s.sight.by (acts_at h.desk AsksClose) }
close_sight s posts v' h = h.sight ∙ ap (λ (l : List LogEntry). record s.sight { seen = l }) (sym (append-nil h.log))

-- it is told what had been sent and not taken: the answer to a `close`
pub close_told : (w : Option WatcherView) (v : WitnessView) (s' : SharedView) (posts : Option (List PostView)) (p : Option (List ℕ)) (n : Then)
    → HasEndedAt (record { own = w; sight = v }) posts s'.sight → s'.own ≡ None → (posts ≡ None → EndsWith (refusal NoWatcher) None p n)
    → ForSome posts (λ told. EndsWith (posts_text told) None p n ⊎ EndsWith (refusal NoMemory) (Some Memory) p n) → IsPiece (record { own = w; sight = v }) AsksClose [] p n s'
unfolding answer_to
close_told None v s' None p n h gone none some =
    let last = none refl in
    let sight = close_sight (record { own = None; sight = v }) None s'.sight h in
    rw (last.0, last.1) (inl (inl record { desk = h.desk; log = h.log; now = h.now; kept = h.kept; done = (h.ended.1, gone); sight = sight; answer = refl }, refl))
close_told None v s' (Some posts) p n h gone none some = let is = h.ended.0 in cc
close_told (Some w) v s' None p n h gone none some = absurd h.ended
close_told (Some w) v s' (Some posts) p n h gone none some =
    let s : SharedView = record { own = Some w; sight = v } in
    let left : HasLeft (Some w) s'.sight.seen = (h.desk, posts, h.now, h.kept.0, ended_seen s (Some posts) s'.sight h, h.ended.0, h.ended.1) in
    elim (some posts refl) [
      | inl last ↦ rw (last.0, last.1) (inl (inl record { desk = h.desk; log = h.log; now = h.now; kept = h.kept; done = (posts, h.ended.0, gone, h.ended.1); sight = close_sight s (Some posts) s'.sight h; answer = sym (end_told h.desk h.now w posts h.ended.0) }, refl))
      | inr last ↦ rw (last.0, last.1) (inr ((h.desk, h.now, posts, h.kept.0, ended_seen s (Some posts) s'.sight h, h.ended.0, h.ended.1, refl), rw gone left, end_sees s (Some posts) s'.sight h, refl))
    ]
