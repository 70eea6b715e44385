-- The lines of a session are a schedule, and its watchers are told their posts.
use Rattle.std.proofs.Common.{◌≡◌, ◌∙◌, ℕ, Bool, true, false, List, [], ◌∷◌, ◌++◌, length, Option, Some, None, slice_get, Ok, refl, sym, ap, subst, append_assoc, arith, Result, if◌then◌else◌}
use Rattle.std.specs.Option.{option_map_or}
use Rattle.mt_skel.specs.declared.fault.Fault.{Fault}
use Rattle.mt_skel.specs.declared.fault.Fault.TheVariants.{NoMemory as WantsMemory}
use Rattle.mt_events.specs.declared.opening.Scope.{Scope}
use Rattle.mt_events.specs.declared.opening.Opening.{Opening}
use Rattle.mt_events.specs.Texts.{opening_text}
use Rattle.mt_floor.specs.declared.event.Event.{Event}
use Rattle.mt_floor.specs.declared.event.Event.TheVariants.{Open}
use Rattle.mt_floor.specs.declared.event.Answer.{Answer}
use Rattle.mt_floor.specs.declared.event.Answer.TheVariants.{Opened}
use Rattle.mt_floor.specs.Watcher.{opening_of}
use Rattle.mt_floor.specs.Schedule.{FloorView, empty_floor, floor_step, run, settled, opening_refusal}
use Rattle.mt_floor.specs.WellFormed.{IsFloor}
use Rattle.mt_floor.specs.Headline.{answers, floor_after, given_by, given_posts, given_since}
use Rattle.mt_floor.proofs.RunLaws.{run_state}
use Rattle.mt_floor.proofs.HeadLaws.{in_order}
use Rattle.mt_floor.proofs.TableLaws.{rebuild}
use Rattle.mt_floor.proofs.GivenLaws.{given_in_order, after_well}
use Rattle.mt_floor.proofs.SinceLaws.{given_behind, at_seam}
use Rattle.mt_requests.specs.declared.request.Request.{Request}
use Rattle.mt_requests.specs.declared.request.Request.TheVariants.{Watch}
use Rattle.mt_session.specs.Answers.{refusal}
use Rattle.mt_session.specs.Requests.{SessionState, session_state, session_at, answer_to, state_to, left}
use Rattle.mt_session.specs.Session.{Turn, Growth, Granted, Refused, Unshown, request_of_line, may_fail, may_be_unshown, granted_state, answer_of, answer_with, state_with, answer_to_turn, state_after_turn, state_after, Served}
use Rattle.mt_session.specs.Headline.{sends, leaves, events_to, granted_events, events_with, events_of, session_events, session_told, HasHeard, IsTranscript, SessionsFollow}
use Rattle.mt_session.specs.declared.serving.End.{End}
use Rattle.mt_session.proofs.SessionLaws.{state_after-append}
use Rattle.mt_session.proofs.TurnLaws.{settled_due}
use Rattle.mt_session.proofs.GivingLaws.{Rests, turn_rests, line_turn, lines_turn, leaves_turn, open_told}

-- ---- a watcher that begins with a line

record Began (s : SessionState) (key : ℕ) (es : List Event) (text : List ℕ) : Type 0 where
  event : Event
  opening : Opening
  only : es ≡ event ∷ []
  answer : (floor_step s.floor event).1 ≡ Ok (Opened key opening)
  told : text ≡ opening_text opening

no_watcher : {A : Type 0} (key : ℕ) → ◌≡◌ {A = Option ℕ} None (Some key) → A
no_watcher key is = absurd (cc)

watch_began : (f : FloorView) (scope : Scope) (key : ℕ) → f.due ≡ [] → (o : Option Fault) → opening_refusal f scope ≡ o → option_map_or (λ x. None) o (Some f.next_key) ≡ Some key
    → Began (session_state f None) key (Open scope ∷ []) (option_map_or (λ x. refusal x) o (opening_text (opening_of f.journal scope)))
watch_began f scope key idle None none is =
    let same : f.next_key ≡ key = cc in record {
      event = Open scope;
      opening = opening_of f.journal scope;
      only = refl;
      answer = open_told f scope idle none ∙ ap (λ k. Ok (Opened k (opening_of f.journal scope))) same;
      told = refl;
    }
watch_began f scope key idle (Some x) some is = no_watcher key is

granted_began : (f : FloorView) (q : Result Request Fault) (key : ℕ) → f.due ≡ [] → (granted_state (session_state f None) q).watcher ≡ Some key
    → Began (session_state f None) key (granted_events (session_state f None) q) (answer_of (session_state f None) q)
unfolding state_to events_to answer_to
granted_began f (Ok (Watch scope)) key idle is = watch_began f scope key idle (opening_refusal f scope) refl is
granted_began f q key idle is = no_watcher key is

left_none : (s : SessionState) → (left s).watcher ≡ None
left_none s = grind arith

-- none begins where want of memory stands in place of an answer
unless_began : (f : FloorView) (q : Result Request Fault) (key : ℕ) (other : SessionState) (es : List Event) (text : List ℕ) (b : Bool) → f.due ≡ [] → other.watcher ≡ None
    → (if b then other else granted_state (session_state f None) q).watcher ≡ Some key
    → Began (session_state f None) key (if b then es else granted_events (session_state f None) q) (if b then text else answer_of (session_state f None) q)
unless_began f q key other es text true idle none is = no_watcher key (sym none ∙ is)
unless_began f q key other es text false idle none is = granted_began f q key idle is

began_with : (f : FloorView) (g : Growth) (q : Result Request Fault) (key : ℕ) → f.due ≡ [] → (state_with (session_state f None) g q).watcher ≡ Some key
    → Began (session_state f None) key (events_with (session_state f None) g q) (answer_with (session_state f None) g q)
began_with f Granted q key idle is = granted_began f q key idle is
began_with f Refused q key idle is = unless_began f q key (session_state f None) [] (refusal WantsMemory) (may_fail (session_state f None) q) idle refl is
began_with f Unshown q key idle is =
    let s = granted_state (session_state f None) q in
    unless_began f q key (left s) (granted_events (session_state f None) q ++ leaves s) (refusal WantsMemory) (may_be_unshown (session_state f None) q) idle (left_none s) is

began_line : (s : SessionState) (turn : Turn) (key : ℕ) → s.floor.due ≡ [] → s.watcher ≡ None → (state_after_turn s turn).watcher ≡ Some key → Began s key (events_of s turn) (answer_to_turn s turn)
unfolding state_after_turn events_of answer_to_turn
began_line s turn key idle none is =
    let q = request_of_line turn.line in
    let P : Option ℕ → Type 0 = λ w. (state_with (session_state s.floor w) turn.growth q).watcher ≡ Some key → Began (session_state s.floor w) key (events_with (session_state s.floor w) turn.growth q) (answer_with (session_state s.floor w) turn.growth q) in
    subst P (sym none) (began_with s.floor turn.growth q key idle) is

-- ---- the schedule

events-append : (front behind : List Turn) (s : SessionState) → session_events (front ++ behind) s ≡ session_events front s ++ session_events behind (state_after front s)
events-append [] behind s = refl
events-append (turn ∷ front) behind s =
    ap (λ l. events_of s turn ++ l) (events-append front behind (state_after_turn s turn))
    ∙ sym (append_assoc (events_of s turn) (session_events front (state_after_turn s turn)) (session_events behind (state_after front (state_after_turn s turn))))

-- the floor behind events, and then lines
leads : (capacity : ℕ) (before : List Event) (turns : List Turn) (s : SessionState) → s.floor ≡ floor_after capacity before → Rests s → (state_after turns s).floor ≡ floor_after capacity (before ++ session_events turns s)
leads capacity before turns s from h =
    sym (lines_turn 0 turns s h).floor ∙ ap (λ (f : FloorView). (run f (session_events turns s)).0) from ∙ sym (run_state (empty_floor capacity) before (session_events turns s))

module _ (capacity : ℕ) (before : List Event) (front : List Turn) (turn : Turn) (behind : List Turn) (s : SessionState) (key : ℕ) (from : s.floor ≡ floor_after capacity before) (h : Rests s) where
  abbrev here : SessionState
  here = state_after front s

  abbrev next : SessionState
  next = state_after_turn here turn

  abbrev earlier : List Event
  earlier = before ++ session_events front s

  rests_here : Rests here
  rests_here = turn_rests h (lines_turn 0 front s h)

  rests_next : Rests next
  rests_next = turn_rests rests_here (line_turn 0 here turn rests_here)

  module _ (none : here.watcher ≡ None) (is : next.watcher ≡ Some key) where
    began : Began here key (events_of here turn) (answer_to_turn here turn)
    began = began_line here turn key rests_here.idle none is

    abbrev rest : List Event
    rest = session_events behind next

    -- the events of all lines
    events_are : before ++ session_events (front ++ turn ∷ behind) s ≡ earlier ++ began.event ∷ rest
    events_are =
        ap (λ l. before ++ l) (events-append front (turn ∷ behind) s ∙ ap (λ l. session_events front s ++ (l ++ rest)) began.only)
        ∙ sym (append_assoc before (session_events front s) (began.event ∷ rest))

    here_is : here.floor ≡ floor_after capacity earlier
    here_is = leads capacity before front s from h

    opened_at : slice_get (answers capacity (earlier ++ began.event ∷ rest)) (length earlier) ≡ Some (Ok (Opened key began.opening))
    opened_at =
        at_seam capacity earlier began.event rest
        ∙ ap (λ (a : Result Answer Fault). Some a) (ap (λ (f : FloorView). (floor_step f began.event).1) (sym here_is) ∙ began.answer)

    next_is : (floor_step here.floor began.event).0 ≡ next.floor
    next_is = ap (λ l. (run here.floor l).0) (sym began.only) ∙ (line_turn 0 here turn rests_here).floor

    told_is : given_since capacity (earlier ++ began.event ∷ rest) (length earlier) key ≡ session_told key behind next
    told_is =
        given_behind capacity earlier (began.event ∷ rest) key
        ∙ ap (λ (f : FloorView). given_by key began.event (floor_step f began.event).1 ++ given_posts key rest (run (floor_step f began.event).0 rest).1) (sym here_is)
        ∙ (λ i. given_by key began.event (began.answer i) ++ given_posts key rest (run (next_is i) rest).1)
        ∙ (lines_turn key behind next rests_next).given

    heard : HasHeard capacity (before ++ session_events (front ++ turn ∷ behind) s) key (answer_to_turn here turn) (session_told key behind next)
    heard =
        let es = earlier ++ began.event ∷ rest in
        let g = given_in_order capacity es (length earlier) key began.opening opened_at in
        rw (events_are, ← told_is) record {
          at = length earlier;
          opening = began.opening;
          began = opened_at;
          found_is = began.told;
          not_told = g.not_given;
          posted = g.given;
          run = g.run;
          tables = g.tables;
          in_order = in_order capacity es (length earlier) key began.opening opened_at;
          rebuilt = rebuild capacity es (length earlier) key began.opening opened_at;
        }

-- lines are a schedule of the floor, and each watcher that begins with one is told its posts by those behind it
pub sessions_follow : SessionsFollow
sessions_follow capacity before turns s from idle =
    let h : Rests s = record { floor = subst IsFloor (sym from) (after_well capacity before); idle = idle } in record {
      floor = leads capacity before turns s from h;
      watchers = λ front turn behind key split none is. rw split (heard capacity before front turn behind s key from h none is);
    }

-- ---- a whole session

module _ (capacity : ℕ) (before : List Event) (bytes later : Option (List ℕ)) (old new : FloorView) (sent written : Option (List ℕ)) (by : End) (from : old ≡ floor_after capacity before) (ran : Served bytes later (session_at old None) (session_state new None) sent written by) where
  abbrev begin : SessionState
  begin = session_at old None

  abbrev lines : List Turn
  lines = ran.turns ++ ran.last

  well : IsFloor old
  well = subst IsFloor (sym from) (after_well capacity before)

  begins_at : begin.floor ≡ floor_after capacity (before ++ sends old)
  unfolding settled
  begins_at = ap (λ (f : FloorView). (run f (sends old)).0) from ∙ sym (run_state (empty_floor capacity) before (sends old))

  begins_idle : begin.floor.due ≡ []
  begins_idle = settled_due old well

  ends_at : new ≡ floor_after capacity ((before ++ sends old) ++ (session_events lines begin ++ leaves (state_after lines begin)))
  ends_at =
      let last = state_after lines begin in
      let h : Rests begin = record { floor = subst IsFloor (sym begins_at) (after_well capacity (before ++ sends old)); idle = begins_idle } in
      let idle = (lines_turn 0 lines begin h).idle in
      let state : session_state new None ≡ left last = ran.state ∙ ap left (sym (state_after-append ran.turns ran.last begin)) in
      ap (λ (x : SessionState). x.floor) state
      ∙ sym (leaves_turn 0 last idle last.watcher).floor
      ∙ ap (λ (f : FloorView). (run f (leaves last)).0) (leads capacity (before ++ sends old) lines begin begins_at h)
      ∙ sym (run_state (empty_floor capacity) ((before ++ sends old) ++ session_events lines begin) (leaves last))
      ∙ ap (floor_after capacity) (append_assoc (before ++ sends old) (session_events lines begin) (leaves last))

  pub session_followed : IsTranscript capacity before bytes later old new sent written by
  session_followed = record {
    served = ran;
    session = sessions_follow capacity (before ++ sends old) lines begin begins_at begins_idle;
    floor = ends_at;
  }
