-- What a floor on which nothing is due answers, what its events leave of it, and how its posts are told.
use Rattle.std.proofs.Common.{◌≡◌, ◌∙◌, ℕ, List, [], length, Option, Some, None, IsSome, is_some, Result, Ok, Err, refl, sym, ap, ◌≢◌, suc, ◌+◌, ◌-◌, ◌<◌, true, false, ◌∷◌, ◌++◌, take, slice_get, inr, arith, zero, ◌≤◌, replicate, IfOk, IfErr, fold}
use Rattle.std.specs.Option.{option_map_or}
use Rattle.mt_skel.specs.declared.fault.Fault.{Fault}
use Rattle.mt_skel.specs.declared.fault.Fault.TheVariants.{NoWatcher, NoMemory}
use Rattle.mt_skel.specs.Keyed.{row_at}
use Rattle.mt_propagate.specs.World.{WorldView}
use Rattle.mt_events.specs.Posts.{PostView, post_lines, post_text}
use Rattle.mt_events.specs.declared.opening.Scope.{Scope}
use Rattle.mt_events.specs.declared.opening.Opening.{Opening}
use Rattle.mt_book.specs.declared.command.Command.{Command}
use Rattle.mt_book.specs.declared.command.Reply.{Reply}
use Rattle.mt_book.specs.Step.{step, after}
use Rattle.mt_floor.specs.declared.watch.Phase.{Phase}
use Rattle.mt_floor.specs.declared.watch.Meeting.{Meeting}
use Rattle.mt_floor.specs.declared.event.Event.TheVariants.{Apply, PostNext, Open, Take, Meet, Close}
use Rattle.mt_floor.specs.declared.event.Answer.{Answer}
use Rattle.mt_floor.specs.declared.event.Answer.TheVariants.{Opened, Met, Closed}
use Rattle.mt_floor.specs.Watcher.{Watcher, watcher_key, opening_of}
use Rattle.mt_floor.specs.Schedule.{FloorView, Stepped, if_idle, unless, at_row, applied, replied, opened, met, closed, command_refusal, opening_refusal, waiting, floor_step, takes_memory, run, settled}
use Rattle.mt_events.specs.Texts.{opening_text, posts_text, count_text, lines_of_posts}
use Rattle.mt_session.specs.Answers.{refusal, reply_text}
use Rattle.mt_session.specs.Requests.{session_state, stepped_text, replied_text, opened_text, by_phase, rest_text, closed_text, begun, SessionState, state_to, taken, left, IsUndone}
use Rattle.mt_session.specs.Serving.{reply_in, begun_in, phase_in}
use Rattle.std.specs.List.{flat_map}
use Rattle.std.proofs.Math.Seq.{take-length}
use Rattle.std.proofs.lemmas.List.{append-nil}
use Rattle.std.proofs.lemmas.List.Concat.{flat_map-append}
use Rattle.mt_skel.proofs.ListLaws.{take_found}
use Rattle.mt_requests.specs.declared.request.Request.TheVariants.{Watch}
use Rattle.mt_floor.specs.declared.event.Event.{Event}
use Rattle.mt_floor.proofs.SettledLaws.{take_idle, post_fewer, none_due}
use Rattle.mt_floor.proofs.StandingLaws.{stays}
use Rattle.mt_floor.specs.WellFormed.{IsFloor}

-- ---- steps

-- an event that takes no memory was done, whatever it was answered
pub step_is : (s n : FloorView) (e : Event) (r : Result Answer Fault) → takes_memory e ≡ false → IfOk r (λ a. floor_step s e ≡ (n, Ok a))
    → IfErr r (λ f. f ≢ NoMemory → floor_step s e ≡ (n, Err f)) → IfErr r (λ f. f ≡ NoMemory → takes_memory e ≡ true) → floor_step s e ≡ (n, r)
step_is s n e (Ok a) t done refused memory = done
step_is s n e (Err f) t done refused memory = refused (λ none. let m = memory none in cc)

-- what it leaves, and what is due then
pub floor_is : (s n : FloorView) (e : Event) (r : Result Answer Fault) → floor_step s e ≡ (n, r) → n ≡ (floor_step s e).0
floor_is s n e r is = sym (ap (λ (p : Stepped). p.0) is)

pub idle_behind : (s n : FloorView) (e : Event) (r : Result Answer Fault) → floor_step s e ≡ (n, r) → (floor_step s e).0.due ≡ [] → n.due ≡ []
idle_behind s n e r is idle = ap (λ (p : Stepped). p.0.due) (sym is) ∙ idle

module _ (s : FloorView) (idle : s.due ≡ []) where
  now : (done : Stepped) → if_idle s.due s done ≡ done
  now done = ap (λ ds. if_idle ds s done) idle

  apply_step : (c : Command) → floor_step s (Apply c) ≡ applied s c
  unfolding floor_step
  apply_step c = now (applied s c)

  pub open_step : (scope : Scope) → floor_step s (Open scope) ≡ opened s scope
  unfolding floor_step
  open_step scope = now (opened s scope)

  meet_step : (key : ℕ) → floor_step s (Meet key) ≡ at_row s key (met s)
  unfolding floor_step
  meet_step key = now (at_row s key (met s))

  pub close_step : (key : ℕ) → floor_step s (Close key) ≡ at_row s key (closed s)
  unfolding floor_step
  close_step key = now (at_row s key (closed s))

-- ---- answers

module _ (s n : FloorView) (idle : s.due ≡ []) where
  -- a command is replied to, or refused
  pub apply_told : (c : Command) (a : Answer) → floor_step s (Apply c) ≡ (n, Ok a) → (r : Reply) × (reply_in a ≡ Some r) × (replied_text s c ≡ reply_text r)
  apply_told c a e = go (command_refusal s) (step (after s.journal) c) (sym (apply_step s idle c) ∙ e)
    where
      go : (o : Option Fault) (x : Result (WorldView × Reply) Fault) → unless o s (replied s c x) ≡ (n, Ok a)
          → (r : Reply) × (reply_in a ≡ Some r) × (option_map_or (λ f. refusal f) o (stepped_text x) ≡ reply_text r)
      go None (Ok p) e = let v = ap (λ (q : Stepped). q.1) e in (p.1, cc, refl)
      go o x e = absurd (let v = ap (λ (q : Stepped). q.1) e in cc)

  pub apply_refused : (c : Command) (f : Fault) → floor_step s (Apply c) ≡ (n, Err f) → replied_text s c ≡ refusal f
  apply_refused c f e = let is = sym (apply_step s idle c) ∙ e in grind arith

  -- a watcher begins with the next key, or none does
  begins_with : (o : Option Fault) (t : FloorView) (a b : Answer) → unless o s (t, Ok b) ≡ (n, Ok a) → (o ≡ None) × (a ≡ b)
  begins_with o t a b e = (grind arith, grind arith)

  begins_not : (o : Option Fault) (t : FloorView) (b : Answer) (f : Fault) → unless o s (t, Ok b) ≡ (n, Err f) → o ≡ Some f
  begins_not o t b f e = grind arith

  begins_as : (scope : Scope) (a : Answer) → floor_step s (Open scope) ≡ (n, Ok a) → (opening_refusal s scope ≡ None) × (a ≡ Opened s.next_key (opening_of s.journal scope))
  begins_as scope a e = begins_with (opening_refusal s scope) _ a (Opened s.next_key (opening_of s.journal scope)) (sym (open_step s idle scope) ∙ e)

  pub open_begins : (scope : Scope) (a : Answer) → floor_step s (Open scope) ≡ (n, Ok a) → IsSome (begun_in a)
  open_begins scope a e = ap (λ b. is_some (begun_in b)) (begins_as scope a e).1

  pub open_found : (scope : Scope) (key : ℕ) (found : Opening) → floor_step s (Open scope) ≡ (n, Ok (Opened key found)) → (opening_refusal s scope ≡ None) × (found ≡ opening_of s.journal scope)
  open_found scope key found e = let begins = begins_as scope (Opened key found) e in let is = begins.1 in (begins.0, cc)

  begun_as : (scope : Scope) (r : Result Answer Fault) (o : Option Fault) → floor_step s (Open scope) ≡ (n, r) → opening_refusal s scope ≡ o
      → begun s scope ≡ session_state n (option_map_or (λ f. None) o (Some s.next_key))
  begun_as scope r o e is =
      ap (λ (p : Stepped). session_state p.0 (option_map_or (λ f. None) (opening_refusal s scope) (Some s.next_key))) e
      ∙ ap (λ o. session_state n (option_map_or (λ f. None) o (Some s.next_key))) is

  pub open_told : (scope : Scope) (a : Answer) (key : ℕ) (found : Opening) → floor_step s (Open scope) ≡ (n, Ok a) → begun_in a ≡ Some (key, found)
      → (opened_text s scope ≡ opening_text found) × (begun s scope ≡ session_state n (Some key))
  open_told scope a key found e by =
      let begins = begins_as scope a e in
      let same : begun_in (Opened s.next_key (opening_of s.journal scope)) ≡ Some (key, found) = sym (ap begun_in begins.1) ∙ by in (
        ap (λ o. option_map_or (λ f. refusal f) o (opening_text (opening_of s.journal scope))) begins.0
            ∙ ap (λ (b : Option (ℕ × Opening)). option_map_or (λ p. opening_text p.1) b []) same,
        begun_as scope (Ok a) None e begins.0 ∙ ap (λ (b : Option (ℕ × Opening)). session_state n (option_map_or (λ p. Some p.0) b None)) same,
      )

  pub open_refused : (scope : Scope) (f : Fault) → floor_step s (Open scope) ≡ (n, Err f) → (opened_text s scope ≡ refusal f) × (begun s scope ≡ session_state n None)
  open_refused scope f e =
      let none : opening_refusal s scope ≡ Some f = begins_not (opening_refusal s scope) _ (Opened s.next_key (opening_of s.journal scope)) f (sym (open_step s idle scope) ∙ e) in
      (ap (λ o. option_map_or (λ f. refusal f) o (opening_text (opening_of s.journal scope))) none, begun_as scope (Err f) (Some f) e none)

  -- a watcher is met or closed, or is not there
  pub meet_told : (text : List ℕ) (key : ℕ) (a : Answer) → floor_step s (Meet key) ≡ (n, Ok a) → (p : Phase) × (phase_in a ≡ Some p) × (rest_text text s key ≡ by_phase text p)
  meet_told text key a e = go (row_at watcher_key key s.watchers) (sym (meet_step s idle key) ∙ e)
    where
      go : (o : Option Watcher) → option_map_or (met s) o (s, Err NoWatcher) ≡ (n, Ok a)
          → (p : Phase) × (phase_in a ≡ Some p) × (option_map_or (λ (r : Watcher). by_phase text r.phase) o (refusal NoWatcher) ≡ by_phase text p)
      go None e = let v = ap (λ (q : Stepped). q.1) e in absurd (cc)
      go (Some r) e =
          let m : Meeting = record { posted = length r.sent; taken = length r.taken; state = r.phase } in
          let v : Ok (Met m) ≡ Ok a = ap (λ (q : Stepped). q.1) e in
          let is : Met m ≡ a = cc in
          (r.phase, sym (ap phase_in is), refl)

  pub meet_refused : (text : List ℕ) (key : ℕ) (f : Fault) → floor_step s (Meet key) ≡ (n, Err f) → rest_text text s key ≡ refusal f
  meet_refused text key f e = let is = sym (meet_step s idle key) ∙ e in grind arith

  pub close_told : (key : ℕ) (a : Answer) → floor_step s (Close key) ≡ (n, Ok a) → closed_text s key ≡ posts_text (waiting s key)
  close_told key a e = let is = sym (close_step s idle key) ∙ e in grind arith

  pub close_posts : (key : ℕ) (posts : List PostView) → floor_step s (Close key) ≡ (n, Ok (Closed posts)) → closed_text s key ≡ posts_text posts
  close_posts key posts e = let is = sym (close_step s idle key) ∙ e in grind arith

  pub close_refused : (key : ℕ) (f : Fault) → floor_step s (Close key) ≡ (n, Err f) → closed_text s key ≡ refusal f
  close_refused key f e = let is = sym (close_step s idle key) ∙ e in grind arith

-- no watcher began, and why is told
pub refused_watch : (s n : FloorView) (idle : s.due ≡ []) (scope : Scope) (f : Fault) (own : Option ℕ) (r : Result (List ℕ) Fault) → own ≡ None
    → (f ≢ NoMemory → floor_step s (Open scope) ≡ (n, Err f)) → IfOk r (λ text. (text ≡ refusal f) × (f ≢ NoMemory))
    → IfOk r (λ text. (text ≡ opened_text s scope) × (session_state n own ≡ begun s scope))
refused_watch s n idle scope f own (Ok text) none step told =
    let is = open_refused s n idle scope f (step told.1) in
    (told.0 ∙ sym is.0, ap (session_state n) none ∙ sym is.1)
refused_watch s n idle scope f own (Err g) none step told = told

-- a watcher that began and was closed again
pub undone_watch : (s n closed : FloorView) (scope : Scope) (a : Answer) (key : ℕ) (o : Opening) (own : Option ℕ) → s.due ≡ [] → own ≡ None → floor_step s (Open scope) ≡ (n, Ok a) → begun_in a ≡ Some (key, o)
    → closed ≡ (floor_step n (Close key)).0 → IsUndone (session_state s own) (Watch scope) (session_state closed own)
unfolding state_to
undone_watch s n closed scope a key o own idle none is by e =
    let begun_is : begun s scope ≡ session_state n (Some key) = (open_told s n idle scope a key o is by).1 in
    rw none (inr (ap (λ (t : FloorView). session_state t None) e ∙ sym (ap left begun_is), ap (λ (t : SessionState). is_some t.watcher) begun_is))

-- ---- when nothing is due

pub takes_idle : (n : ℕ) (s : FloorView) (key : ℕ) → s.due ≡ [] → (run s (replicate n (Take key))).0.due ≡ []
takes_idle zero s key idle = idle
takes_idle (suc n) s key idle = takes_idle n (floor_step s (Take key)).0 key (take_idle s key idle)

sent_down : (n : ℕ) (s : FloorView) → IsFloor s → length s.due ≤ n → (run s (replicate n PostNext)).0.due ≡ []
sent_down zero s h l = none_due s l
sent_down (suc n) s h l = let fewer = post_fewer s h in sent_down n (floor_step s PostNext).0 (stays s PostNext h) (omega (arith, l, fewer))

pub settled_due : (s : FloorView) → IsFloor s → (settled s).due ≡ []
unfolding settled
settled_due s h = sent_down (length s.due) s h (omega arith)

-- ---- posts told one after another

-- one post taken, and then the others
pub taken_next : (s n : FloorView) (key i k : ℕ) → n ≡ (floor_step s (Take key)).0 → i < k → taken n key (k - (i + 1)) ≡ taken s key (k - i)
taken_next s n key i k is h =
    let one : k - i ≡ suc (k - (i + 1)) = omega (arith, h) in
    ap (λ (t : FloorView). taken t key (k - (i + 1))) is ∙ sym (ap (taken s key) one)

lines-append : (n : ℕ) (ps : List PostView) (p : PostView) → fold (λ m q. m + length (post_lines q)) n (ps ++ p ∷ []) ≡ fold (λ m q. m + length (post_lines q)) n ps + length (post_lines p)
lines-append n [] p = refl
lines-append n (q ∷ ps) p = lines-append (n + length (post_lines q)) ps p

text_more : (ps : List PostView) (p : PostView) → flat_map post_text (ps ++ p ∷ []) ≡ flat_map post_text ps ++ post_text p
text_more ps p = flat_map-append post_text ps (p ∷ []) ∙ ap (λ t. flat_map post_text ps ++ t) (append-nil (post_text p))

-- a post told behind others
pub told_next : (w : List PostView) (i : ℕ) (p : PostView) (text more : List ℕ) → slice_get w i ≡ Some p → text ≡ flat_map post_text (take i w) → more ≡ text ++ post_text p
    → more ≡ flat_map post_text (take (i + 1) w)
told_next w i p text more at e m =
    m ∙ ap (λ t. t ++ post_text p) e ∙ sym (ap (flat_map post_text) (take_found w i p at) ∙ text_more (take i w) p)

pub counted_next : (w : List PostView) (i : ℕ) (p : PostView) (lines more : ℕ) → slice_get w i ≡ Some p → lines ≡ lines_of_posts (take i w) → more ≡ lines + length (post_lines p)
    → more ≡ lines_of_posts (take (i + 1) w)
counted_next w i p lines more at e m =
    m ∙ ap (λ n. n + length (post_lines p)) e ∙ sym (ap lines_of_posts (take_found w i p at) ∙ lines-append 0 (take i w) p)

-- all posts told
pub all_told : (w : List PostView) (count lines : ℕ) (rows text : List ℕ) → count ≡ length w → lines ≡ lines_of_posts (take count w) → rows ≡ flat_map post_text (take count w)
    → text ≡ count_text lines ++ rows → text ≡ posts_text w
all_told w count lines rows text is counted printed told =
    let all : take count w ≡ w = ap (λ k. take k w) is ∙ take-length w in
    told ∙ ap (λ n. count_text n ++ rows) (counted ∙ ap lines_of_posts all) ∙ ap (λ t. count_text (lines_of_posts w) ++ t) (printed ∙ ap (flat_map post_text) all)
