-- Answers have the forms of their verbs, and those that tell posts are their text.
use Rattle.std.proofs.Common.{◌≡◌, ◌⊎◌, ℕ, Bool, true, false, cond, ◌==◌, List, [], ◌∷◌, length, Option, Some, None, Result, Ok, Err, inl, inr, refl, sym, ap, subst, ◌∙◌, arith, drop, if◌then◌else◌}
use Rattle.std.proofs.lemmas.List.{append-nil}
use Rattle.std.specs.Option.{option_map_or}
use Rattle.mt_skel.specs.declared.fault.Fault.{Fault}
use Rattle.mt_skel.specs.declared.fault.Fault.TheVariants.{NoNamespace, NoWatcher, WatcherOpen, Lagged as WasLagged, Stopped, NoMemory as WantsMemory}
use Rattle.mt_skel.specs.Keyed.{row_at}
use Rattle.mt_skel.specs.Skeleton.{Skeleton}
use Rattle.mt_protocol.specs.Verbs.{verb_form}
use Rattle.mt_protocol.specs.declared.form.Form.{Form}
use Rattle.mt_protocol.specs.declared.form.Form.TheVariants as form
use Rattle.mt_propagate.specs.World.{WorldView, is_space}
use Rattle.mt_info.specs.Table.{table_of}
use Rattle.mt_events.specs.Posts.{PostView}
use Rattle.mt_events.specs.Texts.{count_text, table_text, opening_text, posts_text, followed_text}
use Rattle.mt_book.specs.declared.command.Command.{Command}
use Rattle.mt_book.specs.declared.command.Command.TheVariants.{Room, MakeFs, MakeDir, NewSpace, CopySpace, DropSpace, Mount, MountWith, Bind, Move, Pivot, Unmount, Detach, SetAttr, OpenTree, NewTree, MoveTree}
use Rattle.mt_book.specs.declared.command.Reply.TheVariants.{Done, Number}
use Rattle.mt_locks.specs.Locks.{LocksView}
use Rattle.mt_book.specs.Step.{with_skel, with_made_number, with_done, act, judged, guarded, step, after}
use Rattle.mt_book.specs.Book.{found_at, locks_in}
use Rattle.mt_book.specs.History.{space_number}
use Rattle.mt_floor.specs.declared.watch.Phase.{Phase}
use Rattle.mt_floor.specs.declared.watch.Phase.TheVariants.{Open as IsOpen, Lagged, Ended}
use Rattle.mt_floor.specs.Watcher.{Watcher, watcher_key, opening_of}
use Rattle.mt_floor.specs.Schedule.{FloorView, command_refusal, opening_refusal, waiting}
use Rattle.mt_requests.specs.declared.request.Request.{Request}
use Rattle.mt_requests.specs.declared.request.Request.TheVariants.{Run, Ask, Watch, Take, Follow, Close, Quit, Stop}
use Rattle.mt_requests.specs.declared.request.Query.{Query}
use Rattle.mt_requests.specs.declared.request.Query.TheVariants.{Show, Locks, Find, Journal}
use Rattle.mt_requests.specs.Requests.{command_verb, query_verb, request_verb}
use Rattle.mt_requests.proofs.CountLaws.{lines_tell}
use Rattle.mt_session.specs.Answers.{refusal, found_text, shown_text, commands_said, commands_from, lock_lines_text, locks_text, query_text, reply_text}
use Rattle.mt_session.specs.Requests.{SessionState, stepped_text, by_phase, rest_text, taken_text, end_of_followed, closed_text, next_posts, answer_to}
use Rattle.mt_session.specs.Forms.{Refuses, HasForm, AnswersHaveForms}
use Rattle.mt_session.specs.Session.{Growth, Granted, Refused, Unshown, request_of_line, may_fail, may_be_unshown, answer_of, answer_with, answer_to_turn}
use Rattle.mt_session.specs.Headline.{told_to, granted_told, told_with, told_by, TellsPosts, AnswersTell}
use Rattle.mt_book.specs.declared.command.Reply.{Reply}

-- ---- forms

abbrev IsAnswerOf : Form → List ℕ → Type 0
IsAnswerOf f text = Refuses text ⊎ HasForm f text

-- an answer, or why there is none
unless_refused : (f : Form) (refused : Option Fault) (text : List ℕ) → IsAnswerOf f text → IsAnswerOf f (option_map_or (λ x. refusal x) refused text)
unless_refused f None text answer = answer
unless_refused f (Some x) text answer = inl (x, refl)

of_watcher : (f : Form) (watcher : Option ℕ) (held : ℕ → List ℕ) (none : List ℕ) → ((key : ℕ) → IsAnswerOf f (held key)) → IsAnswerOf f none → IsAnswerOf f (option_map_or held watcher none)
of_watcher f None held none each other = other
of_watcher f (Some key) held none each other = each key

-- commands
skelled : (f : Form) (w : WorldView) (reply : Skeleton → Reply) (q : Result Skeleton Fault) → ((s : Skeleton) → HasForm f (reply_text (reply s))) → IsAnswerOf f (stepped_text (with_skel w reply q))
skelled f w reply (Ok s) has = inr (has s)
skelled f w reply (Err x) has = inl (x, refl)

made_number : (q : Result (WorldView × ℕ) Fault) → IsAnswerOf form.Number (stepped_text (with_made_number q))
made_number (Ok p) = inr (p.1, refl)
made_number (Err x) = inl (x, refl)

done : (q : Result WorldView Fault) → IsAnswerOf form.Done (stepped_text (with_done q))
done (Ok w) = inr refl
done (Err x) = inl (x, refl)

act_answer : (w : WorldView) (c : Command) → IsAnswerOf (verb_form (command_verb c)) (stepped_text (act w c))
unfolding act
act_answer w (Room k) = skelled form.Done w (λ s. Done) _ (λ s. refl)
act_answer w (MakeFs name kind source) = skelled form.Number w (λ s. Number (length s.filesystems)) _ (λ s. (length s.filesystems, refl))
act_answer w (MakeDir fs path) = skelled form.Done w (λ s. Done) _ (λ s. refl)
act_answer w (NewSpace fs) = made_number _
act_answer w (CopySpace n privilege) = made_number _
act_answer w (DropSpace n) = done _
act_answer w (Mount n fs path) = made_number _
act_answer w (MountWith n fs path set) = made_number _
act_answer w (Bind n src dst true) = made_number _
act_answer w (Bind n src dst false) = made_number _
act_answer w (Move n src dst) = done _
act_answer w (Pivot n new old) = done _
act_answer w (Unmount n path) = done _
act_answer w (Detach n path) = done _
act_answer w (SetAttr n path change) = done _
act_answer w (OpenTree n path recursive) = made_number _
act_answer w (NewTree fs) = made_number _
act_answer w (MoveTree tree n path) = done _

-- or a refusal for a lock
guarded_answer : (f : Form) (j : Result LocksView Fault) (q : Result (WorldView × Reply) Fault) → IsAnswerOf f (stepped_text q) → IsAnswerOf f (stepped_text (guarded j q))
guarded_answer f (Ok l) (Ok p) answer = answer
guarded_answer f (Ok l) (Err x) answer = answer
guarded_answer f (Err x) q answer = inl (x, refl)

command_answer : (w : WorldView) (c : Command) → IsAnswerOf (verb_form (command_verb c)) (stepped_text (step w c))
unfolding step
command_answer w c = guarded_answer (verb_form (command_verb c)) (judged w c) (act w c) (act_answer w c)

-- tables and places
table_answer : (journal : List Command) (n : ℕ) → IsAnswerOf form.Table (shown_text journal n)
table_answer journal n =
    elim (is_space (after journal) n) as (λ b. IsAnswerOf form.Table (cond b (table_text (space_number n journal) (table_of (after journal) n)) (refusal NoNamespace))) [
      | true ↦ inr (space_number n journal, table_of (after journal) n, refl)
      | false ↦ inl (NoNamespace, refl)
    ]

locks_answer : (journal : List Command) (n : ℕ) → IsAnswerOf form.Locks (locks_text journal n)
locks_answer journal n =
    elim (is_space (after journal) n) as (λ b. IsAnswerOf form.Locks (cond b (lock_lines_text (locks_in (after journal) n)) (refusal NoNamespace))) [
      | true ↦ inr (locks_in (after journal) n, refl)
      | false ↦ inl (NoNamespace, refl)
    ]

place_answer : (found : Result (ℕ × List (List ℕ)) Fault) → IsAnswerOf form.Place (found_text found)
place_answer (Ok p) = inr (p.0, p.1, refl)
place_answer (Err x) = inl (x, refl)

query_answer : (journal : List Command) (q : Query) → IsAnswerOf (verb_form (query_verb q)) (query_text journal q)
query_answer journal (Show n) = table_answer journal n
query_answer journal (Locks n) = locks_answer journal n
query_answer journal (Find n path) = place_answer (found_at (after journal) n path)
query_answer journal (Journal from most) = inr (commands_from from most (commands_said journal), refl)

-- posts, and what is told where none wait
abbrev IsAtRest : List ℕ → List ℕ → Type 0
IsAtRest text told = (told ≡ text) ⊎ Refuses told

phase_told : (text : List ℕ) (phase : Phase) → IsAtRest text (by_phase text phase)
phase_told text IsOpen = inl refl
phase_told text Lagged = inr (WasLagged, refl)
phase_told text Ended = inr (Stopped, refl)

at_rest : (text : List ℕ) (s : FloorView) (key : ℕ) → IsAtRest text (rest_text text s key)
at_rest text s key = elim (row_at watcher_key key s.watchers) as (λ o. IsAtRest text (option_map_or (λ (r : Watcher). by_phase text r.phase) o (refusal NoWatcher))) [ None ↦ inr (NoWatcher, refl) | Some r ↦ phase_told text r.phase ]

take_answer : (s : FloorView) (key : ℕ) (posts : List PostView) → IsAnswerOf form.Posts (taken_text s key posts)
take_answer s key [] = elim (at_rest (count_text 0) s key) [ inl e ↦ inr ([], e ∙ sym (append-nil (count_text 0))) | inr refused ↦ inl refused ]
take_answer s key (p ∷ ps) = inr (p ∷ ps, refl)

follow_end : (s : FloorView) (key k n : ℕ) → IsAtRest (count_text n) (end_of_followed s key k n)
follow_end s key k n = elim (n == k) as (λ b. IsAtRest (count_text n) (cond b (count_text n) (rest_text (count_text n) s key))) [ true ↦ inl refl | false ↦ at_rest (count_text n) s key ]

close_answer : (s : FloorView) (key : ℕ) → IsAnswerOf form.Posts (closed_text s key)
close_answer s key = elim (row_at watcher_key key s.watchers) as (λ o. IsAnswerOf form.Posts (option_map_or (λ (r : Watcher). posts_text (waiting s key)) o (refusal NoWatcher))) [ None ↦ inl (NoWatcher, refl) | Some r ↦ inr (waiting s key, refl) ]

request_answer : (s : SessionState) (r : Request) → IsAnswerOf (verb_form (request_verb r)) (answer_to s r)
unfolding answer_to
request_answer s (Run c) = unless_refused (verb_form (command_verb c)) (command_refusal s.floor) _ (command_answer (after s.floor.journal) c)
request_answer s (Ask q) = query_answer s.floor.journal q
request_answer s (Watch scope) =
    of_watcher form.Opening s.watcher _ _ (λ key. inl (WatcherOpen, refl))
    (unless_refused form.Opening (opening_refusal s.floor scope) (opening_text (opening_of s.floor.journal scope)) (inr (opening_of s.floor.journal scope, refl)))
request_answer s (Take k) = of_watcher form.Posts s.watcher _ _ (λ key. take_answer s.floor key (next_posts s.floor key k)) (inl (NoWatcher, refl))
request_answer s (Follow k) =
    of_watcher form.Followed s.watcher _ _
    (λ key. let posts : List PostView = next_posts s.floor key k in inr (posts, end_of_followed s.floor key k (length posts), follow_end s.floor key k (length posts), refl))
    (inl (NoWatcher, refl))
request_answer s Close = of_watcher form.Posts s.watcher _ _ (λ key. close_answer s.floor key) (inl (NoWatcher, refl))
request_answer s Quit = inr refl
request_answer s Stop = inr refl

-- an answer refuses, or has the form of the verb that its line begins with
pub answers_have_forms : AnswersHaveForms
answers_have_forms line state r e =
    let is = ap (λ v. option_map_or verb_form v form.Never) (lines_tell line r e) in
    subst (λ f. IsAnswerOf f (answer_to state r)) (sym is) (request_answer state r)

-- ---- posts

no_posts : {A : Type 0} (p : PostView) (ps : List PostView) → ◌≡◌ {A = List PostView} [] (p ∷ ps) → A
no_posts p ps e = absurd (cc)

-- what is told of the session's watcher is told of that of a key
own_told : (b : Bool) (posts : List PostView) (p : PostView) (ps : List PostView) → cond b posts [] ≡ p ∷ ps → posts ≡ p ∷ ps
own_told b posts p ps e = grind arith

own_tells : (key : ℕ) (w : Option ℕ) (posts : ℕ → List PostView) (text : ℕ → List ℕ) (none : List ℕ) (p : PostView) (ps : List PostView) → ((own : ℕ) → posts own ≡ p ∷ ps → TellsPosts (text own) (p ∷ ps))
    → option_map_or (λ own. cond (own == key) (posts own) []) w [] ≡ p ∷ ps → TellsPosts (option_map_or text w none) (p ∷ ps)
own_tells key None posts text none p ps tells e = no_posts p ps e
own_tells key (Some own) posts text none p ps tells e = tells own (own_told (own == key) (posts own) p ps e)

waiting_tells : (p : PostView) (ps : List PostView) (o : Option Watcher) → option_map_or (λ (r : Watcher). drop (length r.taken) r.sent) o [] ≡ p ∷ ps
    → option_map_or (λ (r : Watcher). posts_text (option_map_or (λ (q : Watcher). drop (length q.taken) q.sent) o [])) o (refusal NoWatcher) ≡ posts_text (p ∷ ps)
waiting_tells p ps None e = no_posts p ps e
waiting_tells p ps (Some r) e = ap posts_text e

request_tells : (key : ℕ) (s : SessionState) (r : Request) (p : PostView) (ps : List PostView) → told_to key s r ≡ p ∷ ps → TellsPosts (answer_to s r) (p ∷ ps)
unfolding told_to answer_to
request_tells key s (Take k) p ps e = own_tells key s.watcher (λ own. next_posts s.floor own k) _ _ p ps (λ own is. inl (ap (taken_text s.floor own) is)) e
request_tells key s (Follow k) p ps e =
    own_tells key s.watcher (λ own. next_posts s.floor own k) _ _ p ps
    (λ own is. let end = end_of_followed s.floor own k (length (next_posts s.floor own k)) in inr (end, ap (λ l. followed_text l end) is)) e
request_tells key s Close p ps e =
    own_tells key s.watcher (waiting s.floor) _ _ p ps (λ own is. inl (waiting_tells p ps (row_at watcher_key own s.floor.watchers) is)) e
request_tells key s r p ps e = no_posts p ps e

granted_tells : (key : ℕ) (s : SessionState) (q : Result Request Fault) (p : PostView) (ps : List PostView) → granted_told key s q ≡ p ∷ ps → TellsPosts (answer_of s q) (p ∷ ps)
granted_tells key s (Ok r) p ps e = request_tells key s r p ps e
granted_tells key s (Err f) p ps e = no_posts p ps e

-- where want of memory is told, no posts are
unless_tells : (key : ℕ) (s : SessionState) (q : Result Request Fault) (p : PostView) (ps : List PostView) (b : Bool) → (if b then [] else granted_told key s q) ≡ p ∷ ps
    → TellsPosts (if b then refusal WantsMemory else answer_of s q) (p ∷ ps)
unless_tells key s q p ps true e = no_posts p ps e
unless_tells key s q p ps false e = granted_tells key s q p ps e

line_tells : (key : ℕ) (s : SessionState) (g : Growth) (q : Result Request Fault) (p : PostView) (ps : List PostView) → told_with key s g q ≡ p ∷ ps → TellsPosts (answer_with s g q) (p ∷ ps)
line_tells key s Granted q p ps e = granted_tells key s q p ps e
line_tells key s Refused q p ps e = unless_tells key s q p ps (may_fail s q) e
line_tells key s Unshown q p ps e = unless_tells key s q p ps (may_be_unshown s q) e

pub answers_tell : AnswersTell
unfolding told_by answer_to_turn
answers_tell key s turn p ps e = line_tells key s turn.growth (request_of_line turn.line) p ps e
