-- What a session's lines came to in the one history.
use Rattle.std.proofs.Common.{◌≡◌, ◌≢◌, ℕ, ◌==◌, Bool, true, true≢false, List, [], ◌∷◌, ◌++◌, Option, Some, None, Result, Ok, Err, refl, sym, ap, ◌∙◌, subst, inl, inr, append_assoc, map, filter}
use Rattle.std.proofs.lemmas.List.{append-nil}
use Rattle.std.proofs.lemmas.Bool.{eq-eqb, cond-true}
use mathlib.Core.List.{IsPrefix}
use Rattle.mt_skel.specs.declared.fault.Fault.{Fault}
use Rattle.mt_skel.specs.declared.fault.Fault.TheVariants.{Stopped, NoMemory}
use Rattle.mt_lines.specs.Lines.{Item}
use Rattle.mt_book.specs.declared.command.Command.{Command}
use Rattle.mt_desk.specs.declared.act.Act.{Act}
use Rattle.mt_desk.specs.declared.act.Act.TheVariants as act
use Rattle.mt_desk.specs.declared.act.LogEntry.{LogEntry}
use Rattle.mt_desk.specs.Entries.{WitnessView, entry, entries, acts_by, is_stop, has_stop}
use Rattle.mt_desk.proofs.EntryLaws.{acts_by-append, prefix_self, prefix_more}
use Rattle.mt_floor.specs.Schedule.{FloorView}
use Rattle.mt_desk.specs.Desk.{DeskView, floor_of_desk}
use Rattle.mt_desk.specs.Calls.{WatcherView}
use Rattle.mt_requests.specs.declared.request.Request.{Request}
use Rattle.mt_requests.specs.Requests.{may_want_memory}
use Rattle.mt_requests.specs.declared.request.Request.TheVariants.{Run, Take, Follow, Close, Stop as AsksStop}
use Rattle.mt_session.specs.declared.serving.End.{End}
use Rattle.mt_session.specs.declared.serving.End.TheVariants.{Quit as EndsQuit, Stop as EndsStop, Cut as EndsCut, Memory}
use Rattle.mt_session.specs.Answers.{refusal, reply_text}
use Rattle.mt_session.specs.Requests.{answer_to, replied_text}
use Rattle.mt_session.specs.Session.{request_of_line}
use Rattle.mt_session.specs.SharedTurns.{SharedView, IsAtDesk, SeesOn, acts_at, IsUndoneBy}
use Rattle.mt_session.specs.SharedSession.{SharedTurn, IsAnsweredAt, IsNotDoneAt, IsAnswered, IsTurn, IsLost, FollowsSoFar, IsAnswerSoFar, EndsOfAnswer, EndsSo, AreTurns, ServedShared, new_session}
use Rattle.mt_session.specs.SharedHistory.{IsAct, AreActs, HasActed, IsLastAct, HasActedInAll, SharedSessionsAct, SharedStopsHold}
use Rattle.mt_session.proofs.TurnLaws.{apply_refused}
use Rattle.mt_session.proofs.SharedLaws.{seen_replied, command_told, applied_acts, refused_acts}
use Rattle.mt_session.proofs.SightLaws.{prefix_trans}
use Rattle.mt_session.proofs.WatcherLaws.{turns_split}

-- ---- Acts of one session

acts_by-own : (by : ℕ) (acts : List Act) → acts_by by (entries by acts) ≡ acts
acts_by-own by [] = refl
acts_by-own by (a ∷ acts) =
    ap (map (λ (e : LogEntry). e.act)) (cond-true (by == by) (entry by a ∷ filter (λ (e : LogEntry). e.by == by) (entries by acts)) (filter (λ (e : LogEntry). e.by == by) (entries by acts)) (eq-eqb by by refl))
    ∙ ap (λ (l : List Act). a ∷ l) (acts_by-own by acts)

acted_none : (v v' : WitnessView) → SeesOn v v' → HasActed v [] v'
acted_none v v' s = record { session = s.0; rises = s.1.0; acts_are = s.1.1 ∙ sym (append-nil (acts_by v.by v.seen)) }

acted_at : (v v' : WitnessView) (d : DeskView) (log : List LogEntry) (acts : List Act) → IsAtDesk v d log → v' ≡ record v { seen = log ++ entries v.by acts } → HasActed v acts v'
acted_at v v' d log acts at is = subst (λ (x : WitnessView). HasActed v acts x) (sym is) record {
  session = refl;
  rises = prefix_more v.seen log (entries v.by acts) at.2.0;
  acts_are = acts_by-append v.by log (entries v.by acts) ∙ ap (λ (l : List Act). acts_by v.by log ++ l) (acts_by-own v.by acts) ∙ ap (λ (l : List Act). l ++ acts) at.2.1;
}

acted_then : (a b c : WitnessView) (xs ys : List Act) → HasActed a xs b → HasActed b ys c → HasActed a (xs ++ ys) c
acted_then a b c xs ys h k =
    let same : b.by ≡ a.by = ap (λ (x : WitnessView). x.by) h.session in
    let more : acts_by a.by c.seen ≡ acts_by a.by b.seen ++ ys = subst (λ (n : ℕ). acts_by n c.seen ≡ acts_by n b.seen ++ ys) same k.acts_are in
    record {
      session = k.session ∙ ap (λ (x : WitnessView). record x { seen = c.seen }) h.session;
      rises = prefix_trans a.seen b.seen c.seen h.rises k.rises;
      acts_are = more ∙ ap (λ (l : List Act). l ++ ys) h.acts_are ∙ append_assoc (acts_by a.by a.seen) xs ys;
    }

acted_same : (s s' : SharedView) → s' ≡ s → HasActed s.sight [] s'.sight
acted_same s s' same = subst (λ (x : SharedView). HasActed s.sight [] x.sight) (sym same) record { session = refl; rises = prefix_self s.sight.seen; acts_are = sym (append-nil (acts_by s.sight.by s.sight.seen)) }

-- ---- What a line came to

abbrev pub Acted : SharedView → Result Request Fault → List ℕ → SharedView → Type 0
Acted s asked text s' = (acts : List Act) × IsAct asked text acts × HasActed s.sight acts s'.sight

-- a request was done at the desk
answered_acts : (s s' : SharedView) (r : Request) (text : List ℕ) (a : IsAnsweredAt s r text s') → HasActed s.sight (acts_at a.desk r) s'.sight
answered_acts s s' r text a = acted_at s.sight s'.sight a.desk a.log (acts_at a.desk r) a.kept a.sight

command_act : (s s' : SharedView) (c : Command) (text : List ℕ) → IsAnsweredAt s (Run c) text s' → Acted s (Ok (Run c)) text s'
unfolding answer_to
command_act s s' c text a =
    let told : text ≡ replied_text (floor_of_desk a.desk) c = a.answer ∙ seen_replied a.desk s.own c in
    let acted = answered_acts s s' (Run c) text a in
    elim a.done.0 [
      | inl is ↦ (
        act.Apply c ∷ [],
        inl (is.0, told ∙ sym (command_told a.desk a.now c is.0 (reply_text is.0) is.1 refl), refl),
        subst (λ (l : List Act). HasActed s.sight l s'.sight) (applied_acts a.desk a.now c is.0 is.1) acted,
      )
      | inr is ↦ ([], inr (is.0, told ∙ apply_refused (floor_of_desk a.desk) (floor_of_desk a.desk) refl c is.0 is.1, refl), subst (λ (l : List Act). HasActed s.sight l s'.sight) (refused_acts a.desk c is.0 is.1) acted)
    ]

undone_acts : (s s' : SharedView) (r : Request) → IsNotDoneAt s r s' → HasActed s.sight [] s'.sight
undone_acts s s' r u = acted_none s.sight s'.sight (subst (λ (x : WitnessView). SeesOn s.sight x) (sym u.sight) (refl, u.kept.2))

unstopped : (d now : DeskView) (w w' : Option WatcherView) → IsUndoneBy d w AsksStop now w' → ⊥
unstopped d now None w' u = u
unstopped d now (Some w) w' u = u

told_acts : (s : SharedView) (asked : Result Request Fault) (text : List ℕ) (s' : SharedView) → IsAnswered s asked text s' → Acted s asked text s'
told_acts s (Err f) text s' t = ([], refl, acted_same s s' t.1)
told_acts s (Ok (Take k)) text s' t = ([], refl, acted_none s.sight s'.sight t.1)
told_acts s (Ok (Follow k)) text s' t = ([], refl, acted_none s.sight s'.sight t.1)
told_acts s (Ok (Run c)) text s' t = command_act s s' c text t
told_acts s (Ok AsksStop) text s' t = (act.Stop ∷ [], refl, answered_acts s s' AsksStop text t)
told_acts s (Ok r) text s' t = ([], refl, answered_acts s s' r text t)

-- there was no memory, and nothing came to the history
wants_acts : (asked : Result Request Fault) (text : List ℕ) → text ≡ refusal NoMemory → asked ≢ Ok AsksStop → IsAct asked text []
wants_acts (Ok (Run c)) text is stop = inr (NoMemory, is, refl)
wants_acts (Ok AsksStop) text is stop = absurd (stop refl)
wants_acts asked text is stop = refl

pub turn_acts : (s : SharedView) (asked : Result Request Fault) (text : List ℕ) (s' : SharedView) → IsTurn s asked text s' → Acted s asked text s'
turn_acts s asked text s' (inl t) = told_acts s asked text s' t
turn_acts s asked text s' (inr (is, inl same)) = ([], wants_acts asked text is (λ (stop : asked ≡ Ok AsksStop). true≢false (sym (subst (λ (q : Result Request Fault). may_want_memory q ≡ true) stop same.0))), acted_same s s' same.1)
turn_acts s (Ok r) text s' (inr (is, inr n)) =
    ([], wants_acts (Ok r) text is (λ (stop : Ok r ≡ Ok AsksStop). let at : r ≡ AsksStop = cc in unstopped n.1.desk n.1.now s.own s'.own (subst (λ (q : Request). IsUndoneBy n.1.desk s.own q n.1.now s'.own) at n.1.undone)), undone_acts s s' r n.1)
turn_acts s (Err f) text s' (inr (is, inr n)) = absurd n

pub turns_act : (turns : List SharedTurn) (s s' : SharedView) → AreTurns s turns s' → (acts : List Act) × AreActs turns acts × HasActed s.sight acts s'.sight
turns_act [] s s' t = ([], refl, acted_same s s' t)
turns_act (x ∷ turns) s s' t =
    let here = turn_acts s (request_of_line x.line) x.text t.0 t.1 in
    let more = turns_act turns t.0 s' t.2 in
    (here.0 ++ more.0, (here.0, more.0, here.1, more.1, refl), acted_then s.sight t.0.sight s'.sight here.0 more.0 here.2 more.2)

-- ---- What the line came to that ended the session

lost_acts : (w : Option WatcherView) (asked : Result Request Fault) (text : List ℕ) (seen : List LogEntry) → IsLost w asked text seen → IsAct asked text []
lost_acts (Some w) (Ok (Take k)) text seen l = refl
lost_acts (Some w) (Ok (Follow k)) text seen l = refl
lost_acts (Some w) (Ok Close) text seen l = refl
lost_acts w asked text seen l = absurd l

follow_acts : (w : Option WatcherView) (asked : Result Request Fault) (text : List ℕ) → FollowsSoFar w asked text → IsAct asked text []
follow_acts (Some w) (Ok (Follow k)) text l = refl
follow_acts w asked text l = absurd l

so_far_acts : (s : SharedView) (asked : Result Request Fault) (text : List ℕ) (s' : SharedView) → IsAnswerSoFar s asked text s' → Acted s asked text s'
so_far_acts s asked text s' (inl t) = turn_acts s asked text s' t
so_far_acts s asked text s' (inr (inl l, sees)) = ([], lost_acts s.own asked text s'.sight.seen l, acted_none s.sight s'.sight sees)
so_far_acts s asked text s' (inr (inr l, sees)) = ([], follow_acts s.own asked text l, acted_none s.sight s'.sight sees)

end_acts : (by : End) (s : SharedView) (asked : Result Request Fault) (out : List ℕ) (s' : SharedView) → EndsOfAnswer by s asked out s' → (text : List ℕ) × Acted s asked text s'
end_acts EndsQuit s asked out s' e = (out, turn_acts s asked out s' e.1)
end_acts EndsStop s asked out s' e = (out, turn_acts s asked out s' e.1)
end_acts (EndsCut cut) s asked out s' (inl c) = (c.front ++ c.piece, so_far_acts s asked (c.front ++ c.piece) s' c.answer)
end_acts (EndsCut cut) s asked out s' (inr c) = (out, so_far_acts s asked out s' (inr (inr c.1, c.2)))
end_acts Memory s asked out s' e = (out, so_far_acts s asked out s' (inr (inl e.0, e.1)))
end_acts by s asked out s' e = absurd e

abbrev pub ActedLast : List Item → SharedView → SharedView → Type 0
ActedLast last s s' = (acts : List Act) × IsLastAct last acts × HasActed s.sight acts s'.sight

pub ends_act : (by : End) (turns : List SharedTurn) (s : SharedView) (last : List Item) (rest left : Option (List ℕ)) (out : List ℕ) (s' : SharedView) → EndsSo by turns s last rest left out s' → ActedLast last s s'
ends_act by turns s last rest left out s' (inl (count, inl e)) = ([], inl refl, acted_same s s' e.1)
ends_act by turns s last rest left out s' (inl (count, inr e)) =
    let a = end_acts by s (request_of_line e.0) out s' e.3 in
    (a.1.0, inr (e.0, a.0, e.1, a.1.1), a.1.2)
ends_act by turns s last rest left out s' (inr e) = ([], inl refl, acted_same s s' e.1)

in_all : (before later sent written : Option (List ℕ)) (by : End) (v v' : WitnessView) (s : ServedShared before later sent written by v v') → HasActedInAll s.turns s.last v v'
in_all before later sent written by v v' s =
    let t = turns_act s.turns (new_session v) s.state s.told in
    let e = ends_act by s.turns s.state s.last s.rest later s.out s.final s.ends in
    let lines = acted_then v s.state.sight s.final.sight t.0 e.0 t.2 e.2 in
    record {
      acts = t.0;
      end_acts = e.0;
      each = t.1;
      end = e.1;
      acted = subst (λ (l : List Act). HasActed v l v') (append-nil (t.0 ++ e.0)) (acted_then v s.final.sight v' (t.0 ++ e.0) [] lines (acted_none s.final.sight v' s.sight));
    }

pub shared_sessions_act : SharedSessionsAct
shared_sessions_act before later sent written by v v' s front back is =
    let t = turns_split front back (new_session v) s.state (subst (λ (l : List SharedTurn). AreTurns (new_session v) l s.state) is s.told) in
    let a = turns_act front (new_session v) t.0 t.1 in
    (t.0, a.0, t.1, t.2, a.1, a.2, in_all before later sent written by v v' s)

-- ---- A stop

stop_stays : (a : Act) (before after : Bool) → (before ≡ true → after ≡ true) → is_stop a before ≡ true → is_stop a after ≡ true
stop_stays (act.Apply c) before after stays h = stays h
stop_stays act.Stop before after stays h = refl

has_stop-append : (xs ys : List LogEntry) → has_stop xs ≡ true → has_stop (xs ++ ys) ≡ true
has_stop-append [] ys h = absurd (true≢false (sym h))
has_stop-append (x ∷ xs) ys h = stop_stays x.act (has_stop xs) (has_stop (xs ++ ys)) (λ k. has_stop-append xs ys k) h

has_stop-prefix : (xs zs : List LogEntry) → IsPrefix xs zs → has_stop xs ≡ true → has_stop zs ≡ true
has_stop-prefix xs zs p h = ap has_stop (sym p.1) ∙ has_stop-append xs p.0 h

stopped_refuses : (s : FloorView) (c : Command) → s.stopped ≡ true → replied_text s c ≡ refusal Stopped
stopped_refuses s c is = rw is refl

pub shared_stops_hold : SharedStopsHold
unfolding answer_to
shared_stops_hold s s' c text h (inl a) =
    let stopped : a.desk.stopped ≡ true = a.kept.1.stopped ∙ has_stop-prefix s.sight.seen a.log a.kept.2.0 h in
    inl (a.answer ∙ seen_replied a.desk s.own c ∙ stopped_refuses (floor_of_desk a.desk) c stopped)
shared_stops_hold s s' c text h (inr (is, why)) = inr is
