-- What the watcher of a session in a thread of its own has taken, and what becomes of it: it goes on, or is left, so that what it has taken is in order.
use Rattle.std.proofs.Common.{subst, ◌≡◌, ◌≢◌, ℕ, ◌<◌, ◌≤◌, List, [], ◌++◌, refl, ap, sym, ◌∙◌, Ok, Option, Some, None, append_assoc, arith, length, ◌∷◌, inl, inr, Result, Err}
use Rattle.std.proofs.lemmas.List.{append-nil, nil_from_length, length-append}
use Rattle.std.specs.Option.{ForSome, IsSome}
use Rattle.mt_events.specs.Posts.{PostView}
use Rattle.mt_events.specs.Following.{IsRun}
use Rattle.mt_floor.specs.declared.watch.Meeting.{Meeting}
use Rattle.mt_desk.specs.Desk.{DeskView, IsDesk}
use Rattle.mt_desk.specs.Calls.{WatcherView, IsMet}
use Rattle.mt_desk.specs.Headline.{Meet as Meets, IsScheduledBy}
use Rattle.mt_events.specs.declared.texts.PrintedPosts.{PrintedPosts}
use Rattle.mt_session.specs.declared.shared_answer.Portion.TheVariants.{Posts, Empty}
use Rattle.mt_session.specs.SharedTurns.{SharedView, acts_at, HasTaken, HasPopped, with_taken_posts, GoesOn, IsDoneBy, IsUndoneBy}
use Rattle.mt_desk.specs.declared.act.LogEntry.{LogEntry}
use Rattle.mt_desk.specs.declared.act.Act.{Act}
use Rattle.mt_desk.specs.Entries.{WitnessView, entries}
use Rattle.mt_desk.proofs.EntryLaws.{prefix_self}
use mathlib.Core.List.{IsPrefix}
use Rattle.mt_desk.specs.Held.{HeldView, IsLogged}
use Rattle.mt_session.specs.SharedServing.{HasMet, HasPortion, IsPortion, IsKeptOrLeft}
use Rattle.mt_requests.specs.declared.request.Request.{Request}
use Rattle.mt_requests.specs.declared.request.Request.TheVariants.{Run, Ask, Take, Follow, Close}
use Rattle.mt_session.specs.SharedSession.{IsAnsweredAt, IsNotDoneAt, HasLeft, WasLeft, IsSpent, IsTaken, IsFollowed, IsAnswered, IsTurn, SharedTurn, AreTurns}
use Rattle.mt_skel.specs.declared.fault.Fault.{Fault}
use Rattle.mt_floor.specs.declared.watch.Phase.{Phase}

-- ---- What it has taken

-- a watcher that has taken posts more, and was told so many at its last meeting
abbrev taken_told : WatcherView → List PostView → ℕ → WatcherView
taken_told w posts told = record w { half = record w.half { taken = w.half.taken ++ posts; told = told } }

-- nothing was taken
with_none : (w : WatcherView) → with_taken_posts w [] ≡ w
with_none w = ap (λ (posts : List PostView). record w { half = record w.half { taken = posts } }) (append-nil w.half.taken)

-- a watcher has taken posts, and may have met the desk
abbrev pub HasMoved : WatcherView → List PostView → WatcherView → Type 0
HasMoved w posts w' = (told : ℕ) × (w.half.told ≤ told) × (w' ≡ taken_told w posts told)

pub moved_none : (w : WatcherView) → HasMoved w [] w
moved_none w = (w.half.told, omega arith, sym (with_none w))

pub moved_by : (w after : WatcherView) (posts : List PostView) → HasTaken w posts after → HasMoved w posts after
moved_by w after posts h = (h.0, h.1, h.2)

-- posts were taken, and then more
pub takes_more : (w mid after : WatcherView) (a b : List PostView) → HasMoved w a mid → HasTaken mid b after → HasTaken w (a ++ b) after
takes_more w mid after a b h k =
    let held : mid.half.told ≡ h.0 = ap (λ (m : WatcherView). m.half.told) h.2 in
    let twice : taken_told mid b k.0 ≡ taken_told (taken_told w a h.0) b k.0 = ap (λ (m : WatcherView). taken_told m b k.0) h.2 in
    let once : taken_told (taken_told w a h.0) b k.0 ≡ taken_told w (a ++ b) k.0 =
    ap (λ (posts : List PostView). record w { half = record w.half { taken = posts; told = k.0 } }) (append_assoc w.half.taken a b) in
    let run : IsRun w.half.opening ((w.half.taken ++ a) ++ b) = subst (λ (m : WatcherView). IsRun m.half.opening (m.half.taken ++ b)) h.2 k.3 in
    (k.0, omega (arith, h.1, k.1, held), k.2 ∙ twice ∙ once, subst (λ (posts : List PostView). IsRun w.half.opening posts) (append_assoc w.half.taken a b) run)

-- a meeting while the desk is held
pub has_met : (d now : HeldView) (w : Option WatcherView) (m : Option Meeting) (w' : Option WatcherView) (v : WitnessView) → (w ≡ None → (m ≡ None) × (w' ≡ None) × (now ≡ d))
    → ForSome w (λ (v : WatcherView). (k : Meeting) × (v' : WatcherView) × IsMet d.desk v k now.desk v' × (m ≡ Some k) × (w' ≡ Some v') × IsScheduledBy (Meets v k v') now.desk)
    → IsDesk d.desk → IsLogged d.desk d.log → v.seen ≡ d.log → HasMet w m w' v.seen
has_met d now None m w' v none met kept logged sight = let n = none refl in (n.0, n.1)
has_met d now (Some w) m w' v none met kept logged sight =
    let h = met w refl in (d.desk, now.desk, h.0, h.1, kept, subst (λ (l : List LogEntry). IsLogged d.desk l) (sym sight) logged, h.2, h.3, h.4, h.5)

-- a meeting takes nothing
pub met_moved : (d : DeskView) (w : WatcherView) (m : Meeting) (now : DeskView) (after : WatcherView) → IsMet d w m now after → HasMoved w [] after
met_moved d w m now after i =
    (length i.row.sent, i.halved.told, i.watcher ∙ ap (λ (posts : List PostView). record w { half = record w.half { taken = posts; told = length i.row.sent } }) (sym (append-nil w.half.taken)))

-- some have come by a meeting, so that some are taken after it
met_some : (d : DeskView) (w : WatcherView) (m : Meeting) (now : DeskView) (after : WatcherView) (most : ℕ) (printed : PrintedPosts) (w' : Option WatcherView)
    → IsMet d w m now after → m.taken < m.posted → (p : HasPopped after most printed w') → 0 < most → p.posts ≢ []
met_some d w m now after most printed w' i more p some empty =
    let none : length p.posts ≡ 0 = ap (λ (posts : List PostView). length posts) empty in
    let posted : m.posted ≡ after.half.told = ap (λ (x : Meeting). x.posted) i.meeting ∙ sym (ap (λ (v : WatcherView). v.half.told) i.watcher) in
    let taken : m.taken ≡ length after.half.taken = ap (λ (x : Meeting). x.taken) i.meeting ∙ sym (ap (λ (v : WatcherView). length v.half.taken) i.watcher) in
    let fewer = p.fewer (omega (arith, none, some)) in
    absurd (omega (arith, none, fewer, more, posted, taken))

-- ---- What a session finds that takes posts

-- what a session's watcher took, if it has one
popped_at : (w w' : Option WatcherView) (most : ℕ) (printed : PrintedPosts) → ForSome w (λ (v : WatcherView). HasPopped v most printed w') → IsSome w → (v : WatcherView) × (w ≡ Some v) × HasPopped v most printed w'
popped_at None w' most printed p some = cc
popped_at (Some v) w' most printed p some = (v, refl, p v refl)

-- none was there, so that nothing has changed
pub popped_same : (w w' : Option WatcherView) (most : ℕ) (printed : PrintedPosts) → ForSome w (λ (v : WatcherView). HasPopped v most printed w') → IsSome w → printed.posts ≡ 0 → w' ≡ w
popped_same w w' most printed p some none =
    let at = popped_at w w' most printed p some in
    let empty : at.2.posts ≡ [] = nil_from_length at.2.posts (sym at.2.count ∙ none) in
    at.2.watcher ∙ ap (λ (posts : List PostView). Some (with_taken_posts at.0 posts)) empty ∙ ap (λ (v : WatcherView). Some v) (with_none at.0) ∙ sym at.1

-- its watcher's posts stay a run
pub popped_runs : (w w' : Option WatcherView) (most : ℕ) (printed : PrintedPosts) → ForSome w (λ (v : WatcherView). HasPopped v most printed w') → IsSome w
    → ForSome w' (λ (v : WatcherView). IsRun v.half.opening v.half.taken)
popped_runs w w' most printed p some v is =
    let at = popped_at w w' most printed p some in
    let same : with_taken_posts at.0 at.2.posts ≡ v = let both = sym at.2.watcher ∙ is in cc in
    subst (λ (x : WatcherView). IsRun x.half.opening x.half.taken) same at.2.run

-- some were taken, at once or behind a meeting
has_portion : (w mid : WatcherView) (most : ℕ) (printed : PrintedPosts) (w' : Option WatcherView) → HasMoved w [] mid → (p : HasPopped mid most printed w') → p.posts ≢ [] → HasPortion w most printed w'
has_portion w mid most printed w' h p some = record {
  posts = p.posts;
  after = with_taken_posts mid p.posts;
  taken = takes_more w mid (with_taken_posts mid p.posts) [] p.posts h (mid.half.told, omega arith, refl, p.run);
  watcher = p.watcher;
  some = some;
  most_is = p.most_is;
  fewer = λ less.
      let told : mid.half.told ≡ h.0 = ap (λ (m : WatcherView). m.half.told) h.2 in
      let taken : length mid.half.taken ≡ length w.half.taken = ap (λ (m : WatcherView). length m.half.taken) h.2 ∙ ap (λ (posts : List PostView). length posts) (append-nil w.half.taken) in
      omega (arith, p.fewer less, h.1, told, taken);
  text = p.text;
  lines = p.lines;
  count = p.count;
}

-- posts that waited were taken at once
pub portion_at_once : (w w' : Option WatcherView) (most : ℕ) (printed : PrintedPosts) (seen : List LogEntry)
    → ForSome w (λ (v : WatcherView). HasPopped v most printed w') → IsSome w → printed.posts ≢ 0 → IsPortion w most (Ok (Posts printed)) w' seen
portion_at_once w w' most printed seen p some more =
    let at = popped_at w w' most printed p some in
    let there : at.2.posts ≢ [] = λ empty. more (at.2.count ∙ ap (λ (posts : List PostView). length posts) empty) in
    rw at.1 (has_portion at.0 at.0 most printed w' (moved_none at.0) at.2 there)

-- posts of which a meeting told were taken behind it
pub portion_met : (w mid w' : Option WatcherView) (m : Meeting) (most : ℕ) (printed : PrintedPosts) (seen later : List LogEntry)
    → 0 < most → HasMet w (Some m) mid seen → m.taken < m.posted → ForSome mid (λ (v : WatcherView). HasPopped v most printed w') → IsPortion w most (Ok (Posts printed)) w' later
portion_met None mid w' m most printed seen later any h more p = cc
portion_met (Some w) mid w' m most printed seen later any h more p =
    let pop : HasPopped h.3 most printed w' = p h.3 h.8 in
    let same : h.2 ≡ m = let is = h.7 in cc in
    has_portion w h.3 most printed w' (met_moved h.0 w h.2 h.1 h.3 h.6) pop (met_some h.0 w h.2 h.1 h.3 most printed w' h.6 (rw same more) pop any)

-- none has come by a meeting
pub portion_none : (w w' : Option WatcherView) (m : Meeting) (most : ℕ) (seen : List LogEntry) → HasMet w (Some m) w' seen → m.posted ≤ m.taken → ForSome w (λ (v : WatcherView). IsRun v.half.opening v.half.taken)
    → IsPortion w most (Ok (Empty m.state)) w' seen
portion_none None w' m most seen h none run = let is = h.0 in cc
portion_none (Some w) w' m most seen h none run =
    let same : h.2 ≡ m = let is = h.7 in cc in
    let i = h.6 in
    let all : h.2.posted ≡ h.2.taken =
    omega (
      arith,
      ap (λ (x : Meeting). x.posted) i.meeting,
      ap (λ (x : Meeting). x.taken) i.meeting,
      ap (λ (x : Meeting). x.posted) same,
      ap (λ (x : Meeting). x.taken) same,
      ap (λ (posts : List PostView). length posts) i.halved.split ∙ length-append w.half.taken i.rest,
      none,
    ) in
    let moved = met_moved h.0 w h.2 h.1 h.3 i in (
      h.3,
      record { desk = h.0; now = h.1; kept = h.4; logged = h.5; meeting = h.2; met = i; all = all; phase_is = ap (λ (x : Meeting). x.state) same; scheduled = h.9 },
      (moved.0, moved.1, moved.2, subst (λ (posts : List PostView). IsRun w.half.opening posts) (sym (append-nil w.half.taken)) (run w refl)),
      h.8,
    )

-- ---- It goes on, or is closed

-- it has taken none
pub goes_none : (w : WatcherView) → GoesOn w w
goes_none w = ([], w.half.told, sym (with_none w))

-- it has taken some, and then more
pub goes_then : (w mid w' : WatcherView) → GoesOn w mid → GoesOn mid w' → GoesOn w w'
goes_then w mid w' a b = (
  a.0 ++ b.0,
  b.1,
  b.2
      ∙ ap (λ (m : WatcherView). record m { half = record m.half { taken = m.half.taken ++ b.0; told = b.1 } }) a.2
      ∙ ap (λ (posts : List PostView). record w { half = record w.half { taken = posts; told = b.1 } }) (append_assoc w.half.taken a.0 b.0),
)

pub kept_same : (w : Option WatcherView) (seen : List LogEntry) → IsKeptOrLeft w w seen
kept_same None seen = tt
kept_same (Some w) seen = goes_none w

-- a request that is done while the desk is held
done_keeps : (d now : DeskView) (log : List LogEntry) (w w' : Option WatcherView) (r : Request) → IsDesk d → IsLogged d log → IsDoneBy d w r now w' → IsKeptOrLeft w w' log
done_keeps d now log None w' r kept logged h = tt
done_keeps d now log (Some w) w' Close kept logged h = rw h.2 (d, h.0, now, kept, logged, h.1, h.3)
done_keeps d now log (Some w) w' r kept logged h = rw h.1 (goes_none w)

-- where the watcher goes on, it is not said how much of the history there is
goes_anyhow : (w w' : Option WatcherView) (a b : List LogEntry) → ((v : WatcherView) → w ≡ Some v → w' ≡ None → b ≡ a) → IsKeptOrLeft w w' a → IsKeptOrLeft w w' b
goes_anyhow None w' a b same k = tt
goes_anyhow (Some w) None a b same k = subst (λ (l : List LogEntry). HasLeft (Some w) l) (sym (same w refl refl)) k
goes_anyhow (Some w) (Some v) a b same k = k

-- a watcher that is gone was closed, which comes to nothing in the history
gone_acts : (d now : DeskView) (w : WatcherView) (w' : Option WatcherView) (r : Request) → IsDoneBy d (Some w) r now w' → w' ≡ None → acts_at d r ≡ []
gone_acts d now w w' Close h none = refl
gone_acts d now w w' r h none = let is = h.1 in cc

pub answered_keeps : (s s' : SharedView) (r : Request) (text : List ℕ) → IsAnsweredAt s r text s' → IsKeptOrLeft s.own s'.own s'.sight.seen
answered_keeps s s' r text a =
    let seen : s'.sight.seen ≡ a.log ++ entries s.sight.by (acts_at a.desk r) = ap (λ (v : WitnessView). v.seen) a.sight in
    goes_anyhow s.own s'.own a.log s'.sight.seen
    (λ (v : WatcherView) (own : s.own ≡ Some v) (none : s'.own ≡ None). seen
    ∙ ap (λ (acts : List Act). a.log ++ entries s.sight.by acts) (gone_acts a.desk a.now v s'.own r (subst (λ (o : Option WatcherView). IsDoneBy a.desk o r a.now s'.own) own a.done) none)
    ∙ append-nil a.log)
    (done_keeps a.desk a.now a.log s.own s'.own r a.kept.0 a.kept.1 a.done)

undone_left : (d now : DeskView) (log : List LogEntry) (w w' : Option WatcherView) (r : Request) → IsDesk d → IsLogged d log → IsUndoneBy d w r now w' → IsKeptOrLeft w w' log
undone_left d now log None w' r kept logged u = tt
undone_left d now log (Some w) w' Close kept logged u = rw u.2 (d, u.0, now, kept, logged, u.1, u.3)
undone_left d now log (Some w) w' (Run c) kept logged u = rw u.1 (goes_none w)
undone_left d now log (Some w) w' (Ask q) kept logged u = rw u.1 (goes_none w)
undone_left d now log (Some w) w' r kept logged u = absurd u

pub undone_keeps : (s s' : SharedView) (r : Request) → IsNotDoneAt s r s' → IsKeptOrLeft s.own s'.own s'.sight.seen
undone_keeps s s' r u =
    goes_anyhow s.own s'.own u.log s'.sight.seen (λ v own none. ap (λ (x : WitnessView). x.seen) u.sight) (undone_left u.desk u.now u.log s.own s'.own r u.kept.0 u.kept.1 u.undone)

-- nothing has become of the session
same_keeps : (s s' : SharedView) → s' ≡ s → IsKeptOrLeft s.own s'.own s'.sight.seen
same_keeps s s' same = subst (λ (x : SharedView). IsKeptOrLeft s.own x.own x.sight.seen) (sym same) (kept_same s.own s.sight.seen)

-- the session has left it, after a beginning of what it has seen in the end
pub was_left : (w last : Option WatcherView) (seen : List LogEntry) → IsKeptOrLeft w last seen → (v : List LogEntry) → HasLeft last v → IsPrefix seen v → WasLeft w v
was_left None last seen k v left begins = tt
was_left (Some w) None seen k v left begins = (w, seen, goes_none w, k, begins)
was_left (Some w) (Some last) seen k v left begins = (last, v, k, left, prefix_self v)

-- ---- A line keeps the session's watcher, or leaves it

spent_goes : (w after : WatcherView) (phase : Phase) (seen : List LogEntry) → IsSpent w phase after seen → GoesOn w after
spent_goes w after phase seen s = let moved = met_moved s.desk w s.meeting s.now after s.met in ([], moved.0, moved.2)

take_keeps : (w : Option WatcherView) (most : ℕ) (text : List ℕ) (w' : Option WatcherView) (seen : List LogEntry) → IsTaken w most text w' seen → IsKeptOrLeft w w' seen
take_keeps None most text w' seen t = tt
take_keeps (Some w) most text w' seen (inl t) = rw t.watcher (t.posts, t.taken.0, t.taken.2)
take_keeps (Some w) most text w' seen (inr t) = rw t.watcher (spent_goes w t.after t.phase seen t.spent)

follow_keeps : (w : Option WatcherView) (most : ℕ) (text : List ℕ) (w' : Option WatcherView) (seen : List LogEntry) → IsFollowed w most text w' seen → IsKeptOrLeft w w' seen
follow_keeps None most text w' seen f = tt
follow_keeps (Some w) most text w' seen (inl f) = rw f.watcher (f.posts, f.taken.0, f.taken.2)
follow_keeps (Some w) most text w' seen (inr f) = rw f.watcher (goes_then w f.before f.after (f.posts, f.taken.0, f.taken.2) (spent_goes f.before f.after f.phase seen f.spent))

told_keeps : (s : SharedView) (asked : Result Request Fault) (text : List ℕ) (s' : SharedView) → IsAnswered s asked text s' → IsKeptOrLeft s.own s'.own s'.sight.seen
told_keeps s (Err f) text s' t = same_keeps s s' t.1
told_keeps s (Ok (Take k)) text s' t = take_keeps s.own k text s'.own s'.sight.seen t.0
told_keeps s (Ok (Follow k)) text s' t = follow_keeps s.own k text s'.own s'.sight.seen t.0
told_keeps s (Ok r) text s' t = answered_keeps s s' r text t

-- whatever a line is answered, the session's watcher goes on or is left
pub turn_keeps : (s : SharedView) (asked : Result Request Fault) (text : List ℕ) (s' : SharedView) → IsTurn s asked text s' → IsKeptOrLeft s.own s'.own s'.sight.seen
turn_keeps s asked text s' (inl t) = told_keeps s asked text s' t
turn_keeps s asked text s' (inr (is, inl same)) = same_keeps s s' same.1
turn_keeps s (Ok r) text s' (inr (is, inr n)) = undone_keeps s s' r n.1
turn_keeps s (Err f) text s' (inr (is, inr n)) = absurd n

-- ---- Lines one after another

pub turns_split : (xs ys : List SharedTurn) (s s' : SharedView) → AreTurns s (xs ++ ys) s' → (mid : SharedView) × AreTurns s xs mid × AreTurns mid ys s'
turns_split [] ys s s' t = (s, refl, t)
turns_split (x ∷ xs) ys s s' t = let more = turns_split xs ys t.0 s' t.2 in (more.0, (t.0, t.1, more.1), more.2)
