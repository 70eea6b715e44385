-- What a session in a thread of its own has told of a `follow`.
use Rattle.std.proofs.Common.{subst, ◌≡◌, ◌≢◌, ℕ, ◌<◌, ◌≤◌, List, [], ◌++◌, refl, ap, sym, ◌∙◌, inl, inr, Ok, Err, Option, Some, None, arith, length, ◌+◌}
use Rattle.std.proofs.lemmas.List.{length-append}
use Rattle.std.proofs.lemmas.Grind.{flat_map-append}
use Rattle.std.specs.List.{flat_map}
use Rattle.mt_skel.specs.declared.fault.Fault.{Fault}
use Rattle.mt_skel.specs.declared.fault.Fault.TheVariants.{NoMemory as WantsMemory}
use Rattle.mt_desk.specs.Calls.{WatcherView}
use Rattle.mt_requests.specs.declared.request.Request.{Request}
use Rattle.mt_requests.specs.declared.request.Request.TheVariants.{Take, Follow}
use Rattle.mt_session.specs.declared.serving.End.TheVariants.{Memory}
use Rattle.mt_session.specs.declared.shared_answer.Then.{Then}
use Rattle.mt_session.specs.declared.shared_answer.Then.TheVariants.{More}
use Rattle.mt_session.specs.Answers.{refusal}
use Rattle.mt_session.specs.SharedSession.{IsSpent, FollowsFewer, IsTaken, IsFollowed, IsTurn, IsLost}
use Rattle.mt_session.specs.SharedServing.{Follows, IsSoFar, IsPiece, IsPortion, EndsWith}
use Rattle.mt_events.specs.Posts.{PostView, post_text}
use Rattle.mt_events.specs.Texts.{count_text}
use Rattle.mt_events.specs.Following.{IsRun}
use Rattle.mt_floor.specs.declared.watch.Phase.{Phase}
use Rattle.mt_floor.specs.declared.watch.Phase.TheVariants.{Open as IsOpen, Lagged, Ended}
use Rattle.mt_session.specs.Requests.{by_phase}
use Rattle.mt_events.specs.declared.texts.PrintedPosts.{PrintedPosts}
use Rattle.mt_session.specs.declared.shared_answer.Portion.TheVariants.{Posts, Empty}
use Rattle.mt_desk.specs.Entries.{WitnessView}
use Rattle.mt_session.specs.SharedTurns.{SharedView, SeesOn, HasTaken}
use Rattle.mt_session.proofs.SightLaws.{sees_same, sees_then}
use Rattle.mt_session.proofs.WatcherLaws.{HasMoved, moved_none, moved_by, takes_more}

-- what the watcher has taken so far, as it was told
record HasGone (w : Option WatcherView) (out : List ℕ) (told : ℕ) (mid : WatcherView) : Type 0 where
  before : WatcherView
  had : w ≡ Some before
  posts : List PostView
  moved : HasMoved before posts mid
  count : length posts ≡ told
  text : out ≡ flat_map post_text posts

has_gone : (s s' : SharedView) (r : Request) (out : List ℕ) (told : ℕ) (mid : WatcherView) → IsSoFar s r out told s' → s'.own ≡ Some mid → HasGone s.own out told mid
has_gone s s' r out told mid (inl x) own =
    record { before = mid; had = sym (ap (λ (v : SharedView). v.own) x.2) ∙ own; posts = []; moved = moved_none mid; count = sym x.1; text = x.0 }
has_gone s s' r out told mid (inr (f, sees)) own =
    let same : f.after ≡ mid = let is = f.has in cc in
    record { before = f.before; had = f.had; posts = f.posts; moved = subst (λ (v : WatcherView). HasMoved f.before f.posts v) same (moved_by f.before f.after f.posts f.taken); count = f.count; text = f.text }

-- what the session has seen so far
so_far_sees : (s s' : SharedView) (r : Request) (out : List ℕ) (told : ℕ) → IsSoFar s r out told s' → SeesOn s.sight s'.sight
so_far_sees s s' r out told (inl x) = sees_same s.sight s'.sight (ap (λ (v : SharedView). v.sight) x.2)
so_far_sees s s' r out told (inr f) = f.1

-- it has told more
goes_further : (w : Option WatcherView) (most told next : ℕ) (mid after : WatcherView) (w' : Option WatcherView) (out text : List ℕ) (posts : List PostView)
    → HasGone w out told mid → HasTaken mid posts after → w' ≡ Some after → next ≡ told + length posts → next ≤ most → text ≡ flat_map post_text posts → Follows w (Follow most) (out ++ text) next w'
goes_further w most told next mid after w' out text posts g h is count within says = record {
  most = most;
  asked = refl;
  before = g.before;
  had = g.had;
  posts = g.posts ++ posts;
  after = after;
  taken = takes_more g.before mid after g.posts posts g.moved h;
  has = is;
  count = length-append g.posts posts ∙ omega (arith, g.count, count);
  within = within;
  text = ap (λ (x : List ℕ). x ++ text) g.text ∙ ap (λ (x : List ℕ). flat_map post_text g.posts ++ x) says ∙ sym (flat_map-append post_text g.posts posts);
}

-- posts that were taken are the next piece of the answer to a `follow`, and more may come behind it
pub follow_posts : (s : SharedView) (own : Option WatcherView) (v : WitnessView) (s' : SharedView) (most told limit : ℕ) (printed : PrintedPosts) (out : List ℕ) (p : Option (List ℕ)) (n : Then)
    → IsSoFar s (Follow most) out told (record { own = own; sight = v }) → IsPortion own limit (Ok (Posts printed)) s'.own s'.sight.seen → SeesOn v s'.sight → told + limit ≤ most
    → p ≡ Some printed.text.items → n ≡ More (told + printed.posts) → IsPiece s (Follow most) out p n s'
follow_posts s None v s' most told limit printed out p n so_far h sees within text next = absurd h
follow_posts s (Some mid) v s' most told limit printed out p n so_far h sees within text next =
    let before : SharedView = record { own = Some mid; sight = v } in
    let g = has_gone s before (Follow most) out told mid so_far refl in
    let on : Follows s.own (Follow most) (out ++ printed.text.items) (told + printed.posts) s'.own =
    goes_further s.own most told (told + printed.posts) mid h.after s'.own out printed.text.items h.posts g h.taken h.watcher (omega (arith, h.count)) (omega (arith, within, h.count, h.most_is)) h.text in
    rw (text, next) (on, sees_then s.sight v s'.sight (so_far_sees s before (Follow most) out told so_far) sees)

-- it has no watcher
none_gone : (s s' : SharedView) (r : Request) (out : List ℕ) (told : ℕ) → IsSoFar s r out told s' → s'.own ≡ None → (s.own ≡ None) × (out ≡ [])
none_gone s s' r out told (inl x) none = (sym (ap (λ (v : SharedView). v.own) x.2) ∙ none, x.0)
none_gone s s' r out told (inr (f, sees)) none = let is = f.has in cc

pub follow_refused : (s : SharedView) (own : Option WatcherView) (v : WitnessView) (s' : SharedView) (most told limit : ℕ) (f : Fault) (out : List ℕ) (p : Option (List ℕ)) (n : Then)
    → IsSoFar s (Follow most) out told (record { own = own; sight = v }) → IsPortion own limit (Err f) s'.own s'.sight.seen → SeesOn v s'.sight → told + limit ≤ most
    → (f ≡ WantsMemory → EndsWith (refusal WantsMemory) (Some Memory) p n) → (f ≢ WantsMemory → EndsWith (refusal f) None p n) → IsPiece s (Follow most) out p n s'
follow_refused s None v s' most told limit f out p n so_far h sees within lost others =
    let before : SharedView = record { own = None; sight = v } in
    let none = none_gone s before (Follow most) out told so_far refl in
    let last = others (λ is. let why = h.0 in cc) in
    let refused : IsFollowed None most (out ++ refusal f) s'.own s'.sight.seen = (ap (λ (x : List ℕ). x ++ refusal f) none.1 ∙ ap refusal h.0, h.1) in
    let answered : IsFollowed s.own most (out ++ refusal f) s'.own s'.sight.seen = subst (λ (x : Option WatcherView). IsFollowed x most (out ++ refusal f) s'.own s'.sight.seen) (sym none.0) refused in
    rw (last.0, last.1) (inl (inl (answered, sees_then s.sight v s'.sight (so_far_sees s before (Follow most) out told so_far) sees), refl))
follow_refused s (Some mid) v s' most told limit f out p n so_far h sees within lost others =
    let before : SharedView = record { own = Some mid; sight = v } in
    let g = has_gone s before (Follow most) out told mid so_far refl in
    let taken : HasTaken g.before (g.posts ++ h.1) h.2 = takes_more g.before mid h.2 g.posts h.1 g.moved h.3 in
    let gone : IsLost (Some g.before) (Ok (Follow most)) (out ++ refusal WantsMemory) s'.sight.seen =
    (g.posts, h.1, h.2, taken, omega (arith, length-append g.posts h.1, g.count, within, h.5), ap (λ (x : List ℕ). x ++ refusal WantsMemory) g.text) in
    let last = lost h.0 in
    rw (last.0, last.1) (inr (
      subst (λ (x : Option WatcherView). IsLost x (Ok (Follow most)) (out ++ refusal WantsMemory) s'.sight.seen) (sym g.had) gone,
      rw (g.had, h.4) (g.posts ++ h.1, taken.0, taken.2),
      sees_then s.sight v s'.sight (so_far_sees s before (Follow most) out told so_far) sees,
      refl,
    ))

-- a `take` is refused: the session has no watcher, or there was no memory to print what was taken
pub take_refused : (s s' : SharedView) (most : ℕ) (f : Fault) (p : Option (List ℕ)) (n : Then) → IsPortion s.own most (Err f) s'.own s'.sight.seen → SeesOn s.sight s'.sight
    → (f ≡ WantsMemory → EndsWith (refusal WantsMemory) (Some Memory) p n) → (f ≢ WantsMemory → EndsWith (refusal f) None p n) → IsPiece s (Take most) [] p n s'
take_refused s s' most f p n h sees lost others = by s.own refl h
  where
    by : (w : Option WatcherView) → s.own ≡ w → IsPortion w most (Err f) s'.own s'.sight.seen → IsPiece s (Take most) [] p n s'
    by None none h =
        let last = others (λ is. let why = h.0 in cc) in
        let taken : IsTaken None most (refusal f) s'.own s'.sight.seen = (ap refusal h.0, h.1) in
        rw (last.0, last.1) (inl (inl (subst (λ (x : Option WatcherView). IsTaken x most (refusal f) s'.own s'.sight.seen) (sym none) taken, sees), refl))
    by (Some w) some h =
        let last = lost h.0 in
        let gone : IsLost (Some w) (Ok (Take most)) (refusal WantsMemory) s'.sight.seen = (h.1, h.2, h.3, h.5, refl) in
        rw (last.0, last.1) (inr (subst (λ (x : Option WatcherView). IsLost x (Ok (Take most)) (refusal WantsMemory) s'.sight.seen) (sym some) gone, rw (some, h.4) (h.1, h.3.0, h.3.2), sees, refl))

-- what was told so far was taken, and is a run
record HasRun (w : Option WatcherView) (out : List ℕ) (told : ℕ) (mid : WatcherView) : Type 0 where
  before : WatcherView
  had : w ≡ Some before
  posts : List PostView
  taken : HasTaken before posts mid
  count : length posts ≡ told
  text : out ≡ flat_map post_text posts

has_run : (s s' : SharedView) (r : Request) (out : List ℕ) (told : ℕ) (mid : WatcherView) → IsSoFar s r out told s' → s'.own ≡ Some mid → IsRun mid.half.opening (mid.half.taken ++ []) → HasRun s.own out told mid
has_run s s' r out told mid (inl x) own run =
    let m = moved_none mid in
    record { before = mid; had = sym (ap (λ (v : SharedView). v.own) x.2) ∙ own; posts = []; taken = (m.0, m.1, m.2, run); count = sym x.1; text = x.0 }
has_run s s' r out told mid (inr (f, sees)) own run =
    let same : f.after ≡ mid = let is = f.has in cc in
    record { before = f.before; had = f.had; posts = f.posts; taken = subst (λ (v : WatcherView). HasTaken f.before f.posts v) same f.taken; count = f.count; text = f.text }

phase_ends : (text : List ℕ) (phase : Phase) → phase ≢ IsOpen → by_phase text phase ≡ by_phase [] phase
phase_ends text IsOpen ended = absurd (ended refl)
phase_ends text Lagged ended = refl
phase_ends text Ended ended = refl

-- fewer posts than were asked for, and why there will be no more
follow_ended : (s : SharedView) (mid : WatcherView) (v : WitnessView) (s' : SharedView) (most told : ℕ) (phase : Phase) (out : List ℕ) → IsSoFar s (Follow most) out told (record { own = Some mid; sight = v })
    → (after : WatcherView) → IsSpent mid phase after s'.sight.seen → HasTaken mid [] after → s'.own ≡ Some after → SeesOn v s'.sight → told < most → phase ≢ IsOpen
    → IsTurn s (Ok (Follow most)) (out ++ by_phase (count_text told) phase) s'
follow_ended s mid v s' most told phase out so_far after spent none is sees fewer ended =
    let before : SharedView = record { own = Some mid; sight = v } in
    let g = has_run s before (Follow most) out told mid so_far refl none.3 in
    let told_so : FollowsFewer g.before most (out ++ by_phase (count_text told) phase) s'.own s'.sight.seen = record {
      posts = g.posts;
      before = mid;
      taken = g.taken;
      phase = phase;
      after = after;
      spent = spent;
      ended = ended;
      watcher = is;
      most_is = omega (arith, g.count, fewer);
      text_is = ap (λ (x : List ℕ). x ++ by_phase (count_text told) phase) g.text ∙ ap (λ (x : List ℕ). flat_map post_text g.posts ++ x) (phase_ends (count_text told) phase ended);
    } in
    let followed : IsFollowed s.own most (out ++ by_phase (count_text told) phase) s'.own s'.sight.seen =
    subst (λ (x : Option WatcherView). IsFollowed x most (out ++ by_phase (count_text told) phase) s'.own s'.sight.seen) (sym g.had) (inr told_so) in
    inl (followed, sees_then s.sight v s'.sight (so_far_sees s before (Follow most) out told so_far) sees)

-- none wait: it rests, or tells why there will be no more
pub follow_none : (s : SharedView) (own : Option WatcherView) (v : WitnessView) (s' : SharedView) (most told limit : ℕ) (phase : Phase) (out : List ℕ) (p : Option (List ℕ)) (n : Then)
    → IsSoFar s (Follow most) out told (record { own = own; sight = v }) → IsPortion own limit (Ok (Empty phase)) s'.own s'.sight.seen → SeesOn v s'.sight → told < most
    → (phase ≡ IsOpen → (p ≡ None) × (n ≡ More told)) → (phase ≢ IsOpen → EndsWith (by_phase (count_text told) phase) None p n) → IsPiece s (Follow most) out p n s'
follow_none s None v s' most told limit phase out p n so_far h sees fewer rest over = absurd h
follow_none s (Some mid) v s' most told limit IsOpen out p n so_far h sees fewer rest over =
    let before : SharedView = record { own = Some mid; sight = v } in
    let g = has_gone s before (Follow most) out told mid so_far refl in
    let on : Follows s.own (Follow most) (out ++ []) told s'.own = goes_further s.own most told told mid h.0 s'.own out [] [] g h.2 h.3 (omega arith) (omega (arith, fewer)) refl in
    let is = rest refl in
    rw (is.0, is.1) (on, sees_then s.sight v s'.sight (so_far_sees s before (Follow most) out told so_far) sees)
follow_none s (Some mid) v s' most told limit Lagged out p n so_far h sees fewer rest over = let last = over (λ is. cc) in rw (last.0, last.1) (inl (follow_ended s mid v s' most told Lagged out so_far h.0 h.1 h.2 h.3 sees fewer (λ is. cc), refl))
follow_none s (Some mid) v s' most told limit Ended out p n so_far h sees fewer rest over = let last = over (λ is. cc) in rw (last.0, last.1) (inl (follow_ended s mid v s' most told Ended out so_far h.0 h.1 h.2 h.3 sees fewer (λ is. cc), refl))
