-- The headline's first half, of every list of events.
use Rattle.std.proofs.Common.{◌≡◌, ℕ, suc, ◌<◌, ◌+◌, ◌-◌, cond, List, [], ◌∷◌, ◌++◌, take, drop, Some, slice_get, Ok, sym, ap, ◌∙◌, subst, arith}
use Rattle.std.proofs.lemmas.List.{append-nil}
use Rattle.mt_skel.proofs.ElementLaws.{get_in}
use Rattle.mt_events.specs.Posts.{PostView}
use Rattle.mt_events.specs.declared.opening.Opening.{Opening}
use Rattle.mt_floor.specs.declared.event.Event.{Event}
use Rattle.mt_floor.specs.declared.event.Answer.TheVariants.{Opened}
use Rattle.mt_events.specs.Following.{IsRun}
use Rattle.mt_floor.specs.Watcher.{due_for, opening_of}
use Rattle.mt_floor.specs.Schedule.{FloorView, empty_floor, floor_step, run}
use Rattle.mt_floor.specs.Headline.{accepted_by, accepted, taken_by, taken_posts, posted_by, posted_to, answers, floor_after, accepted_before, accepted_since, taken_since, posted_since, followed_since, IsInOrder}
use Rattle.mt_floor.proofs.HeldLaws.{Kept, Held}
use Rattle.mt_floor.proofs.RunLaws.{run_split, get_drop, told_behind, told_next, told_front, ran, ran_shut, ran_ended, after_kept, before_told}
use Rattle.mt_floor.proofs.BeginLaws.{begins}
use Rattle.mt_floor.proofs.FollowedLaws.{is_run}

-- a watcher from its opening on
pub record Watched (key : ℕ) (o : Opening) (s : FloorView) (es : List Event) : Type 0 where
  pub opening : o ≡ opening_of s.journal o.scope
  pub held : Held key o.scope s.journal (accepted es (run s es).1) (posted_to key s es) (taken_posts key es (run s es).1) (run s es).0

watched : (s : FloorView) (es : List Event) (key : ℕ) (o : Opening) → Kept s → slice_get (run s es).1 0 ≡ Some (Ok (Opened key o)) → Watched key o s es
watched s [] key o k is = absurd (get_in [] 0 _ is)
watched s (e ∷ es) key o k is =
    let a = floor_step s e in
    let opened : a.1 ≡ Ok (Opened key o) = cc in
    let b = begins s e k key o opened in
    let more = run a.0 es in record {
      opening = b.opening_is;
      held = coe 0 1 (i. Held key o.scope s.journal (accepted_by e (sym opened i) ++ accepted es more.1) (posted_by key s.due (sym opened i) ++ posted_to key a.0 es) (taken_by key e (sym opened i) ++ taken_posts key es more.1) more.0)
          (ran b.kept b.held es).held;
    }

-- the same in a list of events, by its answers alone
pub watched_at :
    (capacity : ℕ) (es : List Event) (at key : ℕ) (o : Opening) → slice_get (answers capacity es) at ≡ Some (Ok (Opened key o)) → Watched key o (floor_after capacity (take at es)) (drop at es)
watched_at capacity es at key o is = watched (floor_after capacity (take at es)) (drop at es) key o (after_kept capacity (take at es)) (told_next capacity es at ∙ is)

pub held_at :
    (capacity : ℕ) (es : List Event) (at key : ℕ) (o : Opening) → slice_get (answers capacity es) at ≡ Some (Ok (Opened key o))
    → Held key o.scope (accepted_before capacity es at) (accepted_since capacity es at) (posted_since capacity es at key) (taken_since capacity es at key) (floor_after capacity es)
held_at capacity es at key o is =
    let all = run_split (empty_floor capacity) es at in
    coe 0 1 (i. Held key o.scope (before_told capacity es at i) (accepted (drop at es) (all i).1) (posted_since capacity es at key) (taken_posts key (drop at es) (all i).1) (all i).0) (watched_at capacity es at key o is).held

-- and after the first of them
pub held_then : (capacity : ℕ) (es : List Event) (at key : ℕ) (o : Opening) → slice_get (answers capacity es) at ≡ Some (Ok (Opened key o)) → (n : ℕ) → at < n
    → Held key o.scope (accepted_before capacity (take n es) at) (accepted_since capacity (take n es) at) (posted_since capacity (take n es) at key) (taken_since capacity (take n es) at key) (floor_after capacity (take n es))
held_then capacity es at key o is n less = held_at capacity (take n es) at key o (told_front capacity es n at less ∙ is)

pub opening_told : (capacity : ℕ) (es : List Event) (at key : ℕ) (o : Opening) → slice_get (answers capacity es) at ≡ Some (Ok (Opened key o)) → o ≡ opening_of (accepted_before capacity es at) o.scope
opening_told capacity es at key o is = (watched_at capacity es at key o is).opening ∙ ap (λ l. opening_of l o.scope) (before_told capacity es at)

-- the first of the followed posts are a run from its opening
pub run_from_opening : (capacity : ℕ) (es : List Event) (at key : ℕ) (o : Opening) → slice_get (answers capacity es) at ≡ Some (Ok (Opened key o)) → (ps rest : List PostView)
    → followed_since capacity es at o.scope ≡ ps ++ rest → IsRun o ps
run_from_opening capacity es at key o is ps rest first =
    subst (λ (x : Opening). IsRun x ps) (sym (opening_told capacity es at key o is)) (is_run o.scope (accepted_before capacity es at) (accepted_since capacity es at) ps rest first)

pub in_order : (capacity : ℕ) (es : List Event) (at key : ℕ) (o : Opening) → slice_get (answers capacity es) at ≡ Some (Ok (Opened key o)) → IsInOrder capacity es at key o
in_order capacity es at key o is =
    let h = held_at capacity es at key o is in record {
      not_taken = h.first.not_taken;
      taken = h.first.taken_is;
      not_posted = h.first.not_posted;
      posted = h.first.posted_is;
      row = λ r there. ((h.row r there).posted_is, (h.row r there).taken_is);
      run = run_from_opening capacity es at key o is (posted_since capacity es at key) h.first.not_posted h.first.posted_is;
      all = λ open_is none.
          let left : h.first.not_posted ≡ [] = sym (ap (λ b. cond b h.first.not_posted []) open_is) ∙ sym h.due ∙ ap (due_for key) none in
          h.first.posted_is ∙ ap (λ l. posted_since capacity es at key ++ l) left ∙ append-nil (posted_since capacity es at key);
      none_after = λ n m e a b less more event answer ends there.
          let i = m - n - 1 in
          let here : n + 0 ≡ n = omega arith in
          let place : n + suc i ≡ m = omega (arith, more) in
          ran_ended (after_kept capacity (take n es)) (held_then capacity es at key o is n less) (drop n es) e a (get_drop es n 0 ∙ ap (slice_get es) here ∙ event) (told_next capacity es n ∙ answer) ends
          i b (told_behind capacity es n (suc i) ∙ ap (slice_get (answers capacity es)) place ∙ there);
      none = λ n less shut. (ran_shut (after_kept capacity (take n es)) (held_then capacity es at key o is n less) shut (drop n es)).0;
    }
