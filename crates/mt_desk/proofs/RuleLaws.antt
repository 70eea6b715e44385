-- Each step keeps the rule.
use Rattle.std.proofs.Common.{◌≡◌, ◌≢◌, ◌⊎◌, ℕ, zero, suc, ◌+◌, ◌<◌, ◌≤◌, ◌==◌, cond, true, false, true≢false, List, [], ◌∷◌, ◌++◌, length, set, refl, sym, ap, ◌∙◌, subst, inl, inr, ⊎_elim, arith}
use Rattle.std.proofs.lemmas.Bool.{eq-eqb, ne_eqb, cond-true, cond-false}
use mathlib.Core.Option.{some, some-ne-none, some-injective}
use lib.ListN.{get_elem?}
use Rattle.crossbeam_queue.proofs.Lists.{at_set}
use Rattle.crossbeam_queue.specs.Fifo.{Forks, Merges, Learns}
use Rattle.mt_desk.specs.declared.act.Act.{Act}
use Rattle.mt_desk.specs.declared.act.LogEntry.{LogEntry}
use Rattle.mt_desk.specs.declared.history_rule.PassView.{PassView}
use Rattle.mt_desk.specs.Entries.{entries, acts_by, IsSeen}
use Rattle.mt_desk.specs.HistoryViews.{keeper, caller, both, pair, used_up}
use Rattle.mt_desk.specs.HistoryRule.{KnowsOwn, FitsLog, KeepsHistory}
use Rattle.mt_desk.proofs.EntryLaws.{acts_more-other, seen_all, seen_more}

pub off : false ≡ true → ⊥
off e = true≢false (sym e)

abbrev pub Each : (ℕ → PassView → Type 0) → List PassView → Type 0
Each F views = (pass : ℕ) (v : PassView) → get_elem? views pass ≡ some v → F pass v

-- a place of its own in F
here : (F : ℕ → PassView → Type 0) (i j : ℕ) (w u : PassView) → j ≡ i → w ≡ u → F i w → F j u
here F i j w u at is mine = subst (λ (y : ℕ × PassView). F y.0 y.1) (λ k. (sym at k, is k)) mine

each_set : (F : ℕ → PassView → Type 0) (views : List PassView) (pass : ℕ) (w : PassView) → F pass w
    → ((j : ℕ) (u : PassView) → j ≢ pass → get_elem? views j ≡ some u → F j u) → Each F (set views pass w)
each_set F views pass w mine others j u e =
    ⊎_elim
    (λ (x : (j ≡ pass) × (w ≡ u)). here F pass j w u x.0 x.1 mine)
    (λ (x : (j ≢ pass) × (get_elem? views j ≡ some u)). others j u x.0 x.1)
    (at_set views pass j w u e)

at_grown : (l : List PassView) (a b : PassView) (j : ℕ) → get_elem? (l ++ a ∷ []) j ≡ some b → (get_elem? l j ≡ some b) ⊎ ((j ≡ length l) × (a ≡ b))
at_grown [] a b zero e = inr (refl, some-injective a b e)
at_grown [] a b (suc j) e = absurd (some-ne-none b (sym e))
at_grown (x ∷ xs) a b zero e = inl e
at_grown (x ∷ xs) a b (suc j) e = ⊎_elim (λ h. inl h) (λ t. inr (ap suc t.0, t.1)) (at_grown xs a b j e)

each_grown : (F : ℕ → PassView → Type 0) (views : List PassView) (w : PassView) → F (length views) w → Each F views → Each F (views ++ w ∷ [])
each_grown F views w new old j u e =
    ⊎_elim (λ x. old j u x) (λ (x : (j ≡ length views) × (w ≡ u)). here F (length views) j w u x.0 x.1 new) (at_grown views w u j e)

-- a session's pass is another one
abbrev given : (ℕ → ℕ) → ℕ → ℕ → ℕ → ℕ
given owner by pass n = cond (n == by) pass (owner n)

given_here : (owner : ℕ → ℕ) (by pass : ℕ) → given owner by pass by ≡ pass
given_here owner by pass = cond-true (by == by) pass (owner by) (eq-eqb by by refl)

given_else : (owner : ℕ → ℕ) (by pass n : ℕ) → n ≢ by → given owner by pass n ≡ owner n
given_else owner by pass n apart = cond-false (n == by) pass (owner n) (ne_eqb n by apart)

-- what a pass knows of a session stays true while another session's pass comes, and sessions and entries of others
own_stays : (owner : ℕ → ℕ) (by p next now pass n : ℕ) (seen log : List LogEntry) → n ≢ by → next ≤ now → KnowsOwn owner log next pass n seen → KnowsOwn (given owner by p) log now pass n seen
own_stays owner by p next now pass n seen log apart more r = (r.0 ∙ sym (given_else owner by p n apart), omega (arith, r.1, more), r.2)

own_grows : (owner : ℕ → ℕ) (by p next pass n : ℕ) (seen log : List LogEntry) (cs : List Act) → n ≢ by → KnowsOwn owner log next pass n seen → KnowsOwn (given owner by p) (log ++ entries by cs) next pass n seen
own_grows owner by p next pass n seen log cs apart r = (r.0 ∙ sym (given_else owner by p n apart), r.1, seen_more n by seen log cs apart r.2)

not_next : (n next : ℕ) → n < next → n ≢ next
not_next n next less same = omega (arith, less, same)

-- so it is of all that another pass knows
fits_still : (desk : ℕ) (owner : ℕ → ℕ) (by p next pass : ℕ) (log : List LogEntry) (u : PassView) → ((n : ℕ) → pass ≡ owner n → n ≢ by) → FitsLog desk owner log next pass u → FitsLog desk (given owner by p) log next pass u
fits_still desk owner by p next pass log u apart f = (
  f.0,
  (λ k. let r = f.1 k in own_stays owner by p next next pass u.by u.seen log (apart u.by r.0) (omega arith) r),
  λ k. let r = f.2 k in (r.0, own_stays owner by p next next pass u.other u.beside log (apart u.other r.1.0) (omega arith) r.1),
)

pub begins : KeepsHistory [] (keeper [] 0 ∷ [])
begins = record { desk = 0; owner = λ n. 0; log = []; next = 0; each = one; fresh = λ n le. refl }
  where
    F : ℕ → PassView → Type 0
    F = FitsLog 0 (λ n. 0) [] 0

    one : Each F (keeper [] 0 ∷ [])
    one zero v e = subst (F 0) (some-injective _ _ e) ((λ _. (refl, refl, refl)), (λ k. absurd (off k)), (λ k. absurd (off k)))
    one (suc j) v e = absurd (some-ne-none v (sym e))

-- a new session
pub admits : (pass : ℕ) (all : List LogEntry) (next : ℕ) → Forks KeepsHistory pass (keeper all next) (keeper all (next + 1)) (caller next all)
admits pass all next items views h at =
    let s = (h.each pass (keeper all next) at).0 refl in
    let left : PassView = keeper all (next + 1) in
    let vs : List PassView = set views pass left in
    let owner : ℕ → ℕ = given h.owner h.next (length vs) in
    let F : ℕ → PassView → Type 0 = FitsLog h.desk owner h.log (h.next + 1) in
    let mine : length vs ≡ owner next = sym (ap owner s.2 ∙ given_here h.owner h.next (length vs)) in
    let seen : IsSeen next all h.log = subst (IsSeen next all) s.1 (seen_all next all) in
    record {
      desk = h.desk;
      owner = owner;
      log = h.log;
      next = h.next + 1;
      fresh = λ n le. h.fresh n (omega arith);
      each = each_grown F vs (caller next all) ((λ k. absurd (off k)), (λ _. (mine, omega (arith, s.2), seen)), (λ k. absurd (off k))) (each_set F views pass left ((λ _. (s.0, s.1, ap (λ k. k + 1) s.2)), (λ k. absurd (off k)), (λ k. absurd (off k))) (λ j u other e. (
        (λ k. absurd (other (((h.each j u e).0 k).0 ∙ sym s.0))),
        (λ k. let r = (h.each j u e).1 k in own_stays h.owner h.next (length vs) h.next (h.next + 1) j u.by u.seen h.log (not_next u.by h.next r.1) (omega arith) r),
        λ k. let r = (h.each j u e).2 k in (r.0, own_stays h.owner h.next (length vs) h.next (h.next + 1) j u.other u.beside h.log (not_next u.other h.next r.1.1) (omega arith) r.1),
      )));
    }

-- what a session's pass knows goes to a new pass
pub hands_over : (pass by : ℕ) (seen : List LogEntry) → Forks KeepsHistory pass (caller by seen) used_up (caller by seen)
hands_over pass by seen items views h at =
    let t = (h.each pass (caller by seen) at).1 refl in
    let vs : List PassView = set views pass used_up in
    let owner : ℕ → ℕ = given h.owner by (length vs) in
    let F : ℕ → PassView → Type 0 = FitsLog h.desk owner h.log h.next in
    record {
      desk = h.desk;
      owner = owner;
      log = h.log;
      next = h.next;
      fresh = h.fresh;
      each = each_grown F vs (caller by seen) ((λ k. absurd (off k)), (λ _. (sym (given_here h.owner by (length vs)), t.1, t.2)), (λ k. absurd (off k)))
          (each_set F views pass used_up ((λ k. absurd (off k)), (λ k. absurd (off k)), (λ k. absurd (off k))) (λ j u other e. fits_still h.desk h.owner by (length vs) h.next j h.log u (λ n is same. other (is ∙ ap h.owner same ∙ sym t.0)) (h.each j u e)));
    }

-- a session meets the desk
pub joins : (pass : ℕ) (all : List LogEntry) (next other by : ℕ) (seen : List LogEntry) → Merges KeepsHistory pass (keeper all next) other (caller by seen) (both all next by seen) used_up
joins pass all next other by seen items views h at two at' =
    let w : PassView = both all next by seen in
    let s = (h.each pass (keeper all next) at).0 refl in
    let vs : List PassView = set views pass w in
    let was : get_elem? views other ≡ some (caller by seen) = ⊎_elim (λ x. absurd (two x.0)) (λ x. x.1) (at_set views pass other w (caller by seen) at') in
    let t = (h.each other (caller by seen) was).1 refl in
    let owner : ℕ → ℕ = given h.owner by pass in
    let F : ℕ → PassView → Type 0 = FitsLog h.desk owner h.log h.next in
    let Now : ℕ → PassView → Type 0 = λ j y. j ≢ other → F j y in
    let now : Each Now vs = each_set Now views pass w (λ _. ((λ _. s), (λ _. (sym (given_here h.owner by pass), t.1, t.2)), (λ k. absurd (off k))))
    (λ j u apart e aside. fits_still h.desk h.owner by pass h.next j h.log u (λ n is same. aside (is ∙ ap h.owner same ∙ sym t.0)) (h.each j u e)) in
    record {
      desk = h.desk;
      owner = owner;
      log = h.log;
      next = h.next;
      fresh = h.fresh;
      each = each_set F vs other used_up ((λ k. absurd (off k)), (λ k. absurd (off k)), (λ k. absurd (off k))) (λ j u apart e. now j u e apart);
    }

-- then it is known that the session has seen a beginning, in which are all its commands
pub learns : (pass : ℕ) (all : List LogEntry) (next by : ℕ) (seen : List LogEntry) → Learns KeepsHistory pass (both all next by seen) (λ items. IsSeen by seen all)
learns pass all next by seen items views h at =
    let s = (h.each pass (both all next by seen) at).0 refl in
    let t = (h.each pass (both all next by seen) at).1 refl in
    subst (IsSeen by seen) (sym s.1) t.2

-- a new session's number is nobody's
pub learns_fresh : (pass : ℕ) (all : List LogEntry) (next : ℕ) → Learns KeepsHistory pass (keeper all next) (λ items. acts_by next all ≡ [])
learns_fresh pass all next items views h at =
    let s = (h.each pass (keeper all next) at).0 refl in
    ap (acts_by next) s.1 ∙ h.fresh next (omega (arith, s.2))

-- commands of the session join the history, and the two part
pub adds : (pass : ℕ) (all : List LogEntry) (next by : ℕ) (seen : List LogEntry) (cs : List Act)
    → Forks KeepsHistory pass (both all next by seen) (keeper (all ++ entries by cs) next) (caller by (all ++ entries by cs))
adds pass all next by seen cs items views h at =
    let s = (h.each pass (both all next by seen) at).0 refl in
    let t = (h.each pass (both all next by seen) at).1 refl in
    let now : List LogEntry = all ++ entries by cs in
    let log : List LogEntry = h.log ++ entries by cs in
    let grown : now ≡ log = ap (λ l. l ++ entries by cs) s.1 in
    let left : PassView = keeper now next in
    let vs : List PassView = set views pass left in
    let owner : ℕ → ℕ = given h.owner by (length vs) in
    let F : ℕ → PassView → Type 0 = FitsLog h.desk owner log h.next in
    let seen' : IsSeen by now log = subst (IsSeen by now) grown (seen_all by now) in
    let less : by < h.next = t.1 in
    record {
      desk = h.desk;
      owner = owner;
      log = log;
      next = h.next;
      fresh = λ n le. acts_more-other n by h.log cs (λ same. omega (arith, same, less, le)) ∙ h.fresh n le;
      each = each_grown F vs (caller by now) ((λ k. absurd (off k)), (λ _. (sym (given_here h.owner by (length vs)), t.1, seen')), (λ k. absurd (off k))) (each_set F views pass left ((λ _. (s.0, grown, s.2)), (λ k. absurd (off k)), (λ k. absurd (off k))) (λ j u other e. (
        (λ k. absurd (other (((h.each j u e).0 k).0 ∙ sym s.0))),
        (λ k. let r = (h.each j u e).1 k in own_grows h.owner by (length vs) h.next j u.by u.seen h.log cs (λ same. other (r.0 ∙ ap h.owner same ∙ sym t.0)) r),
        λ k. let r = (h.each j u e).2 k in (r.0, own_grows h.owner by (length vs) h.next j u.other u.beside h.log cs (λ same. other (r.1.0 ∙ ap h.owner same ∙ sym t.0)) r.1),
      )));
    }

-- a session meets another one
joins_pair : (pass by : ℕ) (seen : List LogEntry) (other by' : ℕ) (seen' : List LogEntry) → Merges KeepsHistory pass (caller by seen) other (caller by' seen') (pair by seen by' seen') used_up
joins_pair pass by seen other by' seen' items views h at two at' =
    let w : PassView = pair by seen by' seen' in
    let s = (h.each pass (caller by seen) at).1 refl in
    let vs : List PassView = set views pass w in
    let was : get_elem? views other ≡ some (caller by' seen') = ⊎_elim (λ x. absurd (two x.0)) (λ x. x.1) (at_set views pass other w (caller by' seen') at') in
    let t = (h.each other (caller by' seen') was).1 refl in
    let apart : by ≢ by' = λ same. two (t.0 ∙ ap h.owner (sym same) ∙ sym s.0) in
    let owner : ℕ → ℕ = given h.owner by' pass in
    let F : ℕ → PassView → Type 0 = FitsLog h.desk owner h.log h.next in
    let Now : ℕ → PassView → Type 0 = λ j y. j ≢ other → F j y in
    let now : Each Now vs =
    each_set Now views pass w (λ _. ((λ k. absurd (off k)), (λ _. own_stays h.owner by' pass h.next h.next pass by seen h.log apart (omega arith) s), (λ _. (apart, (sym (given_here h.owner by' pass), t.1, t.2)))))
    (λ j u away e aside. fits_still h.desk h.owner by' pass h.next j h.log u (λ n is same. aside (is ∙ ap h.owner same ∙ sym t.0)) (h.each j u e)) in
    record {
      desk = h.desk;
      owner = owner;
      log = h.log;
      next = h.next;
      fresh = h.fresh;
      each = each_set F vs other used_up ((λ k. absurd (off k)), (λ k. absurd (off k)), (λ k. absurd (off k))) (λ j u away e. now j u e away);
    }

-- then it is known that their numbers differ
learns_apart : (pass by : ℕ) (seen : List LogEntry) (by' : ℕ) (seen' : List LogEntry) → Learns KeepsHistory pass (pair by seen by' seen') (λ items. by ≢ by')
learns_apart pass by seen by' seen' items views h at = ((h.each pass (pair by seen by' seen') at).2 refl).0

-- the two part
parts : (pass by : ℕ) (seen : List LogEntry) (by' : ℕ) (seen' : List LogEntry) → Forks KeepsHistory pass (pair by seen by' seen') (caller by seen) (caller by' seen')
parts pass by seen by' seen' items views h at =
    let f = h.each pass (pair by seen by' seen') at in
    let s = f.1 refl in
    let t = f.2 refl in
    let left : PassView = caller by seen in
    let vs : List PassView = set views pass left in
    let owner : ℕ → ℕ = given h.owner by' (length vs) in
    let F : ℕ → PassView → Type 0 = FitsLog h.desk owner h.log h.next in
    record {
      desk = h.desk;
      owner = owner;
      log = h.log;
      next = h.next;
      fresh = h.fresh;
      each = each_grown F vs (caller by' seen') ((λ k. absurd (off k)), (λ _. (sym (given_here h.owner by' (length vs)), t.1.1, t.1.2)), (λ k. absurd (off k)))
          (each_set F views pass left ((λ k. absurd (off k)), (λ _. own_stays h.owner by' (length vs) h.next h.next pass by seen h.log t.0 (omega arith) s), (λ k. absurd (off k)))
          (λ j u away e. fits_still h.desk h.owner by' (length vs) h.next j h.log u (λ n is same. away (is ∙ ap h.owner same ∙ sym t.1.0)) (h.each j u e)));
    }

-- the same, at views that are known to be so
pub admits_as : (pass : ℕ) (v : PassView) → v ≡ keeper v.all v.next → Forks KeepsHistory pass v (keeper v.all (v.next + 1)) (caller v.next v.all)
admits_as pass v is = subst (λ (u : PassView). Forks KeepsHistory pass u (keeper v.all (v.next + 1)) (caller v.next v.all)) (sym is) (admits pass v.all v.next)

pub hands_over_as : (pass : ℕ) (v : PassView) → v ≡ caller v.by v.seen → Forks KeepsHistory pass v used_up v
hands_over_as pass v is = subst (λ (u : PassView). Forks KeepsHistory pass u used_up u) (sym is) (hands_over pass v.by v.seen)

pub joins_as : (pass other : ℕ) (v u : PassView) → v ≡ keeper v.all v.next → u ≡ caller u.by u.seen → Merges KeepsHistory pass v other u (both v.all v.next u.by u.seen) used_up
joins_as pass other v u is is' =
    subst (λ (x : PassView × PassView). Merges KeepsHistory pass x.0 other x.1 (both v.all v.next u.by u.seen) used_up) (λ k. (sym is k, sym is' k)) (joins pass v.all v.next other u.by u.seen)

pub learns_as : (pass : ℕ) (v : PassView) → v ≡ both v.all v.next v.by v.seen → Learns KeepsHistory pass v (λ items. IsSeen v.by v.seen v.all)
learns_as pass v is = subst (λ (u : PassView). Learns KeepsHistory pass u (λ items. IsSeen v.by v.seen v.all)) (sym is) (learns pass v.all v.next v.by v.seen)

pub learns_fresh_as : (pass : ℕ) (v : PassView) → v ≡ keeper v.all v.next → Learns KeepsHistory pass v (λ items. acts_by v.next v.all ≡ [])
learns_fresh_as pass v is = subst (λ (u : PassView). Learns KeepsHistory pass u (λ items. acts_by v.next v.all ≡ [])) (sym is) (learns_fresh pass v.all v.next)

pub adds_as : (pass : ℕ) (v : PassView) (cs : List Act) → v ≡ both v.all v.next v.by v.seen
    → Forks KeepsHistory pass v (keeper (v.all ++ entries v.by cs) v.next) (caller v.by (v.all ++ entries v.by cs))
adds_as pass v cs is =
    subst (λ (u : PassView). Forks KeepsHistory pass u (keeper (v.all ++ entries v.by cs) v.next) (caller v.by (v.all ++ entries v.by cs))) (sym is) (adds pass v.all v.next v.by v.seen cs)

pub same_caller : (v u : PassView) → u ≡ v → v ≡ caller v.by v.seen → u ≡ caller u.by u.seen
same_caller v u is h = subst (λ (x : PassView). x ≡ caller x.by x.seen) (sym is) h

pub met : (v : PassView) (all : List LogEntry) (next by : ℕ) (seen : List LogEntry) → v ≡ both all next by seen → v ≡ both v.all v.next v.by v.seen
met v all next by seen is = subst (λ (x : PassView). x ≡ both x.all x.next x.by x.seen) (sym is) refl

pub same_keeper : (v u : PassView) → u ≡ v → v ≡ keeper v.all v.next → u ≡ keeper u.all u.next
same_keeper v u is h = subst (λ (x : PassView). x ≡ keeper x.all x.next) (sym is) h

pub joins_pair_as : (pass other : ℕ) (v u : PassView) → v ≡ caller v.by v.seen → u ≡ caller u.by u.seen → Merges KeepsHistory pass v other u (pair v.by v.seen u.by u.seen) used_up
joins_pair_as pass other v u is is' =
    subst (λ (x : PassView × PassView). Merges KeepsHistory pass x.0 other x.1 (pair v.by v.seen u.by u.seen) used_up) (λ k. (sym is k, sym is' k)) (joins_pair pass v.by v.seen other u.by u.seen)

pub learns_apart_as : (pass : ℕ) (v : PassView) → v ≡ pair v.by v.seen v.other v.beside → Learns KeepsHistory pass v (λ items. v.by ≢ v.other)
learns_apart_as pass v is = subst (λ (u : PassView). Learns KeepsHistory pass u (λ items. v.by ≢ v.other)) (sym is) (learns_apart pass v.by v.seen v.other v.beside)

pub parts_as : (pass : ℕ) (v : PassView) → v ≡ pair v.by v.seen v.other v.beside → Forks KeepsHistory pass v (caller v.by v.seen) (caller v.other v.beside)
parts_as pass v is = subst (λ (u : PassView). Forks KeepsHistory pass u (caller v.by v.seen) (caller v.other v.beside)) (sym is) (parts pass v.by v.seen v.other v.beside)

pub paired : (v : PassView) (by : ℕ) (seen : List LogEntry) (other : ℕ) (beside : List LogEntry) → v ≡ pair by seen other beside → v ≡ pair v.by v.seen v.other v.beside
paired v by seen other beside is = subst (λ (x : PassView). x ≡ pair x.by x.seen x.other x.beside) (sym is) refl
