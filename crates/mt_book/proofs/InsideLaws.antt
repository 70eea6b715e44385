-- What is done in a less privileged copy of a namespace, and in what is taken from it, stays in it.
use Rattle.std.proofs.Common.{◌≡◌, ◌⊎◌, ℕ, ◌+◌, ◌<◌, ◌≤◌, true, false, ◌||◌, ◌&&◌, eqb-true, eq-eqb, List, [], ◌∷◌, ◌++◌, length, Result, Ok, Err, refl, sym, ap, ◌∙◌, subst, inl, inr, arith, append-nil}
use Rattle.std.specs.Prelude.{Bool, if◌then◌else◌, nat_le}
use Rattle.std.specs.Option.{option_to_list}
use Rattle.mt_skel.proofs.MiddleLaws.{and_first, and_second}
use Rattle.mt_mounts.specs.declared.mount.Mount.{Mount as AnyMount}
use Rattle.mt_skel.specs.declared.fault.Fault.{Fault}
use Rattle.mt_skel.specs.declared.fault.Fault.TheVariants.{JournalFull}
use Rattle.mt_skel.specs.Skeleton.{IsSkeleton}
use Rattle.mt_propagate.specs.World.{WorldView, space_of}
use Rattle.mt_propagate.specs.WellFormed.{IsWellFormed}
use Rattle.mt_propagate.specs.Contained.{only, IsContained, IsSameOutside}
use Rattle.mt_propagate.proofs.ContainedLaws.{space_low, alike_contained}
use Rattle.mt_bind.specs.Copying.{with_copies}
use Rattle.mt_bind.specs.Spaces.{with_copy, copy_space}
use Rattle.mt_bind.specs.Opening.{tree_opened}
use Rattle.mt_bind.proofs.AcceptedLaws.{copy_space_accepted, drop_space_accepted, opened_accepted}
use Rattle.mt_bind.proofs.InsideLaws.{mount_contained, mount_outside, bind_contained, bind_outside, move_contained, move_outside, made_contained, copied_contained, copied_outside, less_copied, end_contained, end_outside, tree_made_contained, opened_contained, opened_outside}
use Rattle.mt_bind.proofs.AttachingLaws.{attached_contained, attached_outside}
use Rattle.mt_bind.proofs.PivotingLaws.{pivoted_contained, pivoted_outside}
use Rattle.mt_unmount.proofs.InsideLaws.{unmounted-contained, unmounted-outside, detached-contained, detached-outside}
use Rattle.mt_setattr.specs.Words.{nothing_set}
use Rattle.mt_setattr.proofs.InsideLaws.{attributed-contained, attributed-outside}
use Rattle.mt_info.specs.Table.{table_of}
use Rattle.mt_info.proofs.OutsideTables.{same_table}
use Rattle.mt_book.specs.declared.command.Command.{Command}
use Rattle.mt_book.specs.declared.command.Command.TheVariants.{Room, MakeFs, MakeDir, NewSpace, CopySpace, DropSpace, Mount, MountWith, Bind, Move, Pivot, Unmount, Detach, SetAttr, OpenTree, NewTree, MoveTree}
use Rattle.mt_book.specs.declared.command.Reply.{Reply}
use Rattle.mt_book.specs.declared.command.Reply.TheVariants.{Number}
use Rattle.mt_locks.specs.Locks.{LocksView}
use Rattle.mt_book.specs.declared.command.Privilege.{Privilege}
use Rattle.mt_book.specs.Step.{with_made_number, is_less, act, judged, guarded, step, makes_directories, world_or, next_world, after_from, after}
use Rattle.mt_book.specs.History.{events, space_number}
use Rattle.mt_book.specs.Book.{command_limit, answer, reply_of}
use Rattle.mt_book.specs.Inside.{is_issued_in, is_taken_from, is_answer, enlarged, family_after, StaysOnItsSide, IsNotCrossed, family_of, StaysInCopy, AllStayInCopies}
use Rattle.mt_book.specs.Laws.{AreGivenOut}
use Rattle.mt_book.proofs.EffectLaws.{number_ok, done_ok, acted_directories, step_accepted, by_act, next_by}
use Rattle.mt_book.proofs.StepLaws.{step_kept}
use Rattle.mt_book.proofs.RiseLaws.{step_rises}
use Rattle.mt_book.proofs.HistoryLaws.{IsGood, step_good, after_good, after-append, events-append}
use Rattle.mt_book.proofs.DirectoryLaws.{no_post}

-- directories have no part in it
skel_contained : (family : ℕ → Bool) (w : WorldView) (c : Command) (v : WorldView) (r : Reply) → makes_directories c ≡ true → act w c ≡ Ok (v, r) → IsContained family w → IsContained family v
skel_contained family w c v r d e a = let m = acted_directories w c v r d e in subst (IsContained family) (sym m.1) (record { groups = a.groups; chains = a.chains })

-- ---- what joins a family

none_joins : (a b x : Bool) → (b ≡ false) ⊎ (x ≡ false) → (a || (b && x)) ≡ a
none_joins true b x off = refl
none_joins false false x off = refl
none_joins false true false off = refl
none_joins false true true off = elim off [ inl e ↦ absurd (cc) | inr e ↦ absurd (cc) ]

-- the new one is of the family exactly where the one is from which it is taken
joins_with : (a b x y : Bool) → b ≡ false → y ≡ true → (a || (a && x)) ≡ (b || (a && y))
joins_with true false x true e f = refl
joins_with false false x true e f = refl
joins_with a true x y e f = absurd (cc)
joins_with a false x false e f = absurd (cc)

new_joins : (a b x : Bool) → b ≡ true → x ≡ true → (a || (b && x)) ≡ true
new_joins true b x e f = refl
new_joins false true true e f = refl
new_joins false false x e f = absurd (cc)
new_joins false true false e f = absurd (cc)

-- what is of the family stays of it
stays_of : (a x : Bool) → a ≡ true → (a || x) ≡ true
stays_of true x e = refl
stays_of false x e = absurd (cc)

-- the number that was answered
answered : (w : WorldView) (c : Command) (v : WorldView) (r : Reply) (k i : ℕ) → step w c ≡ Ok (v, r) → Number i ≡ r → k ≡ i → is_answer k (step w c) ≡ true
answered w c v r k i e number same = ap (is_answer k) (e ∙ ap (λ (r : Reply). Ok (v, r)) (sym number)) ∙ eq-eqb k i same

made_next : (q : Result (WorldView × ℕ) Fault) (next : ℕ) → ((v : WorldView) (i : ℕ) → q ≡ Ok (v, i) → next ≡ i) → (k : ℕ) → is_answer k (with_made_number q) ≡ true → k ≡ next
made_next (Ok p) next f k e = eqb-true k p.1 e ∙ sym (f p.0 p.1 refl)
made_next (Err x) next f k e = absurd (cc)

-- what a command answers is what it answers without locks
acted_answer : (w : WorldView) (c : Command) (k : ℕ) → is_answer k (step w c) ≡ true → is_answer k (act w c) ≡ true
unfolding step
acted_answer w c k e = by (judged w c) (act w c) e
  where
    by : (j : Result LocksView Fault) (q : Result (WorldView × Reply) Fault) → is_answer k (guarded j q) ≡ true → is_answer k q ≡ true
    by (Ok l) (Ok p) e = e
    by (Ok l) (Err f) e = absurd (cc)
    by (Err f) q e = absurd (cc)

-- it is the next one
next_joins : (family : ℕ → Bool) (w : WorldView) (c : Command) (k : ℕ) → is_taken_from family c ≡ true → is_answer k (step w c) ≡ true → k ≡ w.next_space
unfolding act
next_joins family w (CopySpace m less) k taken e =
    made_next (copy_space w m (is_less less)) w.next_space (λ v i is. (copy_space_accepted w m (is_less less) v i is).number) k (acted_answer w (CopySpace m less) k e)
next_joins family w (OpenTree m path recursive) k taken e =
    made_next (tree_opened w m path recursive) w.next_space (λ v i is. (opened_accepted w m path recursive v i is).number) k (acted_answer w (OpenTree m path recursive) k e)
next_joins family w c k taken e = absurd (cc)

-- so the namespaces that were given out are of the family as they were
enlarged_low : (family : ℕ → Bool) (w : WorldView) (c : Command) (k : ℕ) → k < w.next_space → enlarged family w c k ≡ family k
enlarged_low family w c k low = none_joins (family k) (is_taken_from family c) (is_answer k (step w c)) (by (is_taken_from family c) refl)
  where
    answer_off : is_taken_from family c ≡ true → (x : Bool) → is_answer k (step w c) ≡ x → is_answer k (step w c) ≡ false
    answer_off taken false e = e
    answer_off taken true e = absurd (let same = next_joins family w c k taken e in omega (arith, low, same))

    by : (b : Bool) → is_taken_from family c ≡ b → (is_taken_from family c ≡ false) ⊎ (is_answer k (step w c) ≡ false)
    by false e = inl e
    by true e = inr (answer_off e (is_answer k (step w c)) refl)

enlarged_contained : (family : ℕ → Bool) (w : WorldView) (c : Command) → IsWellFormed w → IsContained family w → IsContained (enlarged family w c) w
enlarged_contained family w c h a = alike_contained family (enlarged family w c) w (λ i. sym (enlarged_low family w c (space_of w i) (space_low w h i))) a

not_yet : (family : ℕ → Bool) (w : WorldView) → AreGivenOut family w → family w.next_space ≡ false
not_yet family w given = by (family w.next_space) refl
  where
    by : (b : Bool) → family w.next_space ≡ b → family w.next_space ≡ false
    by false e = e
    by true e = absurd (let low = given w.next_space e in omega (arith, low))

-- ---- a command

acted_contained : (family : ℕ → Bool) (w : WorldView) (c : Command) (v : WorldView) (r : Reply) → IsWellFormed w → AreGivenOut family w → StaysOnItsSide family w c → step w c ≡ Ok (v, r) → IsContained (enlarged family w c) w
    → (u : WorldView) → act w c ≡ Ok (u, r) → IsContained (enlarged family w c) u
unfolding act
acted_contained family w (Room k) v r h given side e b u a = skel_contained _ w (Room k) u r refl a b
acted_contained family w (MakeFs name kind source) v r h given side e b u a = skel_contained _ w (MakeFs name kind source) u r refl a b
acted_contained family w (MakeDir fs path) v r h given side e b u a = skel_contained _ w (MakeDir fs path) u r refl a b
acted_contained family w (NewSpace fs) v r h given side e b u a = let q = number_ok _ u r a in made_contained _ w fs u q.0 h b q.1
acted_contained family w (CopySpace k less) v r h given side e b u a =
    let q = number_ok _ u r a in
    let next = (copy_space_accepted w k (is_less less) u q.0 q.1).number in
    let answer = answered w (CopySpace k less) v r q.0 q.0 e q.2 refl in
    copied_contained _ w k (is_less less) u q.0 h b (joins_with (family k) (family q.0) _ _ (ap family (sym next) ∙ not_yet family w given) answer) q.1
acted_contained family w (DropSpace k) v r h given side e b u a = subst (IsContained _) (drop_space_accepted w k u (done_ok _ u r a)).world (end_contained w h k _ b)
acted_contained family w (Mount k fs path) v r h given side e b u a = let q = number_ok _ u r a in mount_contained _ w k fs path nothing_set u q.0 h b q.1
acted_contained family w (MountWith k fs path set) v r h given side e b u a = let q = number_ok _ u r a in mount_contained _ w k fs path set u q.0 h b q.1
acted_contained family w (Bind k src dst recursive) v r h given side e b u a = let q = number_ok _ u r a in bind_contained _ w k recursive src dst u q.0 h b q.1
acted_contained family w (Move k src dst) v r h given side e b u a = move_contained _ w k src dst u h b (done_ok _ u r a)
acted_contained family w (Pivot k new old) v r h given side e b u a = pivoted_contained _ w k new old u h b (done_ok _ u r a)
acted_contained family w (Unmount k path) v r h given side e b u a = unmounted-contained _ w k path u h b (done_ok _ u r a)
acted_contained family w (Detach k path) v r h given side e b u a = detached-contained _ w k path u h b (done_ok _ u r a)
acted_contained family w (SetAttr k path change) v r h given side e b u a = attributed-contained _ w k path change u h b (done_ok _ u r a)
acted_contained family w (OpenTree k path recursive) v r h given side e b u a =
    let q = number_ok _ u r a in
    let next = (opened_accepted w k path recursive u q.0 q.1).number in
    let answer = answered w (OpenTree k path recursive) v r q.0 q.0 e q.2 refl in
    opened_contained _ w k path recursive u q.0 h b (joins_with (family k) (family q.0) _ _ (ap family (sym next) ∙ not_yet family w given) answer) q.1
acted_contained family w (NewTree fs) v r h given side e b u a = let q = number_ok _ u r a in tree_made_contained _ w fs u q.0 h b q.1
acted_contained family w (MoveTree tree k path) v r h given side e b u a = attached_contained _ w tree k path u h b (λ linked. ap (λ x. x || false) (side linked)) (done_ok _ u r a)

pub step_contained : (family : ℕ → Bool) (w : WorldView) (c : Command) (v : WorldView) (r : Reply) → IsWellFormed w → IsContained family w → AreGivenOut family w → StaysOnItsSide family w c → step w c ≡ Ok (v, r)
    → IsContained (enlarged family w c) v
step_contained family w c v r h a given side e =
    by_act w c v r (IsContained (enlarged family w c)) e (λ u acts. acted_contained family w c v r h given side e (enlarged_contained family w c h a) u acts) (λ u l s. record { groups = s.groups; chains = s.chains })

-- a command that is issued in a contained family changes nothing outside it
acted_outside : (family : ℕ → Bool) (w : WorldView) (c : Command) (v : WorldView) (r : Reply) → IsWellFormed w → is_issued_in family c ≡ true → step w c ≡ Ok (v, r) → IsContained (enlarged family w c) w
    → (u : WorldView) → act w c ≡ Ok (u, r) → IsSameOutside (enlarged family w c) w u
unfolding act
acted_outside family w (CopySpace k less) v r h is e b u a =
    let q = number_ok _ u r a in
    copied_outside _ w k (is_less less) u q.0 h (new_joins (family q.0) (family k) _ is (answered w (CopySpace k less) v r q.0 q.0 e q.2 refl)) q.1
acted_outside family w (DropSpace k) v r h is e b u a = subst (IsSameOutside _ w) (drop_space_accepted w k u (done_ok _ u r a)).world (end_outside w h k _ b (stays_of (family k) _ is))
acted_outside family w (Mount k fs path) v r h is e b u a = let q = number_ok _ u r a in mount_outside _ w k fs path nothing_set u q.0 h b (stays_of (family k) _ is) q.1
acted_outside family w (MountWith k fs path set) v r h is e b u a = let q = number_ok _ u r a in mount_outside _ w k fs path set u q.0 h b (stays_of (family k) _ is) q.1
acted_outside family w (Bind k src dst recursive) v r h is e b u a = let q = number_ok _ u r a in bind_outside _ w k recursive src dst u q.0 h b (stays_of (family k) _ is) q.1
acted_outside family w (Move k src dst) v r h is e b u a = move_outside _ w k src dst u h b (stays_of (family k) _ is) (done_ok _ u r a)
acted_outside family w (Pivot k new old) v r h is e b u a = pivoted_outside _ w k new old u h b (stays_of (family k) _ is) (done_ok _ u r a)
acted_outside family w (Unmount k path) v r h is e b u a = unmounted-outside _ w k path u h b (stays_of (family k) _ is) (done_ok _ u r a)
acted_outside family w (Detach k path) v r h is e b u a = detached-outside _ w k path u h b (stays_of (family k) _ is) (done_ok _ u r a)
acted_outside family w (SetAttr k path change) v r h is e b u a = attributed-outside _ w k path change u h b (stays_of (family k) _ is) (done_ok _ u r a)
acted_outside family w (OpenTree k path recursive) v r h is e b u a =
    let q = number_ok _ u r a in
    opened_outside _ w k path recursive u q.0 h (new_joins (family q.0) (family k) _ is (answered w (OpenTree k path recursive) v r q.0 q.0 e q.2 refl)) q.1
acted_outside family w (MoveTree tree k path) v r h is e b u a =
    attached_outside _ w tree k path u h b (stays_of (family tree) _ (and_first (family tree) (family k) is)) (stays_of (family k) _ (and_second (family tree) (family k) is)) (done_ok _ u r a)
acted_outside family w c v r h is e b u a = absurd (cc)

step_outside : (family : ℕ → Bool) (w : WorldView) (c : Command) (v : WorldView) (r : Reply) → IsWellFormed w → IsContained family w → is_issued_in family c ≡ true → step w c ≡ Ok (v, r) → IsSameOutside (enlarged family w c) w v
step_outside family w c v r h a is e =
    by_act w c v r (IsSameOutside (enlarged family w c) w) e (λ u acts. acted_outside family w c v r h is e (enlarged_contained family w c h a) u acts) (λ u l s. record { skel = s.skel; mounts = s.mounts; states = s.states })

-- so the tables of all namespaces outside stay
pub step_inside : (family : ℕ → Bool) (w : WorldView) (c : Command) (v : WorldView) (r : Reply) → IsWellFormed w → IsSkeleton w.skel → IsContained family w → AreGivenOut family w → is_issued_in family c ≡ true → step w c ≡ Ok (v, r)
    → (k : ℕ) → enlarged family w c k ≡ false → table_of v k ≡ table_of w k
step_inside family w c v r h s a given is e k off = same_table (enlarged family w c) w v h (step_kept w c v r h s e).0 (enlarged_contained family w c h a) (step_outside family w c v r h a is e) k off

-- what is kept while no group and no master is brought over the border
record Stands (family : ℕ → Bool) (w : WorldView) : Type 0 where
  good : IsGood w
  given : AreGivenOut family w
  contained : IsContained family w

-- a namespace more
copies_higher : (w : WorldView) (sources : List AnyMount) (less : Bool) → w.next_space < (with_copies w sources less).next_space
unfolding with_copies
copies_higher w sources less = omega arith

acted_given : (family : ℕ → Bool) (w : WorldView) (c : Command) (u : WorldView) (r : Reply) → is_taken_from family c ≡ true → act w c ≡ Ok (u, r) → w.next_space < u.next_space
unfolding act
acted_given family w (CopySpace k less) u r taken a =
    let q = number_ok _ u r a in
    subst (λ (x : WorldView). w.next_space < x.next_space) (copy_space_accepted w k (is_less less) u q.0 q.1).world (copies_higher w _ (is_less less))
acted_given family w (OpenTree k path recursive) u r taken a =
    let q = number_ok _ u r a in
    subst (λ (x : WorldView). w.next_space < x.next_space) (opened_accepted w k path recursive u q.0 q.1).world (copies_higher w _ false)
acted_given family w c u r taken a = absurd (cc)

next_given : (family : ℕ → Bool) (w : WorldView) (c : Command) (v : WorldView) (r : Reply) → is_taken_from family c ≡ true → step w c ≡ Ok (v, r) → w.next_space < v.next_space
next_given family w c v r taken e = by_act w c v r (λ x. w.next_space < x.next_space) e (λ u a. acted_given family w c u r taken a) (λ u l s. s)

-- what joins was given out
step_given : (family : ℕ → Bool) (w : WorldView) (c : Command) (v : WorldView) (r : Reply) → AreGivenOut family w → step w c ≡ Ok (v, r) → AreGivenOut (enlarged family w c) v
step_given family w c v r given e k is = by (is_taken_from family c) refl
  where
    rises : w.next_space ≤ v.next_space
    rises = (step_rises w c v r e).spaces

    old : family k ≡ true → k < v.next_space
    old there = let low = given k there in omega (arith, low, rises)

    new : is_taken_from family c ≡ true → (x : Bool) → is_answer k (step w c) ≡ x → k < v.next_space
    new taken true a = let same = next_joins family w c k taken a in let more = next_given family w c v r taken e in omega (arith, same, more)
    new taken false a = old (sym (none_joins (family k) (is_taken_from family c) (is_answer k (step w c)) (inr a)) ∙ is)

    by : (b : Bool) → is_taken_from family c ≡ b → k < v.next_space
    by true taken = new taken (is_answer k (step w c)) refl
    by false off = old (sym (none_joins (family k) (is_taken_from family c) (is_answer k (step w c)) (inl off)) ∙ is)

step_stands : (family : ℕ → Bool) (w : WorldView) (c : Command) (v : WorldView) (r : Reply) → Stands family w → StaysOnItsSide family w c → step w c ≡ Ok (v, r) → Stands (enlarged family w c) v
step_stands family w c v r s side e = record {
  good = step_good w c v r s.good e;
  given = step_given family w c v r s.given e;
  contained = step_contained family w c v r s.good.formed s.contained s.given side e;
}

next_stands : (family : ℕ → Bool) (w : WorldView) (c : Command) → Stands family w → ((v : WorldView) (r : Reply) → step w c ≡ Ok (v, r) → StaysOnItsSide family w c) → Stands (enlarged family w c) (next_world w c)
next_stands family w c s side = by (step w c) refl
  where
    by : (q : Result (WorldView × Reply) Fault) → step w c ≡ q → Stands (enlarged family w c) (world_or w q)
    by (Ok p) e = step_stands family w c p.0 p.1 s (side p.0 p.1 e) e
    by (Err f) e =
        let same : (k : ℕ) → enlarged family w c k ≡ family k = λ k. none_joins (family k) (is_taken_from family c) (is_answer k (step w c)) (inr (ap (is_answer k) e)) in
        record {
          good = s.good;
          given = λ k is. s.given k (sym (same k) ∙ is);
          contained = alike_contained family (enlarged family w c) w (λ i. sym (same (space_of w i))) s.contained;
        }

all_stand : (family : ℕ → Bool) (w : WorldView) (done : List Command) → Stands family w → IsNotCrossed family w done → Stands (family_after family w done) (after_from w done)
all_stand family w [] s side = s
all_stand family w (c ∷ later) s side = all_stand (enlarged family w c) (next_world w c) later (next_stands family w c s side.0) side.1

stands_inside : (family : ℕ → Bool) (w : WorldView) (c : Command) → Stands family w → is_issued_in family c ≡ true → (k : ℕ) → enlarged family w c k ≡ false → table_of (next_world w c) k ≡ table_of w k
stands_inside family w c s is k off = next_by (λ v. table_of v k ≡ table_of w k) w c refl (λ v r e. step_inside family w c v r s.good.formed s.good.skeleton s.contained s.given is e k off)

-- a less privileged copy, as it is made
new_given : (w : WorldView) (k : ℕ) → w.next_space < (with_copy w k true).next_space
unfolding with_copies
new_given w k = omega arith

acted_less : (w : WorldView) (m n : ℕ) (u : WorldView) (privilege : Privilege) → is_less privilege ≡ true → IsWellFormed w → act w (CopySpace m privilege) ≡ Ok (u, Number n) → (n < u.next_space) × IsContained (only n) u
unfolding act
acted_less w m n u privilege is h e =
    let q = number_ok _ u (Number n) e in
    let number : q.0 ≡ n = (let same = q.2 in cc) in
    let done : copy_space w m true ≡ Ok (u, n) = ap (copy_space w m) (sym is) ∙ q.1 ∙ ap (λ i. Ok (u, i)) number in
    let made = copy_space_accepted w m true u n done in
    (subst (λ x. n < x.next_space) made.world (subst (λ k. k < (with_copy w m true).next_space) made.number (new_given w m)), less_copied w m u n h done)

less_stands : (w : WorldView) (m n : ℕ) (v : WorldView) (less : Privilege) → is_less less ≡ true → IsGood w → step w (CopySpace m less) ≡ Ok (v, Number n) → Stands (only n) v
less_stands w m n v less is g e =
    let a = step_accepted w (CopySpace m less) v (Number n) e in
    let x = acted_less w m n a.done less is g.formed a.acted in
    let low : n < v.next_space = subst (λ y. n < y.next_space) (sym a.world) x.0 in
    record {
      good = step_good w (CopySpace m less) v (Number n) g e;
      given = λ k here. let same = eqb-true k n here in omega (arith, low, same);
      contained = subst (IsContained (only n)) (sym a.world) (record { groups = x.1.groups; chains = x.1.chains });
    }

-- what is done in the family of a less privileged copy leaves the tables of all namespaces outside, as long as nothing was accepted that
-- brings a group or a master over its border
pub less_inside : (w : WorldView) (m n : ℕ) (v : WorldView) (less : Privilege) → is_less less ≡ true → IsWellFormed w → IsSkeleton w.skel → step w (CopySpace m less) ≡ Ok (v, Number n) → (done : List Command) → IsNotCrossed (only n) v done
    → (c : Command) → is_issued_in (family_after (only n) v done) c ≡ true → (k : ℕ) → enlarged (family_after (only n) v done) (after_from v done) c k ≡ false
    → table_of (next_world (after_from v done) c) k ≡ table_of (after_from v done) k
less_inside w m n v less less_is h s e done side c is k off =
    stands_inside (family_after (only n) v done) (after_from v done) c (all_stand (only n) v done (less_stands w m n v less less_is (record { formed = h; skeleton = s }) e) side) is k off

-- a table that stays leaves its number
pub number_stays : (k : ℕ) (cs : List Command) (c : Command) → table_of (after (cs ++ c ∷ [])) k ≡ table_of (after cs) k → space_number k (cs ++ c ∷ []) ≡ space_number k cs
number_stays k cs c same =
    let next : table_of (next_world (after cs) c) k ≡ table_of (after cs) k = ap (λ w. table_of w k) (sym (after-append cs (c ∷ []))) ∙ same in
    let none = no_post (after cs) (next_world (after cs) c) k (after_good cs).formed next (space_number k cs + 1) in
    ap length (events-append k cs (c ∷ []))
    ∙ ap (λ o. length (events k cs ++ (option_to_list o ++ []))) none ∙ ap length (append-nil (events k cs))

-- the world after a copy and what came later
after_copy : (before : List Command) (m n : ℕ) (v : WorldView) (less : Privilege) → step (after before) (CopySpace m less) ≡ Ok (v, Number n) → (done : List Command) → after (before ++ CopySpace m less ∷ done) ≡ after_from v done
after_copy before m n v less e done = after-append before (CopySpace m less ∷ done) ∙ ap (λ (q : Result (WorldView × Reply) Fault). after_from (world_or (after before) q) done) e

-- the same from the empty world on
pub book_inside : (before : List Command) (m n : ℕ) (v : WorldView) (less : Privilege) → is_less less ≡ true → step (after before) (CopySpace m less) ≡ Ok (v, Number n) → (done : List Command) → IsNotCrossed (only n) v done
    → (c : Command) → is_issued_in (family_after (only n) v done) c ≡ true → (k : ℕ) → enlarged (family_after (only n) v done) (after_from v done) c k ≡ false
    → (table_of (after ((before ++ CopySpace m less ∷ done) ++ c ∷ [])) k ≡ table_of (after (before ++ CopySpace m less ∷ done)) k)
    × (space_number k ((before ++ CopySpace m less ∷ done) ++ c ∷ []) ≡ space_number k (before ++ CopySpace m less ∷ done))
book_inside before m n v less less_is e done side c is k off =
    let cs = before ++ CopySpace m less ∷ done in
    let good = after_good before in
    let here = after_copy before m n v less e done in
    let next : after (cs ++ c ∷ []) ≡ next_world (after_from v done) c = after-append cs (c ∷ []) ∙ ap (λ (x : WorldView). next_world x c) here in
    let table : table_of (after (cs ++ c ∷ [])) k ≡ table_of (after cs) k =
    ap (λ (x : WorldView). table_of x k) next ∙ less_inside (after before) m n v less less_is good.formed good.skeleton e done side c is k off
    ∙ sym (ap (λ (x : WorldView). table_of x k) here) in
    (table, number_stays k cs c table)

-- ---- a command of a book

-- a namespace that was answered was made
made_is : (cs : List Command) (c : Command) (n : ℕ) → answer cs c ≡ Ok (Number n) → (v : WorldView) × (step (after cs) c ≡ Ok (v, Number n))
unfolding answer
made_is cs c n e = by (nat_le command_limit (length cs)) (step (after cs) c) refl e
  where
    by : (full : Bool) (q : Result (WorldView × Reply) Fault) → step (after cs) c ≡ q → (if full then Err JournalFull else reply_of q) ≡ Ok (Number n)
        → (v : WorldView) × (step (after cs) c ≡ Ok (v, Number n))
    by true q is e = absurd (cc)
    by false (Ok p) is e = let reply : p.1 ≡ Number n = cc in (p.0, is ∙ ap (λ (r : Reply). Ok (p.0, r)) reply)
    by false (Err f) is e = absurd (cc)

pub stays_inside : (cs : List Command) (c : Command) → StaysInCopy cs c (cs ++ c ∷ [])
stays_inside cs c n h is k off =
    let made = made_is h.before (CopySpace h.copied h.privilege) n h.made in
    let all = h.before ++ CopySpace h.copied h.privilege ∷ h.later in
    let Same : List Command → Type 0 = λ l. (table_of (after (l ++ c ∷ [])) k ≡ table_of (after l) k) × (space_number k (l ++ c ∷ []) ≡ space_number k l) in
    let Holds : WorldView → Type 0 = λ u. IsNotCrossed (only n) u h.later → is_issued_in (family_after (only n) u h.later) c ≡ true → enlarged (family_after (only n) u h.later) (after all) c k ≡ false → Same all in
    let here = after_copy h.before h.copied n made.0 h.privilege made.1 h.later in
    let there : Holds made.0 = λ side issued out.
    book_inside h.before h.copied n made.0 h.privilege h.less made.1 h.later side c issued k (subst (λ u. enlarged (family_after (only n) made.0 h.later) u c k ≡ false) here out) in
    let holds : Holds (next_world (after h.before) (CopySpace h.copied h.privilege)) = subst Holds (sym (ap (world_or (after h.before)) made.1)) there in
    subst Same (sym h.commands) (holds h.not_crossed is (subst (λ l. enlarged (family_of n cs h) (after l) c k ≡ false) h.commands off))

pub all_inside : (cs : List Command) → AllStayInCopies cs
all_inside cs before c later is = stays_inside before c

-- one that a book has done
pub done_inside : (cs now : List Command) (c : Command) → now ≡ cs ++ c ∷ [] → StaysInCopy cs c now
done_inside cs now c done = subst (StaysInCopy cs c) (sym done) (stays_inside cs c)
