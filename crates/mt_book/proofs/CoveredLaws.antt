-- What is covered stays covered: what each accepted command makes of a mount that is locked on its place.
use Rattle.std.proofs.Common.{◌≡◌, ℕ, Bool, true, false, not, ◌&&◌, ◌==◌, eqb, List, [], Option, None, Result, Ok, Err, refl, sym, ap, subst, ◌∙◌, inl, inr, arith}
use Rattle.std.specs.Prelude.{unwrap_or}
use Rattle.std.specs.List.{AllByRecursion}
use Rattle.std.proofs.lemmas.Bool.{true≢false, and_parts, or_from, eqb-true, ne_eqb, false_from_ne_true, true_from_ne_false}
use Rattle.mt_skel.specs.declared.fault.Fault.{Fault}
use Rattle.mt_skel.specs.declared.fault.Fault.TheVariants.{Locked}
use Rattle.mt_skel.specs.Keyed.{among}
use Rattle.mt_skel.specs.Outcome.{outcome}
use Rattle.mt_skel.proofs.KeyedLaws.{row_at-key}
use Rattle.mt_skel.proofs.OutcomeLaws.{accepted, not_refused}
use Rattle.mt_mounts.specs.declared.mount.Mount.{Mount as AnyMount}
use Rattle.mt_mounts.specs.declared.mount.Place.{Place}
use Rattle.mt_mounts.specs.Forest.{id_of}
use Rattle.mt_mounts.specs.Walk.{walk}
use Rattle.mt_locks.specs.Locks.{LocksView, is_locked}
use Rattle.mt_propagate.specs.World.{WorldView}
use Rattle.mt_propagate.specs.WellFormed.{IsWellFormed}
use Rattle.mt_propagate.specs.Named.{unknown, place_or_nowhere, mount_or_unknown}
use Rattle.mt_propagate.specs.Copies.{Source}
use Rattle.mt_propagate.proofs.WalkLaws.{walked}
use Rattle.mt_propagate.proofs.DetachedTreeLaws.{no_place}
use Rattle.mt_bind.specs.Spaces.{originals}
use Rattle.mt_bind.specs.Sources.{fresh_with, source_at, tree_of}
use Rattle.mt_bind.specs.Opening.{opened_sources}
use Rattle.mt_bind.specs.Attaching.{whole_tree, attached}
use Rattle.mt_bind.specs.Pivoting.{root_id}
use Rattle.mt_bind.proofs.AcceptedLaws.{path_end, fs_of, IsAcceptedMount, new_space_accepted, copy_space_accepted, drop_space_accepted, mount_accepted, mount_with_accepted, bind_accepted, move_accepted, pivot_accepted, tree_made_accepted, opened_accepted, attached_accepted}
use Rattle.mt_bind.proofs.SourceLaws.{holds_there, fresh_is_source}
use Rattle.mt_bind.proofs.MountLaws.{destination, bound_source, moving_source}
use Rattle.mt_bind.proofs.AttachingLaws.{whole_moves, source, goes}
use Rattle.mt_bind.proofs.PivotingLaws.{may_pivot}
use Rattle.mt_unmount.specs.Unmounting.{is_removed, without_mount}
use Rattle.mt_unmount.specs.Detaching.{received, met_mounts, is_free, is_taken, without_tree, named_place}
use Rattle.mt_unmount.proofs.AcceptedLaws.{unmount_accepted, detach_accepted}
use Rattle.mt_unmount.proofs.StandingLaws.{place-at}
use Rattle.mt_unmount.proofs.RemovedLaws.{removed-received}
use Rattle.mt_unmount.proofs.GoingLaws.{taken-reveals}
use Rattle.mt_setattr.specs.declared.change.SetWords.{SetWords}
use Rattle.mt_setattr.specs.Words.{nothing_set, new_with}
use Rattle.mt_setattr.proofs.AcceptedLaws.{change_accepted}
use Rattle.mt_guard.specs.Refusals.{move_guard, unmount_guard, detach_guard, bind_guard, open_guard, change_guard}
use Rattle.mt_guard.specs.Coming.{where_led}
use Rattle.mt_guard.specs.Changing.{Locking, keeping, next_locks, with_locks, mount_locking, bind_locking, move_locking, attach_locking, unmount_locking, detach_locking, open_locking, copy_locking}
use Rattle.mt_book.specs.declared.command.Command.{Command}
use Rattle.mt_book.specs.declared.command.Command.TheVariants.{Room, MakeFs, MakeDir, NewSpace, CopySpace, DropSpace, Mount, MountWith, Bind, Move, Pivot, Unmount, Detach, SetAttr, OpenTree, NewTree, MoveTree}
use Rattle.mt_book.specs.declared.command.Reply.{Reply}
use Rattle.mt_book.specs.Step.{is_less, locks, act, judged}
use Rattle.mt_book.specs.Locking.{AreLocks}
use Rattle.mt_book.specs.Covered.{IsStillCovering, CoveredStaysCovered}
use Rattle.mt_book.proofs.EffectLaws.{IsAccepted, skel_ok, number_ok, done_ok, step_accepted}
use Rattle.mt_book.proofs.FateLaws.{IsStanding, locked_stands, Fate, still_covers, stays_same, space_fate, copies_fate, change_fate, pivot_fate, end_fate, copied_fate, gone_fate}

-- two mounts differ where one is locked on its place and the other is not
differ : (w : WorldView) (i j : ℕ) → is_locked w.locks i ≡ true → is_locked w.locks j ≡ false → j ≡ i → ⊥
differ w i j on free same = true≢false (sym on ∙ ap (is_locked w.locks) (sym same) ∙ free)

-- ---- what comes

-- a locked mount is not the top of a tree that moves, if that is not locked
not_top : (w : WorldView) (src : Source) (i : ℕ) (x : IsStanding w i) → is_locked w.locks i ≡ true → is_locked w.locks src.top.id ≡ false → (src.moved && (x.mount.id == src.top.id)) ≡ false
not_top w src i x on free = false_from_ne_true (src.moved && (x.mount.id == src.top.id)) (λ e.
    differ w i src.top.id on free (sym (eqb-true x.mount.id src.top.id (and_parts src.moved (x.mount.id == src.top.id) e).1) ∙ row_at-key id_of i w.forest x.mount x.there))

-- a mount of a filesystem comes to a place, and to its targets
mounted_fate : (w : WorldView) → IsWellFormed w → (n : ℕ) (fs : List ℕ) (path : List (List ℕ)) (set : SetWords) (u : WorldView) (j : ℕ) → IsAcceptedMount w n fs path set u j
    → (c : Command) (i : ℕ) → IsStanding w i → Fate w c [] u i
mounted_fate w h n fs path set u j a c i x =
    let p = path_end w n path in
    let r = (walked w n h path p a.ended).0 in
    let low = holds_there w.skel r.0.root p.dir r.3 in
    subst (λ (u : WorldView). Fate w c [] u i) a.world
    (copied_fate w h c i x (fresh_with w (fs_of w fs) (new_with set)) p (fresh_is_source w h (fs_of w fs) (new_with set) p (omega (arith, low))) (destination w n path p h a.ended a.off_root) refl)

-- what is bound does not move
bound_off : (w : WorldView) (recursive : Bool) (p : Place) (k : ℕ) → ((source_at w recursive p).moved && (k == (source_at w recursive p).top.id)) ≡ false
bound_off w true p k = refl
bound_off w false p k = refl

-- the top of a tree of mounts is the mount itself
own_top : (w : WorldView) → IsWellFormed w → (n : ℕ) (path : List (List ℕ)) → walk w.skel w.forest n path ≡ Ok (path_end w n path) → (mount_or_unknown w (path_end w n path).mount).id ≡ (path_end w n path).mount
own_top w h n path ended =
    let p = path_end w n path in
    let r = (walked w n h path p ended).0 in
    ap (λ (o : Option AnyMount). (unwrap_or o unknown).id) r.1 ∙ row_at-key id_of p.mount w.forest r.0 r.1

-- the root mount of a detached tree is not locked
tree_free : (w : WorldView) → IsWellFormed w → AreLocks w → (tree n : ℕ) (path : List (List ℕ)) (u : WorldView) → attached w tree n path ≡ Ok u → is_locked w.locks (whole_tree w tree).top.id ≡ false
tree_free w h k tree n path u e =
    let top = (whole_tree w tree).top in
    let s = source w tree n path u h e in
    let there = (s.moves refl).known top.id top s.tree.top_there in
    false_from_ne_true (is_locked w.locks top.id) (λ on. k.placed top.id on (place-at w top.id top there ∙ no_place top.place (whole_moves w tree)))

-- ---- what an unmount meets

-- a locked mount is met only if it is received
unmet : (w : WorldView) (i j : ℕ) → is_locked w.locks i ≡ true → is_locked w.locks j ≡ false → among (received w j) i ≡ false → among (met_mounts w j) i ≡ false
unmet w i j on free off = or_from (eqb j i) (among (received w j) i) (ne_eqb j i (differ w i j on free)) off

-- nor is one met where a path has led nowhere
led_unmet : (at : Result Place Fault) (met : Place → List ℕ) (i : ℕ) → among (met (place_or_nowhere at)) i ≡ false → among (where_led at met) i ≡ false
led_unmet (Ok p) met i off = off
led_unmet (Err f) met i off = refl

-- so it goes for itself only then
free_received : (w : WorldView) (i j : ℕ) → is_locked w.locks i ≡ true → is_locked w.locks j ≡ false → is_free w j i ≡ true → among (received w j) i ≡ true
free_received w i j on free e = true_from_ne_false (among (received w j) i) (λ off.
    true≢false (sym e ∙ or_from (among (met_mounts w j) i) (not (is_locked w.locks i)) (unmet w i j on free off) (ap not on)))

-- what an unmount takes is the mount that it names, which is not locked, or received
unmounted_fate : (w : WorldView) → IsWellFormed w → (n : ℕ) (path : List (List ℕ)) (i : ℕ) → IsStanding w i → is_locked w.locks i ≡ true → is_locked w.locks (path_end w n path).mount ≡ false
    → Fate w (Unmount n path) (unmount_locking w (walk w.skel w.forest n path)).met (without_mount w (path_end w n path).mount) i
unfolding without_mount
unmounted_fate w h n path i x on free =
    let j = (path_end w n path).mount in
    gone_fate w h (Unmount n path) i x (is_removed w j) (unmount_locking w (walk w.skel w.forest n path)).met
    (λ gone. elim (removed-received w j i gone) [ inl same ↦ absurd (differ w i j on free same) | inr is ↦ inl is ])
    (λ off. led_unmet (walk w.skel w.forest n path) (λ p. met_mounts w p.mount) i (unmet w i j on free off))

-- what a detach takes goes for itself, or with what it stands on
detached_fate : (w : WorldView) → IsWellFormed w → (n : ℕ) (path : List (List ℕ)) (i : ℕ) → IsStanding w i → is_locked w.locks i ≡ true → is_locked w.locks (named_place w n path).mount ≡ false
    → Fate w (Detach n path) (detach_locking w (walk w.skel w.forest n path)).met (without_tree w (named_place w n path).mount) i
unfolding without_tree
detached_fate w h n path i x on free =
    let j = (named_place w n path).mount in
    gone_fate w h (Detach n path) i x (is_taken w j) (detach_locking w (walk w.skel w.forest n path)).met
    (λ gone. elim (taken-reveals w h j i gone) [ inl is ↦ inl (free_received w i j on free is) | inr above ↦ inr above ])
    (λ off. led_unmet (walk w.skel w.forest n path) (λ _. met_mounts w j) i (unmet w i j on free off))

-- ---- each command

-- a locked mount still covers what it covered if so it is of what the command does to the mounts, once no refusal for a lock holds
done_covers : (w : WorldView) (c : Command) (v : WorldView) (r : Reply) (a : IsAccepted w c v r) (i : ℕ) → is_locked w.locks i ≡ true → (fs : List (Option Fault)) (x : Locking) → judged w c ≡ outcome fs (next_locks w x)
    → (AllByRecursion (λ (o : Option Fault). o ≡ None) fs → Fate w c x.met a.done i) → IsStillCovering w c v i
done_covers w c v r a i on fs x is fate =
    let j = accepted fs (next_locks w x) a.locks (sym is ∙ a.judged) in
    subst (λ (v : WorldView). IsStillCovering w c v i) (sym (a.world ∙ ap (λ (l : LocksView). with_locks l a.done) (sym j.0))) (still_covers w c x a.done i on (fate j.1))

-- so it does after each command that is accepted
covers : (w : WorldView) (c : Command) (v : WorldView) (r : Reply) → IsWellFormed w → AreLocks w → IsAccepted w c v r → (i : ℕ) → is_locked w.locks i ≡ true → IsStanding w i → IsStillCovering w c v i
unfolding act
covers w (Room n) v r h k a i on x =
    let q = skel_ok w _ _ a.done r a.acted in
    done_covers w (Room n) v r a i on [] keeping refl (λ _. stays_same w (Room n) i x a.done (ap (λ (y : WorldView). y.forest) q.2))
covers w (MakeFs name kind origin) v r h k a i on x =
    let q = skel_ok w _ _ a.done r a.acted in
    done_covers w (MakeFs name kind origin) v r a i on [] keeping refl (λ _. stays_same w (MakeFs name kind origin) i x a.done (ap (λ (y : WorldView). y.forest) q.2))
covers w (MakeDir fs path) v r h k a i on x =
    let q = skel_ok w _ _ a.done r a.acted in
    done_covers w (MakeDir fs path) v r a i on [] keeping refl (λ _. stays_same w (MakeDir fs path) i x a.done (ap (λ (y : WorldView). y.forest) q.2))
covers w (NewSpace fs) v r h k a i on x =
    let q = number_ok _ a.done r a.acted in
    let b = new_space_accepted w fs a.done q.0 q.1 in
    done_covers w (NewSpace fs) v r a i on [] keeping refl (λ _. space_fate w (NewSpace fs) i x (fs_of w fs) a.done (sym (ap (λ (y : WorldView). y.forest) b.world)))
covers w (CopySpace n privilege) v r h k a i on x =
    let q = number_ok _ a.done r a.acted in
    let b = copy_space_accepted w n (is_less privilege) a.done q.0 q.1 in
    done_covers w (CopySpace n privilege) v r a i on [] (copy_locking w n (locks privilege)) refl
    (λ _. copies_fate w (CopySpace n privilege) i x (originals w n) (is_less privilege) a.done (sym (ap (λ (y : WorldView). y.forest) b.world)))
covers w (DropSpace n) v r h k a i on x =
    let b = drop_space_accepted w n a.done (done_ok _ a.done r a.acted) in
    done_covers w (DropSpace n) v r a i on [] keeping refl (λ _. subst (λ (u : WorldView). Fate w (DropSpace n) [] u i) b.world (end_fate w h (DropSpace n) i x n))
covers w (Mount n fs path) v r h k a i on x =
    let q = number_ok _ a.done r a.acted in
    done_covers w (Mount n fs path) v r a i on [] (mount_locking w n nothing_set (walk w.skel w.forest n path)) refl
    (λ _. mounted_fate w h n fs path nothing_set a.done q.0 (mount_accepted w n fs path a.done q.0 q.1) (Mount n fs path) i x)
covers w (MountWith n fs path set) v r h k a i on x =
    let q = number_ok _ a.done r a.acted in
    done_covers w (MountWith n fs path set) v r a i on [] (mount_locking w n set (walk w.skel w.forest n path)) refl
    (λ _. mounted_fate w h n fs path set a.done q.0 (mount_with_accepted w n fs path set a.done q.0 q.1) (MountWith n fs path set) i x)
covers w (Bind n src dst recursive) v r h k a i on x =
    let q = number_ok _ a.done r a.acted in
    let b = bind_accepted w n recursive src dst a.done q.0 q.1 in
    let from = walk w.skel w.forest n src in
    let to = walk w.skel w.forest n dst in
    let s = path_end w n src in
    let p = path_end w n dst in
    done_covers w (Bind n src dst recursive) v r a i on (bind_guard w recursive from to) (bind_locking w n recursive from to) refl
    (λ _. subst (λ (u : WorldView). Fate w (Bind n src dst recursive) [] u i) b.world
    (copied_fate w h (Bind n src dst recursive) i x (source_at w recursive s) p (bound_source w n src recursive s p h b.begun) (destination w n dst p h b.ended b.off_root)
    (bound_off w recursive s x.mount.id)))
covers w (Move n src dst) v r h k a i on x =
    let b = move_accepted w n src dst a.done (done_ok _ a.done r a.acted) in
    let from = walk w.skel w.forest n src in
    let to = walk w.skel w.forest n dst in
    let s = path_end w n src in
    let p = path_end w n dst in
    done_covers w (Move n src dst) v r a i on (move_guard w n from to) (move_locking w n from to) refl
    (λ rs.
    let free = ap (is_locked w.locks) (own_top w h n src b.begun) ∙ not_refused (is_locked w.locks s.mount) Locked rs.1.1.1.1.1.1.0 in
    subst (λ (u : WorldView). Fate w (Move n src dst) [] u i) b.world
    (copied_fate w h (Move n src dst) i x (tree_of w s.mount) p (moving_source w n src dst s p h b.begun b.placed b.ended b.outside) (destination w n dst p h b.ended b.off_root) (not_top w (tree_of w s.mount) i x on free)))
covers w (Pivot n new old) v r h k a i on x =
    let b = pivot_accepted w n new old a.done (done_ok _ a.done r a.acted) in
    let from = walk w.skel w.forest n new in
    let to = walk w.skel w.forest n old in
    let s = path_end w n new in
    let p = path_end w n old in
    done_covers w (Pivot n new old) v r a i on (move_guard w n from to) keeping refl
    (λ rs. subst (λ (u : WorldView). Fate w (Pivot n new old) [] u i) b.world
    (pivot_fate w (Pivot n new old) i x h s.mount (root_id w n) p (may_pivot w n new old s p h b.begun b.placed b.ended b.off_root b.inside) on
    (not_refused (is_locked w.locks s.mount) Locked rs.1.1.1.1.1.1.0)))
covers w (Unmount n path) v r h k a i on x =
    let b = unmount_accepted w n path a.done (done_ok _ a.done r a.acted) in
    let at = walk w.skel w.forest n path in
    done_covers w (Unmount n path) v r a i on (unmount_guard w n at) (unmount_locking w at) refl
    (λ rs. subst (λ (u : WorldView). Fate w (Unmount n path) (unmount_locking w at).met u i) b.world (unmounted_fate w h n path i x on (not_refused (is_locked w.locks (path_end w n path).mount) Locked rs.1.1.1.1.0)))
covers w (Detach n path) v r h k a i on x =
    let b = detach_accepted w n path a.done (done_ok _ a.done r a.acted) in
    let at = walk w.skel w.forest n path in
    done_covers w (Detach n path) v r a i on (detach_guard w n at) (detach_locking w at) refl
    (λ rs. subst (λ (u : WorldView). Fate w (Detach n path) (detach_locking w at).met u i) b.world (detached_fate w h n path i x on (not_refused (is_locked w.locks (named_place w n path).mount) Locked rs.1.1.1.1.0)))
covers w (SetAttr n path change) v r h k a i on x =
    let b = change_accepted w n path change a.done (done_ok _ a.done r a.acted) in
    done_covers w (SetAttr n path change) v r a i on (change_guard w n change (walk w.skel w.forest n path)) keeping refl
    (λ _. subst (λ (u : WorldView). Fate w (SetAttr n path change) [] u i) b.world (change_fate w (SetAttr n path change) i x change (path_end w n path).mount))
covers w (OpenTree n path recursive) v r h k a i on x =
    let q = number_ok _ a.done r a.acted in
    let b = opened_accepted w n path recursive a.done q.0 q.1 in
    let at = walk w.skel w.forest n path in
    done_covers w (OpenTree n path recursive) v r a i on (open_guard w recursive at) (open_locking w n recursive at) refl
    (λ _. copies_fate w (OpenTree n path recursive) i x (opened_sources w recursive (path_end w n path)) false a.done (sym (ap (λ (y : WorldView). y.forest) b.world)))
covers w (NewTree fs) v r h k a i on x =
    let q = number_ok _ a.done r a.acted in
    let b = tree_made_accepted w fs a.done q.0 q.1 in
    done_covers w (NewTree fs) v r a i on [] keeping refl (λ _. space_fate w (NewTree fs) i x (fs_of w fs) a.done (sym (ap (λ (y : WorldView). y.forest) b.world)))
covers w (MoveTree tree n path) v r h k a i on x =
    let e = done_ok _ a.done r a.acted in
    let b = attached_accepted w tree n path a.done e in
    let p = path_end w n path in
    done_covers w (MoveTree tree n path) v r a i on [] (attach_locking w tree n (walk w.skel w.forest n path)) refl
    (λ _. subst (λ (u : WorldView). Fate w (MoveTree tree n path) [] u i) b.world
    (copied_fate w h (MoveTree tree n path) i x (whole_tree w tree) p (source w tree n path a.done h e) (goes w tree n path a.done h e) (not_top w (whole_tree w tree) i x on (tree_free w h k tree n path a.done e))))

-- what is covered stays covered
pub covered_stays : CoveredStaysCovered
covered_stays w c v r h k e i on = covers w c v r h k (step_accepted w c v r e) i on (locked_stands w k i on)
