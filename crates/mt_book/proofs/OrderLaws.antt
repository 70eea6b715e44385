-- What is locked stays in order through each command, and is in order after any commands.
use Rattle.std.proofs.Common.{◌≡◌, ℕ, Bool, true, false, List, [], ◌∷◌, map, Result, Ok, refl, sym, ap, ◌∙◌, subst, inl, inr}
use Rattle.std.proofs.lemmas.Bool.{true≢false}
use Rattle.mt_skel.specs.declared.fault.Fault.{Fault}
use Rattle.mt_skel.specs.Keyed.{rises}
use Rattle.mt_skel.proofs.OutcomeLaws.{accepted}
use Rattle.mt_skel.proofs.KeyedLaws.{rises-filter}
use Rattle.mt_skel.proofs.ElementLaws.{In, in_map}
use Rattle.mt_mounts.specs.declared.mount.Mount.{Mount as AnyMount}
use Rattle.mt_mounts.specs.declared.mount.Place.{Place}
use Rattle.mt_mounts.specs.Forest.{id_of, in_space, is_below}
use Rattle.mt_mounts.specs.Walk.{walk}
use Rattle.mt_locks.specs.Locks.{LocksView}
use Rattle.mt_propagate.specs.World.{WorldView, empty_world, with_tree}
use Rattle.mt_propagate.specs.WellFormed.{IsWellFormed}
use Rattle.mt_propagate.specs.Copies.{Source}
use Rattle.mt_propagate.specs.Copied.{copied}
use Rattle.mt_propagate.proofs.EmptyLaws.{empty-kept}
use Rattle.mt_setattr.specs.declared.change.SetWords.{SetWords}
use Rattle.mt_setattr.specs.Words.{nothing_set, new_with}
use Rattle.mt_bind.specs.Copying.{copy_of}
use Rattle.mt_bind.specs.Spaces.{originals, with_space, with_copy, copy_space, without_space}
use Rattle.mt_bind.specs.Sources.{fresh_with, source_at, tree_of}
use Rattle.mt_bind.specs.Mounting.{mounted_with, bound, moved}
use Rattle.mt_bind.specs.Opening.{unplaced_top, opened_sources, with_opened, tree_opened}
use Rattle.mt_bind.specs.Attaching.{whole_tree, attached}
use Rattle.mt_bind.proofs.AcceptedLaws.{path_end, fs_of, new_space_accepted, copy_space_accepted, drop_space_accepted, mount_with_accepted, bind_accepted, move_accepted, tree_made_accepted, opened_accepted, attached_accepted}
use Rattle.mt_bind.proofs.MountLaws.{bound_source}
use Rattle.mt_bind.proofs.OpenedSourceLaws.{opened-sources}
use Rattle.mt_guard.specs.Refusals.{move_guard, bind_guard, open_guard}
use Rattle.mt_guard.specs.Coming.{come_locked, locks_of_copy, original_locks}
use Rattle.mt_guard.specs.Changing.{keeping, next_locks, mount_locking, bind_locking, move_locking, attach_locking, open_locking, copy_locking}
use Rattle.mt_guard.specs.Judging.{mount_judged, bind_judged, move_judged, attach_judged, open_judged, copy_judged}
use Rattle.mt_guard.proofs.FitLaws.{FitsMount, IsSet, original_fits, opened_fits}
use Rattle.mt_guard.proofs.FollowLaws.{picked_of, bound_of, copies_follow, copied_follow}
use Rattle.mt_book.specs.declared.command.Command.{Command}
use Rattle.mt_book.specs.declared.command.Command.TheVariants.{Room, MakeFs, MakeDir, NewSpace, CopySpace, DropSpace, Mount, MountWith, Bind, Move, Pivot, Unmount, Detach, SetAttr, OpenTree, NewTree, MoveTree}
use Rattle.mt_book.specs.declared.command.Reply.{Reply}
use Rattle.mt_book.specs.Step.{is_less, locks, act, judged, next_world, after_from, after}
use Rattle.mt_book.specs.Locking.{AreLocks, StepKeepsLocks, LocksAreInOrder}
use Rattle.mt_book.proofs.SkelLaws.{none_there}
use Rattle.mt_book.proofs.EffectLaws.{skel_ok, number_ok, done_ok, step_accepted, next_by}
use Rattle.mt_book.proofs.HistoryLaws.{IsGood, next_good}
use Rattle.mt_book.proofs.LockRowLaws.{of_set, of_placed, fresh_set, follows_order}
use Rattle.mt_book.proofs.LockKeepLaws.{Orders, same_keep, kept, space_keep, end_keep, unmount_order, detach_order, pivot_order, change_order}

module _ (w : WorldView) (h : IsWellFormed w) (o : AreLocks w) where
  -- ---- where copies of a source tree come

  -- they keep what is locked in order, if of the source's mounts only what is set is locked
  copied_order : (n : ℕ) (src : Source) (p : Place) (l : LocksView) → next_locks w (record keeping { came = come_locked w n src p }) ≡ l → rises id_of src.mounts ≡ true → ((m : AnyMount) → In m src.mounts → IsSet w m)
      → Orders l (copied w src p)
  copied_order n src p l e order set = follows_order w h o (copied w src p) (record keeping { came = come_locked w n src p }) l e (copied_follow w h src p n order set)

  -- a mount: a fresh source, of which nothing is locked
  mount_order : (n : ℕ) (fs : List ℕ) (path : List (List ℕ)) (set : SetWords) (u : WorldView) (made : ℕ) (l : LocksView) → mount_judged w n path set ≡ Ok l → mounted_with w n fs path set ≡ Ok (u, made) → Orders l u
  mount_order n fs path set u made l j e =
      let b = mount_with_accepted w n fs path set u made e in
      let to = walk w.skel w.forest n path in
      let p = path_end w n path in
      let src = fresh_with w (fs_of w fs) (new_with set) in
      let given = accepted [] (next_locks w (mount_locking w n set to)) l j in
      let led : next_locks w (record keeping { came = come_locked w n src p }) ≡ next_locks w (mount_locking w n set to) = ap (λ (at : Result Place Fault). next_locks w (mount_locking w n set at)) (sym b.ended) in
      subst (Orders l) b.world (copied_order n src p l (led ∙ given.0) refl (λ m f. elim f [
        | inl here ↦ subst (IsSet w) here (fresh_set w h o src.top.root (new_with set))
        | inr none ↦ absurd none
      ]))

  -- a bind
  bind_order : (n : ℕ) (recursive : Bool) (from to : List (List ℕ)) (u : WorldView) (made : ℕ) (l : LocksView) → bind_judged w n recursive from to ≡ Ok l → bound w n recursive from to ≡ Ok (u, made) → Orders l u
  bind_order n recursive from to u made l j e =
      let b = bind_accepted w n recursive from to u made e in
      let s = path_end w n from in
      let p = path_end w n to in
      let src = source_at w recursive s in
      let first = walk w.skel w.forest n from in
      let last = walk w.skel w.forest n to in
      let given = accepted (bind_guard w recursive first last) (next_locks w (bind_locking w n recursive first last)) l j in
      let led : next_locks w (record keeping { came = come_locked w n src p }) ≡ next_locks w (bind_locking w n recursive first last) =
      λ i. next_locks w (bind_locking w n recursive (sym b.begun i) (sym b.ended i)) in
      subst (Orders l) b.world (copied_order n src p l (led ∙ given.0) (bound_source w n from recursive s p h b.begun).tree.rising (λ m f. of_set w h o m (bound_of w h recursive s m f)))

  -- a move: copies come to the targets of the place
  move_order : (n : ℕ) (from to : List (List ℕ)) (u : WorldView) (l : LocksView) → move_judged w n from to ≡ Ok l → moved w n from to ≡ Ok u → Orders l u
  move_order n from to u l j e =
      let b = move_accepted w n from to u e in
      let s = path_end w n from in
      let p = path_end w n to in
      let src = tree_of w s.mount in
      let first = walk w.skel w.forest n from in
      let last = walk w.skel w.forest n to in
      let given = accepted (move_guard w n first last) (next_locks w (move_locking w n first last)) l j in
      let led : next_locks w (record keeping { came = come_locked w n src p }) ≡ next_locks w (move_locking w n first last) =
      λ i. next_locks w (move_locking w n (sym b.begun i) (sym b.ended i)) in
      let below : AnyMount → Bool = λ m. is_below w.forest s.mount m.id in
      subst (Orders l) b.world (copied_order n src p l (led ∙ given.0) (rises-filter id_of below w.forest h.forest.rising) (λ m f. of_set w h o m (picked_of w h below m f)))

  -- an attaching: so they do of a whole tree
  attach_order : (tree n : ℕ) (path : List (List ℕ)) (u : WorldView) (l : LocksView) → attach_judged w tree n path ≡ Ok l → attached w tree n path ≡ Ok u → Orders l u
  attach_order tree n path u l j e =
      let b = attached_accepted w tree n path u e in
      let to = walk w.skel w.forest n path in
      let p = path_end w n path in
      let src = whole_tree w tree in
      let given = accepted [] (next_locks w (attach_locking w tree n to)) l j in
      let led : next_locks w (record keeping { came = come_locked w n src p }) ≡ next_locks w (attach_locking w tree n to) = ap (λ (at : Result Place Fault). next_locks w (attach_locking w tree n at)) (sym b.ended) in
      subst (Orders l) b.world (copied_order n src p l (led ∙ given.0) (rises-filter id_of (in_space tree) w.forest h.forest.rising) (λ m f. of_set w h o m (picked_of w h (in_space tree) m f)))

  -- ---- where a namespace comes that is a copy, or a tree that is opened

  -- a copy of a mount of a namespace has locks that fit it
  copy_fits_in : (n : ℕ) (all : Bool) (m : AnyMount) → In m (originals w n) → FitsMount (original_locks w all m) (copy_of w (map id_of (originals w n)) m)
  copy_fits_in n all m f = let is = picked_of w h (in_space n) m f in original_fits w all (map id_of (originals w n)) m (of_set w h o m is) (of_placed w h o m is)

  -- a copy of a namespace
  copy_order : (n : ℕ) (all less : Bool) (u : WorldView) (made : ℕ) (l : LocksView) → copy_judged w n all ≡ Ok l → copy_space w n less ≡ Ok (u, made) → Orders l u
  copy_order n all less u made l j e =
      let b = copy_space_accepted w n less u made e in
      let x = copy_locking w n all in
      let given = accepted [] (next_locks w x) l j in
      let rising = rises-filter id_of (in_space n) w.forest h.forest.rising in
      subst (Orders l) b.world (follows_order w h o (with_copy w n less) x l given.0 (copies_follow w h (originals w n) less (original_locks w all) x.owner rising (copy_fits_in n all)))

  -- so has a copy in a tree that is opened
  open_fits_in : (recursive : Bool) (p : Place) (v : AnyMount) → In v (opened_sources w recursive p) → FitsMount (locks_of_copy w false p.mount v) (copy_of w (map id_of (opened_sources w recursive p)) v)
  open_fits_in recursive p v f =
      let ids : List ℕ = map id_of (opened_sources w recursive p) in
      let m = in_map (unplaced_top p.mount) v (source_at w recursive p).mounts f in
      let is = bound_of w h recursive p m.0 m.1 in
      subst (λ (x : AnyMount). FitsMount (locks_of_copy w false p.mount x) (copy_of w ids x)) m.2 (opened_fits w p.mount ids m.0 (of_set w h o m.0 is) (of_placed w h o m.0 is))

  -- a tree that is opened
  open_order : (n : ℕ) (path : List (List ℕ)) (recursive : Bool) (u : WorldView) (made : ℕ) (l : LocksView) → open_judged w n path recursive ≡ Ok l → tree_opened w n path recursive ≡ Ok (u, made) → Orders l u
  open_order n path recursive u made l j e =
      let b = opened_accepted w n path recursive u made e in
      let at = walk w.skel w.forest n path in
      let p = path_end w n path in
      let ms = opened_sources w recursive p in
      let x = open_locking w n recursive (Ok p) in
      let given = accepted (open_guard w recursive at) (next_locks w (open_locking w n recursive at)) l j in
      let led : next_locks w x ≡ next_locks w (open_locking w n recursive at) = ap (λ (at : Result Place Fault). next_locks w (open_locking w n recursive at)) (sym b.ended) in
      let rising = (opened-sources w n path recursive p h b.ended).rising in
      subst (Orders l) b.world (follows_order w h o (with_opened w ms) x l (led ∙ given.0) (copies_follow w h ms false (locks_of_copy w false p.mount) x.owner rising (open_fits_in recursive p)))

  -- ---- each command

  act_order : (c : Command) (u : WorldView) (r : Reply) (l : LocksView) → judged w c ≡ Ok l → act w c ≡ Ok (u, r) → Orders l u
  unfolding act
  act_order (Room k) u r l j e = let q = skel_ok w _ _ u r e in subst (Orders l) (sym q.2) (kept w h o (record w { skel = q.0 }) l (accepted [] (next_locks w keeping) l j).0 (same_keep w h o))
  act_order (MakeFs name kind source) u r l j e = let q = skel_ok w _ _ u r e in subst (Orders l) (sym q.2) (kept w h o (record w { skel = q.0 }) l (accepted [] (next_locks w keeping) l j).0 (same_keep w h o))
  act_order (MakeDir fs path) u r l j e = let q = skel_ok w _ _ u r e in subst (Orders l) (sym q.2) (kept w h o (record w { skel = q.0 }) l (accepted [] (next_locks w keeping) l j).0 (same_keep w h o))
  act_order (NewSpace fs) u r l j e =
      let q = number_ok _ u r e in
      subst (Orders l) (new_space_accepted w fs u q.0 q.1).world (kept w h o (with_space w (fs_of w fs)) l (accepted [] (next_locks w keeping) l j).0 (space_keep w h o (fs_of w fs)))
  act_order (CopySpace n privilege) u r l j e = let q = number_ok _ u r e in copy_order n (locks privilege) (is_less privilege) u q.0 l j q.1
  act_order (DropSpace n) u r l j e = subst (Orders l) (drop_space_accepted w n u (done_ok _ u r e)).world (kept w h o (without_space w n) l (accepted [] (next_locks w keeping) l j).0 (end_keep w h o n))
  act_order (Mount n fs path) u r l j e = let q = number_ok _ u r e in mount_order n fs path nothing_set u q.0 l j q.1
  act_order (MountWith n fs path set) u r l j e = let q = number_ok _ u r e in mount_order n fs path set u q.0 l j q.1
  act_order (Bind n src dst recursive) u r l j e = let q = number_ok _ u r e in bind_order n recursive src dst u q.0 l j q.1
  act_order (Move n src dst) u r l j e = move_order n src dst u l j (done_ok _ u r e)
  act_order (Pivot n new old) u r l j e = pivot_order w h o n new old u l j (done_ok _ u r e)
  act_order (Unmount n path) u r l j e = unmount_order w h o n path u l j (done_ok _ u r e)
  act_order (Detach n path) u r l j e = detach_order w h o n path u l j (done_ok _ u r e)
  act_order (SetAttr n path change) u r l j e = change_order w h o n path change u l j (done_ok _ u r e)
  act_order (OpenTree n path recursive) u r l j e = let q = number_ok _ u r e in open_order n path recursive u q.0 l j q.1
  act_order (NewTree fs) u r l j e =
      let q = number_ok _ u r e in
      subst (Orders l) (tree_made_accepted w fs u q.0 q.1).world (kept w h o (with_tree (with_space w (fs_of w fs)) w.next_space) l (accepted [] (next_locks w keeping) l j).0 (space_keep w h o (fs_of w fs)))
  act_order (MoveTree tree n path) u r l j e = attach_order tree n path u l j (done_ok _ u r e)

-- an accepted command keeps what is locked in order
pub step_orders : StepKeepsLocks
step_orders w c v r h o e = let s = step_accepted w c v r e in subst AreLocks (sym s.world) (act_order w h o c s.done r s.locks s.judged s.acted)

-- so it is in order after all commands, since nothing is locked in the empty world
none_order : AreLocks empty_world
none_order = record {
  rising = refl;
  there = λ i e. absurd (true≢false (sym e));
  placed = λ i e none. true≢false (sym e);
  set = λ i. refl;
}

from_order : (w : WorldView) (cs : List Command) → IsGood w → AreLocks w → AreLocks (after_from w cs)
from_order w [] h o = o
from_order w (c ∷ cs) h o = from_order (next_world w c) cs (next_good w c h) (next_by AreLocks w c o (λ v r e. step_orders w c v r h.formed o e))

pub locks_in_order : LocksAreInOrder
unfolding after
locks_in_order cs = from_order empty_world cs (record { formed = empty-kept; skeleton = none_there }) none_order
