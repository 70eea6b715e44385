-- What will be locked, once nothing has refused it: where walks have ended, and by the IDs of the mounts that are copied.
use Rattle.std.proofs.Common.{◌≡◌, ℕ, Bool, true, false, cond, not, ◌&&◌, List, [], ◌∷◌, map, Option, None, Result, Ok, Err, refl, sym, ap, ◌∙◌}
use Rattle.std.specs.Prelude.{IfOk}
use Rattle.std.specs.List.{list_any}
use Rattle.std.specs.Option.{option_map_or, unwrap_or}
use Rattle.mt_skel.specs.declared.fault.Fault.{Fault}
use Rattle.mt_skel.specs.declared.fault.Fault.TheVariants.{NotMountRoot, RootPlace, Unbindable, BadAttr, Detached, Locked, LockedInside, LockedAttr}
use Rattle.mt_skel.specs.Keyed.{among}
use Rattle.mt_skel.specs.Outcome.{refuse_if, refusal_of, outcome}
use Rattle.mt_skel.proofs.OutcomeLaws.{passed}
use Rattle.mt_skel.proofs.KeyedLaws.{row_at-key}
use Rattle.mt_mounts.specs.declared.mount.Mount.{Mount}
use Rattle.mt_mounts.specs.declared.mount.Place.{Place}
use Rattle.mt_mounts.specs.Forest.{id_of, parent, subtree, top}
use Rattle.mt_mounts.specs.Walk.{walk}
use Rattle.mt_locks.specs.declared.mount_locks.MountLocks.{MountLocks}
use Rattle.mt_locks.specs.Locks.{LocksView, owner_of, is_locked, locked_ids, changed_locks}
use Rattle.mt_propagate.specs.World.{WorldView, is_tree, state_of}
use Rattle.mt_propagate.specs.WellFormed.{IsWellFormed}
use Rattle.mt_propagate.specs.Named.{unknown, mount_or_unknown, place_or_nowhere, is_root_place, is_root_mount, is_mount_root}
use Rattle.mt_propagate.specs.Receivers.{targets}
use Rattle.mt_propagate.specs.Copies.{Source}
use Rattle.mt_propagate.specs.Plans.{copied_source}
use Rattle.mt_propagate.proofs.WalkLaws.{walked}
use Rattle.mt_setattr.specs.declared.change.Change.{Change}
use Rattle.mt_setattr.specs.Change.{clashes, changes_inside}
use Rattle.mt_bind.specs.Sources.{source_at, tree_of}
use Rattle.mt_bind.specs.Opening.{unplaced_top}
use Rattle.mt_bind.proofs.MemberLaws.{either_is, moved_tree}
use Rattle.mt_unmount.specs.Detaching.{met_mounts}
use Rattle.mt_guard.specs.Refusals.{copy_shows, bound_ids, uncovers, unlocks_some, locked_refusal, move_guard, bind_guard, open_guard, change_guard}
use Rattle.mt_guard.specs.Coming.{numbered_from, locks_of_copy, copies_locks, next_owner}
use Rattle.mt_guard.specs.Changing.{keeping, next_locks, move_locking, bind_locking, unmount_locking, detach_locking, open_locking}
use Rattle.mt_guard.specs.Judging.{unlocked_judged, unmount_judged, detach_judged, move_judged, pivot_judged, bind_judged, open_judged, change_judged, keep_judged}
use Rattle.mt_guard.proofs.ComingLaws.{members_locked, unplaced_locked, come_listed}

-- the mount at a place may go
pub unlocked_done : (w : WorldView) (p : Place) → is_mount_root w p ≡ true → is_root_mount w p ≡ false → is_locked w.locks p.mount ≡ false → unlocked_judged w p ≡ Ok (changed_locks (met_mounts w p.mount) [] None w.locks)
unlocked_done w p named off unlocked = passed (not (is_mount_root w p)) NotMountRoot _ _ (ap not named) ∙ passed (is_root_mount w p) RootPlace _ _ off ∙ passed (is_locked w.locks p.mount) Locked [] _ unlocked

module _ (w : WorldView) (n : ℕ) where
  -- the mount at the end of a path may go
  pub unmount_at : (path : List (List ℕ)) (p : Place) → is_tree w n ≡ false → walk w.skel w.forest n path ≡ Ok p → unmount_judged w n path ≡ unlocked_judged w p
  unmount_at path p attached ended =
      passed (is_tree w n) Detached _ _ attached
      ∙ ap (λ (at : Result Place Fault). let q = place_or_nowhere at in
      outcome (refusal_of at ∷ refuse_if (not (is_mount_root w q)) NotMountRoot ∷ refuse_if (is_root_mount w q) RootPlace ∷ locked_refusal w q) (next_locks w (unmount_locking w at))) ended

  pub detach_at : (path : List (List ℕ)) (p : Place) → is_tree w n ≡ false → walk w.skel w.forest n path ≡ Ok p → detach_judged w n path ≡ unlocked_judged w (top w.forest p)
  detach_at path p attached ended =
      passed (is_tree w n) Detached _ _ attached
      ∙ ap (λ (at : Result Place Fault). let q = top w.forest (place_or_nowhere at) in
      outcome (refusal_of at ∷ refuse_if (not (is_mount_root w q)) NotMountRoot ∷ refuse_if (is_root_mount w q) RootPlace ∷ locked_refusal w q) (next_locks w (detach_locking w at))) ended

  -- the mount at the end of a walk has its ID
  there : IsWellFormed w → (path : List (List ℕ)) (p : Place) → walk w.skel w.forest n path ≡ Ok p → (mount_or_unknown w p.mount).id ≡ p.mount
  there h path p ended =
      let r = (walked w n h path p ended).0 in
      ap (λ (o : Option Mount). (unwrap_or o unknown).id) r.1 ∙ row_at-key id_of p.mount w.forest r.0 r.1

  -- one mount is moved to a place, or becomes the root mount
  module _ (new old : List (List ℕ)) (s p : Place) (attached : is_tree w n ≡ false) (began : walk w.skel w.forest n new ≡ Ok s) (named : is_mount_root w s ≡ true) (off : is_root_mount w s ≡ false)
      (ended : walk w.skel w.forest n old ≡ Ok p) (free : is_root_place w p ≡ false) (unlocked : is_locked w.locks s.mount ≡ false) where
    goes : {A : Type 0} (x : A) → outcome (move_guard w n (Ok s) (Ok p)) x ≡ Ok x
    goes x =
        passed (is_tree w n) Detached _ _ attached
        ∙ passed (not (is_mount_root w s)) NotMountRoot _ _ (ap not named)
        ∙ passed (is_root_mount w s) RootPlace _ _ off
        ∙ passed (is_root_place w p) RootPlace _ _ free
        ∙ passed (is_locked w.locks s.mount) Locked [] _ unlocked

    pub pivot_done : pivot_judged w n new old ≡ keep_judged w
    pivot_done =
        ap (λ (at : Result Place Fault). outcome (move_guard w n at (walk w.skel w.forest n old)) (next_locks w keeping)) began
        ∙ ap (λ (at : Result Place Fault). outcome (move_guard w n (Ok s) at) (next_locks w keeping)) ended
        ∙ goes (next_locks w keeping)

    pub move_done : IsWellFormed w → (ids : List ℕ) → ids ≡ subtree w.forest s.mount
        → move_judged w n new old ≡ Ok (changed_locks [] (numbered_from w.next_mount (copies_locks w n s.mount (map (mount_or_unknown w) ids) (targets w p))) None w.locks)
    move_done h ids listed =
        ap (λ (at : Result Place Fault). outcome (move_guard w n at (walk w.skel w.forest n old)) (next_locks w (move_locking w n at (walk w.skel w.forest n old)))) began
        ∙ ap (λ (at : Result Place Fault). outcome (move_guard w n (Ok s) at) (next_locks w (move_locking w n (Ok s) at))) ended
        ∙ goes (next_locks w (move_locking w n (Ok s) (Ok p)))
        ∙ ap (λ (came : List MountLocks). Ok (changed_locks [] (numbered_from w.next_mount came) None w.locks))
        (come_listed w n s.mount s.dir ids true (tree_of w s.mount) (moved_tree w s h.forest.rising named ids listed) (there h new s began) p)

  -- attributes are changed
  pub change_done : (path : List (List ℕ)) (c : Change) (p : Place) → walk w.skel w.forest n path ≡ Ok p → is_mount_root w p ≡ true → clashes c ≡ false → changes_inside w n p c ≡ false → unlocks_some w c p.mount ≡ false
      → change_judged w n path c ≡ keep_judged w
  change_done path c p ended named apart outside kept =
      ap (λ (at : Result Place Fault). outcome (change_guard w n c at) (next_locks w keeping)) ended
      ∙ passed (not (is_mount_root w p)) NotMountRoot _ _ (ap not named)
      ∙ passed (clashes c) BadAttr _ _ apart
      ∙ passed (changes_inside w n p c) Detached _ _ outside
      ∙ passed (unlocks_some w c p.mount) LockedAttr [] _ kept

  -- mounts are copied: a bind, and a tree that is opened
  module _ (recursive : Bool) (from : List (List ℕ)) (s : Place) (began : walk w.skel w.forest n from ≡ Ok s) (bindable : (state_of w s.mount).unbindable ≡ false) where
    -- it is left to see whether one that is locked would be left out
    pub bind_left : (to : List (List ℕ)) (p : Place) → walk w.skel w.forest n to ≡ Ok p → is_root_place w p ≡ false
        → bind_judged w n recursive from to ≡ outcome (refuse_if (uncovers w recursive s) LockedInside ∷ []) (next_locks w (bind_locking w n recursive (Ok s) (Ok p)))
    bind_left to p ended free =
        ap (λ (at : Result Place Fault). outcome (bind_guard w recursive at (walk w.skel w.forest n to)) (next_locks w (bind_locking w n recursive at (walk w.skel w.forest n to)))) began
        ∙ ap (λ (at : Result Place Fault). outcome (bind_guard w recursive (Ok s) at) (next_locks w (bind_locking w n recursive (Ok s) at))) ended
        ∙ passed (is_root_place w p) RootPlace _ _ free
        ∙ passed (state_of w s.mount).unbindable Unbindable _ _ bindable

    pub open_left : open_judged w n from recursive ≡ outcome (refuse_if (uncovers w recursive s) LockedInside ∷ []) (next_locks w (open_locking w n recursive (Ok s)))
    open_left =
        ap (λ (at : Result Place Fault). outcome (open_guard w recursive at) (next_locks w (open_locking w n recursive at))) began
        ∙ passed (state_of w s.mount).unbindable Unbindable _ _ bindable

    module _ (h : IsWellFormed w) (ids : List ℕ) (listed : ids ≡ bound_ids w recursive s) (covers : uncovers w recursive s ≡ false) where
      pub bind_done : (to : List (List ℕ)) (p : Place) → walk w.skel w.forest n to ≡ Ok p → is_root_place w p ≡ false
          → bind_judged w n recursive from to ≡ Ok (changed_locks [] (numbered_from w.next_mount (copies_locks w n s.mount (map (mount_or_unknown w) ids) (p.mount ∷ targets w p))) None w.locks)
      bind_done to p ended free =
          bind_left to p ended free
          ∙ passed (uncovers w recursive s) LockedInside [] _ covers
          ∙ ap (λ (came : List MountLocks). Ok (changed_locks [] (numbered_from w.next_mount came) None w.locks))
          (come_listed w n s.mount s.dir ids false (source_at w recursive s) (either_is w s h.forest.rising recursive ids listed) (there h from s began) p)

      pub open_done : open_judged w n from recursive ≡ Ok (changed_locks [] (numbered_from w.next_mount (map (locks_of_copy w false s.mount) (map (mount_or_unknown w) ids))) (next_owner w (owner_of w.locks n)) w.locks)
      open_done =
          open_left
          ∙ passed (uncovers w recursive s) LockedInside [] _ covers
          ∙ ap (λ (came : List MountLocks). Ok (changed_locks [] (numbered_from w.next_mount came) (next_owner w (owner_of w.locks n)) w.locks))
          (unplaced_locked w false s.mount s.mount (source_at w recursive s).mounts
          ∙ ap (λ (src : Source). map (locks_of_copy w false s.mount) src.mounts) (sym (either_is w s h.forest.rising recursive ids listed))
          ∙ members_locked w false s.mount s.mount s.dir ids)

-- what a bind uncovers, by the IDs of what it copies
pub uncovers_by : (w : WorldView) (recursive : Bool) (s : Place) (ids : List ℕ) → ids ≡ bound_ids w recursive s
    → uncovers w recursive s ≡ list_any (λ i. not (among ids i) && option_map_or (λ on. among ids on && copy_shows w s on i) (parent w.forest i) false) (locked_ids w.locks)
uncovers_by w recursive s ids listed = ap (λ (ks : List ℕ). list_any (λ i. not (among ks i) && option_map_or (λ on. among ks on && copy_shows w s on i) (parent w.forest i) false) (locked_ids w.locks)) (sym listed)

-- what a last call answers
pub answered : {E : Type 0} (r : Result LocksView E) (j : Result LocksView Fault) (x y : LocksView) → j ≡ Ok x → y ≡ x → IfOk r (λ l. l ≡ y) → IfOk r (λ l. j ≡ Ok l)
answered (Ok l) j x y e f same = e ∙ ap (λ v. Ok v) (sym (same ∙ f))
answered (Err g) j x y e f same = tt
