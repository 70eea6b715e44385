-- What a command but a detach does to the mounts does not depend on what is locked: so an accepted command gives the world that it
-- gives where nothing is locked.
use Rattle.std.proofs.Common.{◌≡◌, ℕ, Bool, true, false, List, ◌∷◌, Option, Some, None, Result, Ok, Err, refl, sym, ap, ◌∙◌, arith}
use Rattle.mt_skel.specs.declared.fault.Fault.{Fault}
use Rattle.mt_skel.specs.declared.fault.Fault.TheVariants.{Detached}
use Rattle.mt_skel.specs.Outcome.{first_fault, refuse_if, outcome}
use Rattle.mt_skel.specs.Skeleton.{Skeleton, fs_named}
use Rattle.mt_mounts.specs.Walk.{walk}
use Rattle.mt_locks.specs.Locks.{LocksView, no_locks}
use Rattle.mt_propagate.specs.World.{WorldView, is_tree}
use Rattle.mt_propagate.specs.Named.{place_or_nowhere}
use Rattle.mt_propagate.specs.Copied.{copied}
use Rattle.mt_bind.specs.Copying.{with_copies}
use Rattle.mt_bind.specs.Spaces.{with_space, new_space_refusals, new_space_effect, copy_space_refusals, copy_space_effect, without_space, drop_space_refusals}
use Rattle.mt_bind.specs.Mounting.{mounted_refusals, mounted_effect, bound_refusals, bound_effect, moved_refusals, moved_effect}
use Rattle.mt_bind.specs.Pivoting.{with_pivot, pivoted_refusals, pivoted_effect}
use Rattle.mt_bind.specs.Opening.{opened_refusals, opened_effect, tree_made_effect}
use Rattle.mt_bind.specs.Attaching.{with_attached, attached_refusals}
use Rattle.mt_unmount.specs.Unmounting.{without_mount, unmounted_refusals, unmounted_effect}
use Rattle.mt_setattr.specs.Words.{nothing_set}
use Rattle.mt_setattr.specs.Change.{with_change, attributed_refusals, attributed_effect}
use Rattle.mt_book.specs.declared.command.Command.{Command}
use Rattle.mt_book.specs.declared.command.Command.TheVariants.{Room, MakeFs, MakeDir, NewSpace, CopySpace, DropSpace, Mount, MountWith, Bind, Move, Pivot, Unmount, Detach, SetAttr, OpenTree, NewTree, MoveTree}
use Rattle.mt_book.specs.declared.command.Privilege.TheVariants.{Same, Less, LessLocked}
use Rattle.mt_book.specs.declared.command.Reply.{Reply}
use Rattle.mt_book.specs.Step.{is_less, with_skel, with_made_number, with_done, act, step, makes_locks}
use Rattle.mt_book.specs.Locking.{without_locks, without_lock, detaches, LocksOnlyRefuse}
use Rattle.mt_book.proofs.EffectLaws.{step_accepted}
use Rattle.mt_book.proofs.LockLaws.{nothing_locked}

-- an answer whose world has other locks
abbrev relabelled : LocksView → Result (WorldView × Reply) Fault → Result (WorldView × Reply) Fault
relabelled l (Ok p) = Ok (record p.0 { locks = l }, p.1)
relabelled l (Err f) = Err f

skel_relabelled : (l : LocksView) (w : WorldView) (reply : Skeleton → Reply) (q : Result Skeleton Fault) → with_skel (record w { locks = l }) reply q ≡ relabelled l (with_skel w reply q)
skel_relabelled l w reply (Ok s) = refl
skel_relabelled l w reply (Err f) = refl

done_relabelled : (l : LocksView) (fs : List (Option Fault)) (u v : WorldView) → v ≡ record u { locks = l } → with_done (outcome fs v) ≡ relabelled l (with_done (outcome fs u))
done_relabelled l fs u v e = by (first_fault fs) refl
  where
    by : (f : Option Fault) → first_fault fs ≡ f → with_done (outcome fs v) ≡ relabelled l (with_done (outcome fs u))
    by None is = grind (arith, is, e)
    by (Some f) is = grind (arith, is)

number_relabelled : (l : LocksView) (fs : List (Option Fault)) (p q : WorldView × ℕ) → q ≡ (record p.0 { locks = l }, p.1) → with_made_number (outcome fs q) ≡ relabelled l (with_made_number (outcome fs p))
number_relabelled l fs p q e = by (first_fault fs) refl
  where
    by : (f : Option Fault) → first_fault fs ≡ f → with_made_number (outcome fs q) ≡ relabelled l (with_made_number (outcome fs p))
    by None is = grind (arith, is, e)
    by (Some f) is = grind (arith, is)

act_relabelled : (l : LocksView) (w : WorldView) (c : Command) → detaches c ≡ false → act (record w { locks = l }) c ≡ relabelled l (act w c)
unfolding act with_space with_copies without_space copied with_pivot without_mount with_change
act_relabelled l w (Room k) d = skel_relabelled l w _ _
act_relabelled l w (MakeFs name kind source) d = skel_relabelled l w _ _
act_relabelled l w (MakeDir fs path) d = skel_relabelled l w _ _
act_relabelled l w (NewSpace fs) d = let f = fs_named w.skel fs in number_relabelled l (new_space_refusals w f) (new_space_effect w f) _ refl
act_relabelled l w (CopySpace n privilege) d = number_relabelled l (copy_space_refusals w n) (copy_space_effect w n (is_less privilege)) _ refl
act_relabelled l w (DropSpace n) d = done_relabelled l (drop_space_refusals w n) (without_space w n) _ refl
act_relabelled l w (Mount n fs path) d =
    let f = fs_named w.skel fs in
    let to = walk w.skel w.forest n path in
    number_relabelled l (mounted_refusals w nothing_set f to) (mounted_effect w nothing_set f to) _ refl
act_relabelled l w (MountWith n fs path set) d =
    let f = fs_named w.skel fs in
    let to = walk w.skel w.forest n path in
    number_relabelled l (mounted_refusals w set f to) (mounted_effect w set f to) _ refl
act_relabelled l w (Bind n src dst recursive) d =
    let from = walk w.skel w.forest n src in
    let to = walk w.skel w.forest n dst in
    number_relabelled l (bound_refusals w recursive from to) (bound_effect w recursive from to) _ refl
act_relabelled l w (Move n src dst) d =
    let from = walk w.skel w.forest n src in
    let to = walk w.skel w.forest n dst in
    done_relabelled l (refuse_if (is_tree w n) Detached ∷ moved_refusals w from to) (moved_effect w from to) _ refl
act_relabelled l w (Pivot n new old) d =
    let from = walk w.skel w.forest n new in
    let to = walk w.skel w.forest n old in
    done_relabelled l (refuse_if (is_tree w n) Detached ∷ pivoted_refusals w from to) (pivoted_effect w n from to) _ refl
act_relabelled l w (Unmount n path) d =
    let at = walk w.skel w.forest n path in
    done_relabelled l (refuse_if (is_tree w n) Detached ∷ unmounted_refusals w at) (unmounted_effect w at) _ refl
act_relabelled l w (Detach n path) d = absurd (cc)
act_relabelled l w (SetAttr n path change) d =
    let at = walk w.skel w.forest n path in
    done_relabelled l (attributed_refusals w n change at) (attributed_effect w change at) _ refl
act_relabelled l w (OpenTree n path recursive) d =
    let at = walk w.skel w.forest n path in
    number_relabelled l (opened_refusals w recursive at) (opened_effect w recursive at) _ refl
act_relabelled l w (NewTree fs) d = let f = fs_named w.skel fs in number_relabelled l (new_space_refusals w f) (tree_made_effect w f) _ refl
act_relabelled l w (MoveTree tree n path) d =
    let to = walk w.skel w.forest n path in
    done_relabelled l (attached_refusals w tree n to) (with_attached w tree (place_or_nowhere to)) _ refl

-- the word `lock` does nothing to the mounts
wordless : (w : WorldView) (c : Command) → act w (without_lock c) ≡ act w c
unfolding act
wordless w (CopySpace n Same) = refl
wordless w (CopySpace n Less) = refl
wordless w (CopySpace n LessLocked) = refl
wordless w c = refl

wordless_free : (c : Command) → makes_locks (without_lock c) ≡ false
wordless_free (CopySpace n Same) = refl
wordless_free (CopySpace n Less) = refl
wordless_free (CopySpace n LessLocked) = refl
wordless_free c = refl

pub only_refuse : LocksOnlyRefuse
only_refuse w c v r d e =
    let a = step_accepted w c v r e in
    let world : without_locks a.done ≡ without_locks v = ap without_locks (sym a.world) in
    nothing_locked (without_locks w) (without_lock c) refl (wordless_free c)
    ∙ wordless (without_locks w) c
    ∙ act_relabelled no_locks w c d
    ∙ ap (relabelled no_locks) a.acted
    ∙ ap (λ (x : WorldView). Ok (x, r)) world
