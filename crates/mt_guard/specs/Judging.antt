-- What is refused for a lock, or what will be locked: of each command that locks may refuse, or that changes what is locked.
-- A word with no source is this project's rule.
use Rattle.std.specs.Prelude.{ℕ, Bool, not, List, ◌∷◌, Result, Ok}
use Rattle.mt_skel.specs.declared.fault.Fault.{Fault}
use Rattle.mt_skel.specs.declared.fault.Fault.TheVariants.{NotMountRoot, RootPlace}
use Rattle.mt_skel.specs.Outcome.{refuse_if, outcome}
use Rattle.mt_mounts.specs.declared.mount.Place.{Place}
use Rattle.mt_mounts.specs.Walk.{walk}
use Rattle.mt_locks.specs.Locks.{LocksView}
use Rattle.mt_propagate.specs.World.{WorldView}
use Rattle.mt_propagate.specs.Named.{is_root_mount, is_mount_root}
use Rattle.mt_setattr.specs.declared.change.Change.{Change}
use Rattle.mt_setattr.specs.declared.change.SetWords.{SetWords}
use Rattle.mt_unmount.specs.Detaching.{met_mounts}
use Rattle.mt_guard.specs.Refusals.{locked_refusal, move_guard, unmount_guard, detach_guard, bind_guard, open_guard, change_guard}
use Rattle.mt_guard.specs.Changing.{keeping, next_locks, mount_locking, bind_locking, move_locking, attach_locking, unmount_locking, detach_locking, open_locking, copy_locking}

module _ (w : WorldView) where
  abbrev led : ℕ → List (List ℕ) → Result Place Fault
  led n path = walk w.skel w.forest n path

  -- mounts come to a place
  abbrev pub mount_judged : ℕ → List (List ℕ) → SetWords → Result LocksView Fault
  mount_judged n path set = Ok (next_locks w (mount_locking w n set (led n path)))

  abbrev pub bind_judged : ℕ → Bool → List (List ℕ) → List (List ℕ) → Result LocksView Fault
  bind_judged n recursive from to = outcome (bind_guard w recursive (led n from) (led n to)) (next_locks w (bind_locking w n recursive (led n from) (led n to)))

  abbrev pub move_judged : ℕ → List (List ℕ) → List (List ℕ) → Result LocksView Fault
  move_judged n from to = outcome (move_guard w n (led n from) (led n to)) (next_locks w (move_locking w n (led n from) (led n to)))

  abbrev pub attach_judged : ℕ → ℕ → List (List ℕ) → Result LocksView Fault
  attach_judged tree n path = Ok (next_locks w (attach_locking w tree n (led n path)))

  -- they change where they are: a mount becomes the root mount, or gets other attributes
  abbrev pub pivot_judged : ℕ → List (List ℕ) → List (List ℕ) → Result LocksView Fault
  pivot_judged n new old = outcome (move_guard w n (led n new) (led n old)) (next_locks w keeping)

  abbrev pub change_judged : ℕ → List (List ℕ) → Change → Result LocksView Fault
  change_judged n path c = outcome (change_guard w n c (led n path)) (next_locks w keeping)

  -- they go: the mount at a place is named, in a namespace that is no tree
  abbrev pub unlocked_judged : Place → Result LocksView Fault
  unlocked_judged p =
      outcome (refuse_if (not (is_mount_root w p)) NotMountRoot ∷ refuse_if (is_root_mount w p) RootPlace ∷ locked_refusal w p) (next_locks w (record keeping { met = met_mounts w p.mount }))

  abbrev pub unmount_judged : ℕ → List (List ℕ) → Result LocksView Fault
  unmount_judged n path = outcome (unmount_guard w n (led n path)) (next_locks w (unmount_locking w (led n path)))

  abbrev pub detach_judged : ℕ → List (List ℕ) → Result LocksView Fault
  detach_judged n path = outcome (detach_guard w n (led n path)) (next_locks w (detach_locking w (led n path)))

  -- a namespace comes
  abbrev pub open_judged : ℕ → List (List ℕ) → Bool → Result LocksView Fault
  open_judged n path recursive = outcome (open_guard w recursive (led n path)) (next_locks w (open_locking w n recursive (led n path)))

  abbrev pub copy_judged : ℕ → Bool → Result LocksView Fault
  copy_judged n all = Ok (next_locks w (copy_locking w n all))

  -- nothing is locked, and nothing is unlocked
  abbrev pub keep_judged : Result LocksView Fault
  keep_judged = Ok (next_locks w keeping)
