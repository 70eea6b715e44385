-- What the laws of locks say (mount_namespaces(7), restrictions on mount namespaces).
-- A word with no source is this project's rule.
use Rattle.std.specs.Prelude.{◌≡◌, ◌≢◌, ℕ, Bool, true, false, List, None, Some, IsTrue, Ok}
use Rattle.std.specs.List.{AllByRecursion}
use Rattle.mt_skel.specs.Keyed.{has, rises}
use Rattle.mt_mounts.specs.declared.mount.Mount.{Mount}
use Rattle.mt_mounts.specs.Forest.{mount_at}
use Rattle.mt_locks.specs.MountLocks.{locked_mount}
use Rattle.mt_locks.specs.Locks.{no_locks, locks_of, is_locked}
use Rattle.mt_propagate.specs.World.{WorldView}
use Rattle.mt_propagate.specs.WellFormed.{IsWellFormed}
use Rattle.mt_propagate.specs.Named.{mount_or_unknown}
use Rattle.mt_unmount.specs.Sliding.{place_of}
use Rattle.mt_guard.specs.Refusals.{changes_locked}
use Rattle.mt_book.specs.declared.command.Command.{Command}
use Rattle.mt_book.specs.declared.command.Command.TheVariants.{CopySpace, Detach}
use Rattle.mt_book.specs.declared.command.Privilege.{Privilege}
use Rattle.mt_book.specs.declared.command.Privilege.TheVariants.{Same, Less, LessLocked}
use Rattle.mt_book.specs.declared.command.Reply.{Reply}
use Rattle.mt_book.specs.Step.{act, step, makes_locks, after}

-- a world without what is locked and without owners, and a command without the word `lock`
abbrev pub without_locks : WorldView → WorldView
without_locks w = record w { locks = no_locks }

abbrev pub without_lock_word : Privilege → Privilege
without_lock_word Same = Same
without_lock_word Less = Less
without_lock_word LessLocked = Less

abbrev pub without_lock : Command → Command
without_lock (CopySpace n privilege) = CopySpace n (without_lock_word privilege)
without_lock c = c

abbrev pub detaches : Command → Bool
detaches (Detach n path) = true
detaches c = false

-- an accepted command does to the mounts what it does whatever is locked
abbrev pub StepsAreActs : Type 0
StepsAreActs = (w : WorldView) (c : Command) (v : WorldView) (r : Reply) → step w c ≡ Ok (v, r) → (u : WorldView) × (act w c ≡ Ok (u, r)) × (v ≡ record u { locks = v.locks }) × (u.locks ≡ w.locks)

-- and but for a detach, it gives the world that it gives where nothing is locked, and the same answer: locks only refuse
abbrev pub LocksOnlyRefuse : Type 0
LocksOnlyRefuse =
    (w : WorldView) (c : Command) (v : WorldView) (r : Reply) → detaches c ≡ false → step w c ≡ Ok (v, r)
    → step (without_locks w) (without_lock c) ≡ Ok (without_locks v, r)

-- where nothing is locked, nothing comes locked without the word `lock`, and nothing is refused for a lock: so it is as if there were no locks
abbrev pub NothingComesLocked : Type 0
NothingComesLocked = (w : WorldView) (c : Command) → w.locks ≡ no_locks → makes_locks c ≡ false → step w c ≡ act w c

abbrev pub NoneAreLocked : Type 0
NoneAreLocked = (cs : List Command) → AllByRecursion (λ c. makes_locks c ≡ false) cs → (after cs).locks ≡ no_locks

-- what is locked, of which mounts: mounts that are there, by rising ID, each once, and of attributes only what is set; no root mount is locked on
-- a place
pub record AreLocks (w : WorldView) : Type 0 where
  pub rising : IsTrue (rises locked_mount w.locks.mounts)
  pub there : (i : ℕ) → has locked_mount i w.locks.mounts ≡ true → (m : Mount) × (mount_at w.forest i ≡ Some m)
  pub placed : (i : ℕ) → is_locked w.locks i ≡ true → place_of w i ≢ None
  pub set : (i : ℕ) → changes_locked (locks_of w.locks i) (mount_or_unknown w i).attrs (mount_or_unknown w i).attrs ≡ false

-- an accepted command keeps them so, and they are so after all commands
abbrev pub StepKeepsLocks : Type 0
StepKeepsLocks = (w : WorldView) (c : Command) (v : WorldView) (r : Reply) → IsWellFormed w → AreLocks w → step w c ≡ Ok (v, r) → AreLocks v

abbrev pub LocksAreInOrder : Type 0
LocksAreInOrder = (cs : List Command) → AreLocks (after cs)
