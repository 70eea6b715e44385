-- What the law says that what is covered stays covered (mount_namespaces(7), restrictions on mount namespaces).
-- A word with no source is this project's rule.
use Rattle.std.specs.Prelude.{◌≡◌, ◌⊎◌, ℕ, ◌≤◌, true, List, [], None, Some, IsTrue, Ok}
use Rattle.mt_skel.specs.Keyed.{among}
use Rattle.mt_mounts.specs.Forest.{mount_at, parent, is_below}
use Rattle.mt_mounts.specs.Walk.{walk}
use Rattle.mt_locks.specs.Locks.{is_locked}
use Rattle.mt_propagate.specs.World.{WorldView}
use Rattle.mt_propagate.specs.WellFormed.{IsWellFormed}
use Rattle.mt_propagate.specs.Named.{place_or_nowhere}
use Rattle.mt_unmount.specs.Sliding.{place_of}
use Rattle.mt_unmount.specs.Detaching.{received, named_place}
use Rattle.mt_book.specs.declared.command.Command.{Command}
use Rattle.mt_book.specs.declared.command.Command.TheVariants.{Unmount, Detach}
use Rattle.mt_book.specs.declared.command.Reply.{Reply}
use Rattle.mt_book.specs.Step.{step, after}
use Rattle.mt_book.specs.Locking.{AreLocks}

-- the mounts that an unmount or a detach reaches elsewhere, since they stand where what it names is mounted too (`sharedsubtree`, unmount
-- semantics)
abbrev pub reached_by : WorldView → Command → List ℕ
reached_by w (Unmount n path) = received w (place_or_nowhere (walk w.skel w.forest n path)).mount
reached_by w (Detach n path) = received w (named_place w n path).mount
reached_by w c = []

-- the mount on which a mount stood is gone
abbrev pub IsParentGone : WorldView → WorldView → ℕ → Type 0
IsParentGone w v i = (k : ℕ) × (parent w.forest i ≡ Some k) × (mount_at v.forest k ≡ None)

-- a mount that came has the place that a mount had, and that one stands on it, or on what stands on it
abbrev pub IsBehindCopy : WorldView → WorldView → ℕ → Type 0
IsBehindCopy w v i = (k : ℕ) × (w.next_mount ≤ k) × (place_of v k ≡ place_of w i) × IsTrue (is_below v.forest k i)

-- a mount is still locked, and stands where it stood, unless what it stood on is gone too, or a copy came to its place
abbrev pub IsStillLocked : WorldView → WorldView → ℕ → Type 0
IsStillLocked w v i = (is_locked v.locks i ≡ true) × ((place_of v i ≡ place_of w i) ⊎ IsParentGone w v i ⊎ IsBehindCopy w v i)

-- how a mount that was locked on its place is afterwards: reached by an unmount elsewhere; or gone with the mount on which it stood; or still
-- locked
abbrev pub IsStillCovering : WorldView → Command → WorldView → ℕ → Type 0
IsStillCovering w c v i = IsTrue (among (reached_by w c) i) ⊎ ((mount_at v.forest i ≡ None) × IsParentGone w v i) ⊎ IsStillLocked w v i

-- no command uncovers what a mount that is locked on its place covers, but for an unmount that reaches the mount (mount_namespaces(7): such mounts
-- may not be unmounted one by one, which would uncover what they hide)
abbrev pub CoveredStaysCovered : Type 0
CoveredStaysCovered =
    (w : WorldView) (c : Command) (v : WorldView) (r : Reply) → IsWellFormed w → AreLocks w → step w c ≡ Ok (v, r) → (i : ℕ) → is_locked w.locks i ≡ true → IsStillCovering w c v i

-- a command came after others, and these are there now: it has uncovered nothing that a mount covered which was locked on its place
abbrev pub StaysCovered : List Command → Command → List Command → Type 0
StaysCovered cs c now = (i : ℕ) → is_locked (after cs).locks i ≡ true → IsStillCovering (after cs) c (after now) i
