-- What the laws of this crate say.
-- A word with no source is this project's rule.
use Rattle.std.specs.Prelude.{◌≡◌, ◌⊎◌, ℕ, Bool, true, false, is_none, List, Some, Ok, IsTrue}
use Rattle.mt_mounts.specs.Forest.{parent}
use Rattle.mt_propagate.specs.World.{WorldView}
use Rattle.mt_propagate.specs.WellFormed.{IsWellFormed}
use Rattle.mt_propagate.specs.Contained.{IsContained, IsSameOutside}
use Rattle.mt_unmount.specs.Sliding.{place_of, CanGo}
use Rattle.mt_unmount.specs.Unmounting.{unmounted}
use Rattle.mt_unmount.specs.Detaching.{is_candidate, is_free, is_taken, detached}

-- a world stays well-formed when an unmount is accepted, that is, of a mount that is not a root mount and has no child
abbrev pub UnmountingKeeps : Type 0
UnmountingKeeps = (w : WorldView) → IsWellFormed w → (n : ℕ) (path : List (List ℕ)) (v : WorldView) → unmounted w n path ≡ Ok v → IsWellFormed v

-- a contained family of namespaces stays so through an unmount that is accepted, in whichever namespace
abbrev pub UnmountingKeepsContained : Type 0
UnmountingKeepsContained = (family : ℕ → Bool) (w : WorldView) (n : ℕ) (path : List (List ℕ)) (v : WorldView) → IsWellFormed w → IsContained family w → unmounted w n path ≡ Ok v → IsContained family v

-- and one in it changes nothing outside
abbrev pub UnmountingStaysInside : Type 0
UnmountingStaysInside =
    (family : ℕ → Bool) (w : WorldView) (n : ℕ) (path : List (List ℕ)) (v : WorldView) → IsWellFormed w → IsContained family w → IsTrue (family n) → unmounted w n path ≡ Ok v → IsSameOutside family w v

-- a world stays well-formed when a detach is accepted: each mount that stays stands on one that stays
abbrev pub DetachingKeeps : Type 0
DetachingKeeps = (w : WorldView) → IsWellFormed w → (n : ℕ) (path : List (List ℕ)) (v : WorldView) → detached w n path ≡ Ok v → IsWellFormed v

-- a contained family of namespaces stays so through a detach that is accepted, in whichever namespace
abbrev pub DetachingKeepsContained : Type 0
DetachingKeepsContained = (family : ℕ → Bool) (w : WorldView) (n : ℕ) (path : List (List ℕ)) (v : WorldView) → IsWellFormed w → IsContained family w → detached w n path ≡ Ok v → IsContained family v

-- and one in it changes nothing outside
abbrev pub DetachingStaysInside : Type 0
DetachingStaysInside =
    (family : ℕ → Bool) (w : WorldView) (n : ℕ) (path : List (List ℕ)) (v : WorldView) → IsWellFormed w → IsContained family w → IsTrue (family n) → detached w n path ≡ Ok v → IsSameOutside family w v

-- all that goes can go if the mount is not a root mount
abbrev pub DetachingTakesWhole : Type 0
DetachingTakesWhole = (w : WorldView) → IsWellFormed w → (i : ℕ) → is_none (place_of w i) ≡ false → CanGo w (is_taken w i)

-- mounts reveal nothing if each of them goes for itself or with the one on which it stands (`propagate_umount`)
abbrev pub RevealsNothing : WorldView → ℕ → (ℕ → Bool) → Type 0
RevealsNothing w i goes = (j : ℕ) → goes j ≡ true → IsTrue (is_free w i j) ⊎ ((k : ℕ) × (parent w.forest j ≡ Some k) × (goes k ≡ true))

-- what goes does
abbrev pub DetachingRevealsNothing : Type 0
DetachingRevealsNothing = (w : WorldView) → IsWellFormed w → (i : ℕ) → RevealsNothing w i (is_taken w i)

-- and no more of the candidates can: what goes is the greatest set of candidates that is neither shifting nor revealing
-- (`propagate_umount`)
abbrev pub DetachingTakesMost : Type 0
DetachingTakesMost =
    (w : WorldView) → IsWellFormed w → (i : ℕ) (goes : ℕ → Bool) → ((j : ℕ) → goes j ≡ true → IsTrue (is_candidate w i j)) → CanGo w goes → RevealsNothing w i goes → (j : ℕ) → goes j ≡ true
    → IsTrue (is_taken w i j)
