-- What the laws of this crate say.
-- A word with no source is this project's rule.
use Rattle.std.specs.Prelude.{◌≡◌, ℕ, Bool, true, List, Ok, IsTrue}
use Rattle.mt_propagate.specs.World.{WorldView}
use Rattle.mt_propagate.specs.WellFormed.{IsWellFormed}
use Rattle.mt_propagate.specs.Contained.{only, IsContained, IsSameOutside}
use Rattle.mt_setattr.specs.declared.change.SetWords.{SetWords}
use Rattle.mt_bind.specs.Spaces.{new_space, with_copy, copy_space, without_space}
use Rattle.mt_bind.specs.Mounting.{mounted_with, bound, moved}
use Rattle.mt_bind.specs.Pivoting.{pivoted}
use Rattle.mt_bind.specs.Opening.{tree_opened, tree_made}
use Rattle.mt_bind.specs.Attaching.{attached, has_linked}

-- a world stays well-formed when a namespace is copied, whether into one less privileged or not; where the namespace has no
-- mounts, nothing is copied
abbrev pub CopyingKeeps : Type 0
CopyingKeeps = (w : WorldView) → IsWellFormed w → (n : ℕ) (less : Bool) → IsWellFormed (with_copy w n less)

-- a world stays well-formed when all mounts of a namespace vanish
abbrev pub EndingKeeps : Type 0
EndingKeeps = (w : WorldView) → IsWellFormed w → (n : ℕ) → IsWellFormed (without_space w n)

-- a world stays well-formed through a mount that is accepted (mount_namespaces(7); `sharedsubtree`, mount states)
abbrev pub MountKeeps : Type 0
MountKeeps = (w : WorldView) (n : ℕ) (name : List ℕ) (path : List (List ℕ)) (set : SetWords) (v : WorldView) (i : ℕ) → IsWellFormed w → mounted_with w n name path set ≡ Ok (v, i) → IsWellFormed v

-- and through a bind, of one mount or of a tree (`sharedsubtree`, bind and rbind semantics)
abbrev pub BindKeeps : Type 0
BindKeeps =
    (w : WorldView) (n : ℕ) (recursive : Bool) (from to : List (List ℕ)) (v : WorldView) (i : ℕ) → IsWellFormed w → bound w n recursive from to ≡ Ok (v, i) → IsWellFormed v

-- and through a move (`sharedsubtree`, move semantics)
abbrev pub MoveKeeps : Type 0
MoveKeeps = (w : WorldView) (n : ℕ) (from to : List (List ℕ)) (v : WorldView) → IsWellFormed w → moved w n from to ≡ Ok v → IsWellFormed v

-- and through a pivot (pivot_root(2))
abbrev pub PivotKeeps : Type 0
PivotKeeps = (w : WorldView) (n : ℕ) (new old : List (List ℕ)) (v : WorldView) → IsWellFormed w → pivoted w n new old ≡ Ok v → IsWellFormed v

-- a less privileged copy of a namespace is contained (mount_namespaces(7), restrictions on mount namespaces)
abbrev pub LessIsContained : Type 0
LessIsContained = (w : WorldView) (m : ℕ) (v : WorldView) (n : ℕ) → IsWellFormed w → copy_space w m true ≡ Ok (v, n) → IsContained (only n) v

-- a contained family of namespaces stays so through a mount that is accepted, in whichever namespace
abbrev pub MountKeepsContained : Type 0
MountKeepsContained =
    (family : ℕ → Bool) (w : WorldView) (n : ℕ) (name : List ℕ) (path : List (List ℕ)) (set : SetWords) (v : WorldView) (i : ℕ) → IsWellFormed w → IsContained family w
    → mounted_with w n name path set ≡ Ok (v, i) → IsContained family v

-- through a bind
abbrev pub BindKeepsContained : Type 0
BindKeepsContained =
    (family : ℕ → Bool) (w : WorldView) (n : ℕ) (recursive : Bool) (from to : List (List ℕ)) (v : WorldView) (i : ℕ) → IsWellFormed w → IsContained family w
    → bound w n recursive from to ≡ Ok (v, i) → IsContained family v

-- through a move
abbrev pub MoveKeepsContained : Type 0
MoveKeepsContained = (family : ℕ → Bool) (w : WorldView) (n : ℕ) (from to : List (List ℕ)) (v : WorldView) → IsWellFormed w → IsContained family w → moved w n from to ≡ Ok v → IsContained family v

-- through a pivot
abbrev pub PivotKeepsContained : Type 0
PivotKeepsContained = (family : ℕ → Bool) (w : WorldView) (n : ℕ) (new old : List (List ℕ)) (v : WorldView) → IsWellFormed w → IsContained family w → pivoted w n new old ≡ Ok v → IsContained family v

-- where a namespace is new
abbrev pub MakingKeepsContained : Type 0
MakingKeepsContained = (family : ℕ → Bool) (w : WorldView) (name : List ℕ) (v : WorldView) (i : ℕ) → IsWellFormed w → IsContained family w → new_space w name ≡ Ok (v, i) → IsContained family v

-- where a namespace is copied, whether into one less privileged or not, if the copy counts as one of the family exactly where the
-- namespace is one of it
abbrev pub CopyKeepsContained : Type 0
CopyKeepsContained =
    (family : ℕ → Bool) (w : WorldView) (m : ℕ) (less : Bool) (v : WorldView) (i : ℕ) → IsWellFormed w → IsContained family w → family m ≡ family i → copy_space w m less ≡ Ok (v, i) → IsContained family v

-- where a detached tree is opened, if it counts as one of the family exactly where the namespace of the path is one of it
abbrev pub OpenKeepsContained : Type 0
OpenKeepsContained =
    (family : ℕ → Bool) (w : WorldView) (n : ℕ) (path : List (List ℕ)) (recursive : Bool) (v : WorldView) (i : ℕ) → IsWellFormed w → IsContained family w → family n ≡ family i
    → tree_opened w n path recursive ≡ Ok (v, i) → IsContained family v

-- where a detached tree is made of a filesystem
abbrev pub TreeKeepsContained : Type 0
TreeKeepsContained = (family : ℕ → Bool) (w : WorldView) (name : List ℕ) (v : WorldView) (i : ℕ) → IsWellFormed w → IsContained family w → tree_made w name ≡ Ok (v, i) → IsContained family v

-- where a tree is attached, if it comes from the side of the family on which the place is, or has no group and no master
abbrev pub AttachKeepsContained : Type 0
AttachKeepsContained =
    (family : ℕ → Bool) (w : WorldView) (tree n : ℕ) (path : List (List ℕ)) (v : WorldView) → IsWellFormed w → IsContained family w → (IsTrue (has_linked w tree) → family tree ≡ family n)
    → attached w tree n path ≡ Ok v → IsContained family v

-- and where a namespace vanishes
abbrev pub EndKeepsContained : Type 0
EndKeepsContained = (family : ℕ → Bool) (w : WorldView) (n : ℕ) → IsWellFormed w → IsContained family w → IsContained family (without_space w n)

-- a mount in a namespace of a contained family changes nothing outside it
abbrev pub MountStaysInside : Type 0
MountStaysInside =
    (family : ℕ → Bool) (w : WorldView) (n : ℕ) (name : List ℕ) (path : List (List ℕ)) (set : SetWords) (v : WorldView) (i : ℕ) → IsWellFormed w → IsContained family w → IsTrue (family n)
    → mounted_with w n name path set ≡ Ok (v, i) → IsSameOutside family w v

-- nor does a bind
abbrev pub BindStaysInside : Type 0
BindStaysInside =
    (family : ℕ → Bool) (w : WorldView) (n : ℕ) (recursive : Bool) (from to : List (List ℕ)) (v : WorldView) (i : ℕ) → IsWellFormed w → IsContained family w → IsTrue (family n)
    → bound w n recursive from to ≡ Ok (v, i) → IsSameOutside family w v

-- nor a move
abbrev pub MoveStaysInside : Type 0
MoveStaysInside =
    (family : ℕ → Bool) (w : WorldView) (n : ℕ) (from to : List (List ℕ)) (v : WorldView) → IsWellFormed w → IsContained family w → IsTrue (family n) → moved w n from to ≡ Ok v → IsSameOutside family w v

-- nor a pivot
abbrev pub PivotStaysInside : Type 0
PivotStaysInside =
    (family : ℕ → Bool) (w : WorldView) (n : ℕ) (new old : List (List ℕ)) (v : WorldView) → IsWellFormed w → IsContained family w → IsTrue (family n) → pivoted w n new old ≡ Ok v → IsSameOutside family w v

-- nor a tree of the family that is attached in it
abbrev pub AttachStaysInside : Type 0
AttachStaysInside =
    (family : ℕ → Bool) (w : WorldView) (tree n : ℕ) (path : List (List ℕ)) (v : WorldView) → IsWellFormed w → IsContained family w → IsTrue (family tree) → IsTrue (family n)
    → attached w tree n path ≡ Ok v → IsSameOutside family w v

-- nor the end of one of its namespaces
abbrev pub EndStaysInside : Type 0
EndStaysInside = (family : ℕ → Bool) (w : WorldView) (n : ℕ) → IsWellFormed w → IsContained family w → IsTrue (family n) → IsSameOutside family w (without_space w n)

-- a copy of a namespace, whether into one less privileged or not, changes nothing outside a family that the copy is one of
abbrev pub CopyStaysInside : Type 0
CopyStaysInside = (family : ℕ → Bool) (w : WorldView) (m : ℕ) (less : Bool) (v : WorldView) (i : ℕ) → IsWellFormed w → IsTrue (family i) → copy_space w m less ≡ Ok (v, i) → IsSameOutside family w v

-- nor does a tree that is opened, if it is one of the family
abbrev pub OpenStaysInside : Type 0
OpenStaysInside =
    (family : ℕ → Bool) (w : WorldView) (n : ℕ) (path : List (List ℕ)) (recursive : Bool) (v : WorldView) (i : ℕ) → IsWellFormed w → IsTrue (family i)
    → tree_opened w n path recursive ≡ Ok (v, i) → IsSameOutside family w v
