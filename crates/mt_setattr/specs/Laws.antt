-- What the laws of this crate say.
-- A word with no source is this project's rule.
use Rattle.std.specs.Prelude.{◌≡◌, ℕ, Bool, List, Ok, IsTrue}
use Rattle.mt_propagate.specs.World.{WorldView}
use Rattle.mt_propagate.specs.WellFormed.{IsWellFormed}
use Rattle.mt_propagate.specs.Contained.{IsContained, IsSameOutside}
use Rattle.mt_setattr.specs.declared.change.Change.{Change}
use Rattle.mt_setattr.specs.Change.{with_change, attributed}

-- a world stays well-formed when mounts are changed
abbrev pub ChangingKeeps : Type 0
ChangingKeeps = (w : WorldView) → IsWellFormed w → (c : Change) (i : ℕ) → IsWellFormed (with_change w c i)

-- a contained family of namespaces stays so when mounts are changed, in whichever namespace
abbrev pub ChangingKeepsContained : Type 0
ChangingKeepsContained =
    (family : ℕ → Bool) (w : WorldView) (n : ℕ) (path : List (List ℕ)) (c : Change) (v : WorldView) → IsWellFormed w → IsContained family w → attributed w n path c ≡ Ok v → IsContained family v

-- and a change in it changes nothing outside
abbrev pub ChangingStaysInside : Type 0
ChangingStaysInside =
    (family : ℕ → Bool) (w : WorldView) (n : ℕ) (path : List (List ℕ)) (c : Change) (v : WorldView) → IsWellFormed w → IsContained family w → IsTrue (family n) → attributed w n path c ≡ Ok v → IsSameOutside family w v
