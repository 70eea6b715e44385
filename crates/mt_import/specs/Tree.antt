-- The mounts of a table, in the order of their making.
-- A word with no source is this project's rule.
use Rattle.std.specs.Prelude.{◌≡◌, ◌⊎◌, ◌≤◌, ◌<◌, ℕ, ◌-◌, length, Bool, true, false, ◌&&◌, cond, nat_le, suc, List, [], ◌∷◌, map, slice_get, Option, Some, None}
use Rattle.mt_skel.specs.Counted.{occ}
use Rattle.mt_import.specs.declared.mount.Mount.{Mount}
use Rattle.mt_import.specs.declared.reason.Reason.{Reason}
use Rattle.mt_import.specs.declared.reason.Reason.TheVariants.{Ring}
use Rattle.mt_import.specs.Placing.{IsRootMount, IsPlacedOn}
use Rattle.mt_import.specs.Reading.{ToldMount, ToldSpace}

-- whether the row of a number has a mount: no reason is known why it is left out
abbrev pub is_none : Option (Option Reason) → Bool
is_none (Some None) = true
is_none why = false

abbrev pub has_mount : List (Option Reason) → ℕ → Bool
has_mount left number = is_none (slice_get left number)

-- whether its turn has not come
abbrev pub is_ring : Option (Option Reason) → Bool
is_ring (Some (Some Ring)) = true
is_ring why = false

abbrev pub is_waiting : List (Option Reason) → ℕ → Bool
is_waiting left number = is_ring (slice_get left number)

-- mounts of which the first one has this number: each stands on one before it, and the first of all on itself
abbrev pub stand_on_earlier : ℕ → List ℕ → Bool
stand_on_earlier number [] = true
stand_on_earlier number (above ∷ others) = nat_le above (number - 1) && stand_on_earlier (suc number) others

-- a table: its number, what is told of its namespace, its mounts, and why rows have none
pub record TreeView : Type 0 where
  pub table : ℕ
  pub told : ToldSpace
  pub mounts : List Mount
  pub left : List (Option Reason)

-- A mount of a number is that of a row, and is the root mount, which stands on itself, or has its place on one before it.
pub record StandsThere (rows : List ToldMount) (mounts : List Mount) (number : ℕ) (mount : Mount) : Type 0 where
  pub row : slice_get rows mount.number ≡ Some mount.row.now
  pub on : ((mount.above ≡ number) × IsRootMount mount.row.now mount) ⊎ ((parent : Mount) × (mount.above < number) × (slice_get mounts mount.above ≡ Some parent) × IsPlacedOn parent mount.row.now number mount)

-- One that is the next of some mounts is that of the row of a number.
pub record IsNextMount (rows : List ToldMount) (mounts : List Mount) (number : ℕ) (mount : Mount) : Type 0 where
  pub numbered : mount.number ≡ number
  pub within : mount.above ≤ length mounts - 1
  pub stands : StandsThere rows mounts (length mounts) mount

-- Each mount stands where its row says, after the one that it stands on. Each row that has a mount has one, and no other row has.
pub record IsMakingOrder (rows : List ToldMount) (mounts : List Mount) (left : List (Option Reason)) : Type 0 where
  pub order : stand_on_earlier 0 (map (λ (m : Mount). m.above) mounts) ≡ true
  pub stands : (number : ℕ) (mount : Mount) → slice_get mounts number ≡ Some mount → StandsThere rows mounts number mount
  pub once : (row : ℕ) → occ row (map (λ (m : Mount). m.number) mounts) ≡ cond (has_mount left row) 1 0
