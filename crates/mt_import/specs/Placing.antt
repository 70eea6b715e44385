-- Where a mount stands.
-- A word with no source is this project's rule.
use Rattle.std.specs.Prelude.{◌≡◌, ℕ, ◌+◌, ◌-◌, ◌^◌, ◌==◌, nat_lt, min, false, ◌||◌, not, if◌then◌else◌, List, [], ◌∷◌, ◌++◌, Option, Some, None, is_some, codes}
use Rattle.std.specs.Option.{option_or}
use Rattle.std.specs.Str.{bytes_eq}
use Rattle.mt_import.specs.declared.mount.Mount.{Mount}
use Rattle.mt_import.specs.declared.reason.Reason.{Reason}
use Rattle.mt_import.specs.declared.reason.Reason.TheVariants.{NoRootMount, NoParent, NoDirectory, Elsewhere, TooManyAtRoot, ScriptName, TooDeep}
use Rattle.mt_import.specs.Paths.{below_root, can_be_named, has_script_name, is_too_deep, path_behind}
use Rattle.mt_import.specs.Reading.{ToldMount}

-- why the root and the mount point of a row cannot be those of a mount, if they cannot
abbrev pub why_pathless : List ℕ → List ℕ → Option Reason
why_pathless root point =
    if not (can_be_named root) || not (can_be_named point) then Some NoDirectory
    else (if has_script_name root || has_script_name point then Some ScriptName
    else (if is_too_deep root then Some TooDeep else None))

-- why a row has no root mount, if it has none
abbrev pub why_no_root : ToldMount → Option Reason
why_no_root row = if bytes_eq row.point (codes "/") then why_pathless (below_root row.root) [] else Some NoRootMount

-- The root mount of a row stands at `/`, on no stack, and shows the directory of the row, which the script can name.
pub record IsRootMount (row : ToldMount) (mount : Mount) : Type 0 where
  pub point : row.point ≡ codes "/"
  pub paths : why_pathless (below_root row.root) [] ≡ None
  pub root : mount.root.now ≡ below_root row.root
  pub place : mount.place.items ≡ []
  pub lowest : mount.lowest ≡ 0
  pub names : mount.names.now ≡ []
  pub level : mount.level ≡ 0
  pub base : mount.base ≡ 0

-- of the next mount of a number, at these names on another one, the lowest of its stack, and the names to that: it is in the stack of
-- the other one if there are no names
abbrev pub stack_on : Mount → List ℕ → ℕ → ℕ × List ℕ
stack_on parent [] here = (parent.lowest, parent.names.now)
stack_on parent (b ∷ names) here = (here, b ∷ names)

-- and its level
abbrev pub level_on : Mount → List ℕ → ℕ
level_on parent [] = parent.level
level_on parent (b ∷ names) = min (parent.level + 1) (2 ^ 64 - 1)

-- how many a mount of a level stands on at the root of the namespace, if they may be this many
abbrev pub base_on : Mount → ℕ → Option ℕ
base_on parent level = if level == 0 then (if nat_lt parent.base 32 then Some (parent.base + 1) else None) else Some parent.base

-- why a row has no mount at these names on another one, and why it has none on it, if it has none
abbrev pub why_none_at : Mount → Option (List ℕ) → Option Reason
why_none_at parent None = Some Elsewhere
why_none_at parent (Some names) =
    if is_too_deep (parent.root.now ++ names) then Some TooDeep
    else (if is_some (base_on parent (level_on parent names)) then None else Some TooManyAtRoot)

abbrev pub why_none_on : Mount → ToldMount → Option Reason
why_none_on parent row =
    option_or (why_pathless (below_root row.root) (below_root row.point))
    (if parent.row.now.id == row.parent then why_none_at parent (path_behind (below_root row.point) (below_root parent.row.now.point)) else Some NoParent)

-- The next mount of a number, that of a row on another one, which the row names as its parent, shows the directory of the row, and stands on the directory that
-- its mount point is below that of the other one. Both are paths that the script can name.
pub record IsPlacedOn (parent : Mount) (row : ToldMount) (here : ℕ) (mount : Mount) : Type 0 where
  pub of : parent.row.now.id ≡ row.parent
  pub paths : why_pathless (below_root row.root) (below_root row.point) ≡ None
  pub root : mount.root.now ≡ below_root row.root
  pub names : List ℕ
  pub below : path_behind (below_root row.point) (below_root parent.row.now.point) ≡ Some names
  pub place : mount.place.items ≡ parent.root.now ++ names
  pub depth : is_too_deep mount.place.items ≡ false
  pub stack : (mount.lowest, mount.names.now) ≡ stack_on parent names here
  pub level : mount.level ≡ level_on parent names
  pub base : base_on parent mount.level ≡ Some mount.base
