-- The namespaces that a script makes.
-- A word with no source is this project's rule.
use Rattle.std.specs.Prelude.{◌≡◌, ℕ, suc, Bool, true, false, ◌&&◌, ◌==◌, nat_lt, if◌then◌else◌, List, [], ◌∷◌, ◌++◌, codes, decimal}
use Rattle.std.specs.List.{flat_map}
use Rattle.std.specs.BTreeMap.{BTreeMap}
use Rattle.mt_import.specs.declared.groups.Group.{Group}
use Rattle.mt_import.specs.declared.mount.Mount.{Mount}
use Rattle.mt_import.specs.declared.space.Space.{Space}
use Rattle.mt_import.specs.declared.space.Way.{Way}
use Rattle.mt_import.specs.Commands.{copy_text, locked_copy_text, drop_text}
use Rattle.mt_import.specs.Covers.{covered, finished}
use Rattle.mt_import.specs.Script.{table_comment}
use Rattle.mt_import.specs.Slots.{stage}
use Rattle.mt_import.specs.Telling.{is_made, is_shown, has_locks}
use Rattle.mt_import.specs.Turns.{turns_from}

-- the numbers of those that pass a test, if that of the first is this one
abbrev pub numbers_where : {X : Type 0} → (ℕ → X → Bool) → ℕ → List X → List ℕ
numbers_where test number [] = []
numbers_where test number (x ∷ xs) = if test number x then number ∷ numbers_where test (suc number) xs else numbers_where test (suc number) xs

-- the mounts that are made on the root of the root mount, or of another mount that is
abbrev pub is_cover : List Way → ℕ → Mount → Bool
is_cover ways number mount = mount.level == 0 && nat_lt 0 mount.base && is_made ways number

-- the mounts of a table are made, one after another, in the namespace of a number
abbrev pub mounts_made : BTreeMap ℕ Group → List ℕ → List ℕ → Space → List ℕ
mounts_made groups space at of =
    (turns_from groups space at of [] 0 of.tree.mounts ++ covered groups space at of.tree.mounts (numbers_where (is_cover of.ways.items) 0 of.tree.mounts))
    ++ finished groups space at of.tree.mounts

-- in a copy of the first namespace, except for that itself
abbrev pub copied_if : Bool → List ℕ
copied_if true = copy_text (codes "1")
copied_if false = []

-- a less privileged copy, in which all is locked, takes the place of the namespace in which they are made (mount_namespaces(7))
abbrev pub locked_if : Bool → List ℕ → List ℕ
locked_if true original = locked_copy_text original ++ drop_text original
locked_if false original = []

unfoldable pub space_text : BTreeMap ℕ Group → Space → List ℕ
space_text groups of =
    ((table_comment of.tree.table (codes " is namespace ") (decimal of.number) ++ copied_if (nat_lt 1 of.original)) ++ mounts_made groups (decimal of.original) stage of)
    ++ locked_if (has_locks of) (decimal of.original)

-- the namespaces of the tables of which the root mount is made
abbrev pub made_if_shown : BTreeMap ℕ Group → Space → List ℕ
made_if_shown groups of = if is_shown of then space_text groups of else []

-- the first one last, after what else is made
abbrev pub spaces_text : BTreeMap ℕ Group → List Space → List ℕ → List ℕ
spaces_text groups [] between = []
spaces_text groups (of ∷ others) between =
    if is_shown of then (flat_map (made_if_shown groups) others ++ between) ++ space_text groups of else spaces_text groups others between

abbrev pub AreMade : BTreeMap ℕ Group → List Space → List ℕ → List ℕ → Type 0
AreMade groups spaces old new = (between : List ℕ) × (new ≡ old ++ spaces_text groups spaces between)
