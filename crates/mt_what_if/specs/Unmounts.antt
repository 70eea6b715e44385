-- Which mounts an unmount names (umount(8)).
-- A word with no source is this project's rule.
use Rattle.std.specs.Prelude.{ℕ, Bool, if◌then◌else◌, List, [], ◌∷◌, ◌++◌, Option, None, Some, codes, decimal}
use Rattle.std.specs.Option.{option_or}
use Rattle.std.specs.Str.{bytes_eq}
use Rattle.mt_info.specs.declared.row.Row.{Row}
use Rattle.mt_info.specs.RowLine.{path_text}

-- the last mount of a source
abbrev pub is_of_source : List ℕ → Row → Bool
is_of_source source r = bytes_eq r.source source

abbrev pub last_of_source : List ℕ → List Row → Option Row
last_of_source source [] = None
last_of_source source (r ∷ rows) = option_or (last_of_source source rows) (if is_of_source source r then Some r else None)

-- the line of a session that unmounts a mount where it stands
abbrev pub unmount_verb : Bool → List ℕ
unmount_verb lazy = if lazy then codes "detach " else codes "umount "

abbrev pub unmount_line : Bool → ℕ → Row → List ℕ
unmount_line lazy space r = unmount_verb lazy ++ decimal space ++ codes " " ++ path_text r.point ++ codes "\n"
