-- What changes from one world to another one, namespace by namespace.
-- A word with no source is this project's rule.
use Rattle.std.specs.Prelude.{ℕ, Bool, not, ◌&&◌, if◌then◌else◌, List, []}
use Rattle.std.specs.List.{flat_map}
use Rattle.mt_propagate.specs.World.{WorldView, is_space}
use Rattle.mt_info.specs.declared.row.Row.{Row}
use Rattle.mt_info.specs.SameRow.{rows_eq}
use Rattle.mt_info.specs.Table.{table_of}
use Rattle.mt_what_if.specs.KnownSpaces.{TitledSpace, is_unnamed}
use Rattle.mt_what_if.specs.Spaces.{space_changes}
use Rattle.mt_what_if.specs.declared.numbers.Numbers.{Numbers}

-- the table of a namespace; there is no row where there is no such namespace
abbrev pub rows_if_there : WorldView → ℕ → List Row
rows_if_there w n = if is_space w n then table_of w n else []

-- what changes in a namespace, and in each of several
abbrev pub between_text : Numbers → WorldView → WorldView → TitledSpace → List ℕ
between_text nb w v s = space_changes nb v.peering.peers s (rows_if_there w s.number) (rows_if_there v s.number)

unfoldable pub difference_text : Numbers → WorldView → WorldView → List TitledSpace → List ℕ
difference_text nb w v spaces = flat_map (between_text nb w v) spaces

-- the table of a namespace changes
abbrev pub changes_between : WorldView → WorldView → ℕ → Bool
changes_between w v n = not (rows_eq (rows_if_there w n) (rows_if_there v n))

-- a namespace that no line names was there before, and changes
abbrev pub changes_elsewhere : WorldView → WorldView → TitledSpace → Bool
changes_elsewhere w v s = is_unnamed s && changes_between w v s.number
