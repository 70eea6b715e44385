-- The rows of several tables.
-- A word with no source is this project's rule.
use Rattle.std.specs.Prelude.{ℕ, ◌+◌, List, [], ◌∷◌, ◌++◌}
use Rattle.std.specs.List.{flat_map}
use Rattle.std.specs.Option.{option_to_list}
use Rattle.mt_import.specs.Reading.{ToldMount}
use Rattle.mt_questions.specs.Tables.{ToldTable}
use Rattle.mt_world.specs.declared.row.TableRow.{TableRow}
use Rattle.mt_what_if.specs.TableRows.{row_of_line}

-- those of the table of a number that can be read
abbrev pub rows_in_table : ℕ → List ToldMount → List TableRow
rows_in_table n mounts = flat_map (λ m. option_to_list (row_of_line n m)) mounts

-- those of tables that count from a number on
abbrev pub rows_gathered : ℕ → List ToldTable → List TableRow
rows_gathered n [] = []
rows_gathered n (t ∷ tables) = rows_in_table n t.rows ++ rows_gathered (n + 1) tables
