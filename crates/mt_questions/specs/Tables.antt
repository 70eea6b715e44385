-- The tables of namespaces, and what people call those.
-- A word with no source is this project's rule.
use Rattle.std.specs.Prelude.{ℕ, Bool, ◌==◌, List, []}
use Rattle.std.specs.List.{filter, find, flat_map}
use Rattle.std.specs.Option.{option_map_or}
use Rattle.mt_import.specs.Reading.{ToldMount}
use Rattle.mt_reach.specs.declared.row.SeenRow.{SeenRow}
use Rattle.mt_questions.specs.declared.table.NamedSpace.{NamedSpace}

-- what people call a namespace, what the lines of its table tell, in their order, and whether its user namespace is another one than that of
-- the first table (user_namespaces(7))
pub record ToldTable : Type 0 where
  pub name : List ℕ
  pub rows : List ToldMount
  pub is_foreign : Bool

-- the rows of all tables by rising ID, the namespaces in their order, and whether none of the machine is missing
pub record SeenView : Type 0 where
  pub rows : List SeenRow
  pub names : List NamedSpace
  pub complete : Bool

-- what people call the namespace of a number
abbrev pub goes_by : ℕ → NamedSpace → Bool
goes_by n s = s.space == n

abbrev pub name_of_space : List NamedSpace → ℕ → List ℕ
name_of_space names n = option_map_or (λ (s : NamedSpace). s.name) (find (goes_by n) names) []

abbrev pub called_name : SeenView → ℕ → List ℕ
called_name t n = name_of_space t.names n

-- a mount is in a namespace
abbrev pub is_of_space : ℕ → SeenRow → Bool
is_of_space n r = r.space == n

-- the rows of all namespaces, those of each together, by rising ID
abbrev pub rows_in_space : List SeenRow → NamedSpace → List SeenRow
rows_in_space rows s = filter (is_of_space s.space) rows

abbrev pub rows_by_space : SeenView → List SeenRow
rows_by_space t = flat_map (rows_in_space t.rows) t.names
