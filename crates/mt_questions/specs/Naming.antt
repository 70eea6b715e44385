-- Which namespace a word names.
-- A word with no source is this project's rule.
use Rattle.std.specs.Prelude.{ℕ, nat_lt, nat_le, Bool, not, ◌||◌, ◌&&◌, ◌==◌, if◌then◌else◌, List, [], length, fold, Option, None, Some}
use Rattle.std.specs.List.{find, list_all}
use Rattle.std.specs.Option.{option_and_then, option_map, option_map_or, option_or}
use Rattle.std.specs.Str.{bytes_eq}
use Rattle.mt_lines.specs.Words.{pieces, number_in_text}
use Rattle.mt_questions.specs.Tables.{ToldTable}

-- a word, and the namespace that it names: the path of the file of its table, or the number of a process in it
pub record SpaceAliasView : Type 0 where
  pub word : List ℕ
  pub space : ℕ

-- the last name of a path: what stands behind its last slash
abbrev pub later_piece : List ℕ → List ℕ → List ℕ
later_piece before piece = piece

abbrev pub last_name : List ℕ → List ℕ
last_name path = fold later_piece [] (pieces 47 path)

-- a word is that of an alias, or its last name
abbrev pub is_word : List ℕ → SpaceAliasView → Bool
is_word word a = bytes_eq a.word word

abbrev pub is_last_name : List ℕ → SpaceAliasView → Bool
is_last_name word a = bytes_eq (last_name a.word) word

-- the namespace of the first alias with this word, and with this last name
abbrev pub space_of_word : List SpaceAliasView → List ℕ → Option ℕ
space_of_word aliases word = option_map (λ (a : SpaceAliasView). a.space) (find (is_word word) aliases)

abbrev pub space_of_name : List SpaceAliasView → List ℕ → Option ℕ
space_of_name aliases word = option_map (λ (a : SpaceAliasView). a.space) (find (is_last_name word) aliases)

-- the namespace, if all aliases with this last name are of it
abbrev pub agrees : List ℕ → ℕ → SpaceAliasView → Bool
agrees word n a = not (is_last_name word a) || (a.space == n)

abbrev pub space_alone : List SpaceAliasView → List ℕ → ℕ → Option ℕ
space_alone aliases word n = if list_all (agrees word n) aliases then Some n else None

-- the number of one of these tables, counted from 1
abbrev pub numbered_among : List ToldTable → ℕ → Option ℕ
numbered_among tables n = if nat_lt 0 n && nat_le n (length tables) then Some n else None

abbrev pub space_of_number : List ToldTable → List ℕ → Option ℕ
space_of_number tables word = option_and_then (numbered_among tables) (number_in_text word)

-- The namespace that a word names: by the whole word of an alias, or else by its last name, if that is of one namespace alone; a word
-- that is neither may be the number of a table.
abbrev pub space_called : List ToldTable → List SpaceAliasView → List ℕ → Option ℕ
space_called tables aliases word =
    option_or (space_of_word aliases word) (option_map_or (space_alone aliases word) (space_of_name aliases word) (space_of_number tables word))
