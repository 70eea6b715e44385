-- How the directories in a directory are found by their names: for each directory a list of names with numbers. No public
-- clause cites this module.
-- A word with no source is this project's rule.
use Rattle.std.specs.Prelude.{ℕ, List, [], Option, slice_index_or}
use Rattle.std.specs.Map.{lookup}
use Rattle.std.specs.Str.{bytes_eq}

-- the number that has this name in a directory
abbrev pub child_in : List (List (List ℕ × ℕ)) → ℕ → List ℕ → Option ℕ
child_in children dir name = lookup (bytes_eq name) (slice_index_or children dir [])
