-- Words as they are written: paths, and the names of programs (path_resolution(7)).
-- A word with no source is this project's rule.
use Rattle.std.specs.Prelude.{ℕ, Bool, ◌||◌, List, [], fold, codes}
use Rattle.std.specs.Str.{bytes_eq}
use Rattle.mt_lines.specs.Words.{pieces}

-- a name of a path that leads nowhere down
abbrev pub is_dots : List ℕ → Bool
is_dots name = bytes_eq name (codes ".") || bytes_eq name (codes "..")

-- the name of a program comes after the last slash of its path
abbrev pub base_name : List ℕ → List ℕ
base_name path = fold (λ last name. name) [] (pieces 47 path)
