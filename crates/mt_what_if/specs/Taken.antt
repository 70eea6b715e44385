-- What is told of that which a line is given: it is taken to be there.
-- A word with no source is this project's rule.
use Rattle.std.specs.Prelude.{ℕ, Bool, false, ◌&&◌, if◌then◌else◌, List, [], ◌∷◌, ◌++◌, codes}
use Rattle.std.specs.List.{starts_with}
use Rattle.std.specs.Str.{bytes_eq}
use Rattle.mt_skel.specs.Escapes.{escaped}
use Rattle.mt_info.specs.RowLine.{path_text}
use Rattle.mt_book.specs.declared.command.Command.{Command}
use Rattle.mt_book.specs.declared.command.Command.TheVariants.{MakeFs, MakeDir}

-- a filesystem by its name, and a directory by its path in its filesystem
unfoldable pub taken_words : Command → List ℕ
taken_words (MakeFs name kind source) = codes "filesystem " ++ escaped name ++ codes "\n"
taken_words (MakeDir fs path) = codes "directory " ++ path_text path ++ codes " of " ++ escaped fs ++ codes "\n"
taken_words c = []

-- the second directory is made in the first, or below it
abbrev pub encloses_directory : Command → List ℕ → List (List ℕ) → Bool
encloses_directory (MakeDir fs path) gs below = bytes_eq fs gs && starts_with bytes_eq below path
encloses_directory c gs below = false

abbrev pub encloses : Command → Command → Bool
encloses c (MakeDir gs below) = encloses_directory c gs below
encloses c d = false

abbrev pub encloses_next : Command → List Command → Bool
encloses_next c [] = false
encloses_next c (d ∷ cs) = encloses c d

-- each is told, but of directories that are made one in the other the last one alone
abbrev pub taken_if : Command → List Command → List ℕ
taken_if c cs = if encloses_next c cs then [] else taken_words c

abbrev pub taken_told : List Command → List ℕ
taken_told [] = []
taken_told (c ∷ cs) = taken_if c cs ++ taken_told cs
