-- Paths as a mountinfo has them; here the path of a root is empty. A word with no source is this
-- project's rule.
use Rattle.std.specs.Prelude.{ℕ, Bool, true, false, not, nat_eq, nat_le, nat_lt, ◌==◌, ◌&&◌, ◌||◌, if◌then◌else◌, List, [], ◌∷◌, length, drop, Option, Some, None, codes}
use Rattle.std.specs.List.{filter, list_all, list_any, starts_with}
use Rattle.std.specs.Option.{option_map_or}
use Rattle.std.specs.Str.{bytes_eq}
use Rattle.mt_skel.specs.Escapes.{unescaped}
use Rattle.mt_lines.specs.Words.{pieces}

-- a path without its slash, if that is all it is
abbrev pub below_root : List ℕ → List ℕ
below_root word = if bytes_eq word (codes "/") then [] else word

-- a path as a word
abbrev pub path_word : List ℕ → List ℕ
path_word [] = codes "/"
path_word (b ∷ bytes) = b ∷ bytes

-- how many names a path has
abbrev pub name_count : List ℕ → ℕ
name_count path = length (filter (λ b. b == 47) path)

-- a piece between slashes is a name: it stands for 1 to 255 bytes, none of them zero, and is neither `.` nor `..`
abbrev pub says_name : List ℕ → Bool
says_name piece =
    option_map_or (λ bytes. nat_le 1 (length bytes) && nat_le (length bytes) 255) (unescaped piece) false
    && list_all (λ b. not (b == 0)) piece && not (bytes_eq piece (codes ".")) && not (bytes_eq piece (codes ".."))

-- a path that the script can name: of at most 4,000 bytes, each name of it after a slash
unfoldable pub can_be_named : List ℕ → Bool
can_be_named [] = true
can_be_named (b ∷ text) = b == 47 && nat_le (length (b ∷ text)) 4000 && list_all says_name (pieces 47 text)

-- what comes after a path in one that is below it, or is the same
abbrev pub names_behind : List ℕ → Option (List ℕ)
names_behind [] = Some []
names_behind (b ∷ rest) = if b == 47 then Some (b ∷ rest) else None

-- a directory of a filesystem is too deep, or its path too long, for what the script has below it
abbrev pub is_too_deep : List ℕ → Bool
is_too_deep path = nat_lt 31 (name_count path) || nat_lt 4000 (length path)

unfoldable pub path_behind : List ℕ → List ℕ → Option (List ℕ)
path_behind path above = if starts_with nat_eq path above then names_behind (drop (length above) path) else None

-- a name that the script uses, and a path that has one
abbrev pub is_script_name : List ℕ → Bool
is_script_name piece = bytes_eq piece (codes ".import") || bytes_eq piece (codes ".import2")

unfoldable pub has_script_name : List ℕ → Bool
has_script_name path = list_any is_script_name (pieces 47 path)
