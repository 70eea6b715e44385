-- What the labels, names and paths of the server are.
-- A word with no source is this project's rule.
use Rattle.std.specs.Prelude.{ℕ, Bool, not, ◌&&◌, ◌==◌, nat_le, List, [], ◌∷◌, length, codes}
use Rattle.std.specs.List.{flat_map, list_all}
use Rattle.std.specs.Str.{bytes_eq}
use Rattle.mt_lines.specs.Words.{pieces}

-- a label is 1 to 255 bytes, none of them zero
abbrev pub is_label : List ℕ → Bool
is_label l = nat_le 1 (length l) && nat_le (length l) 255 && list_all (λ b. not (b == 0)) l

-- a name is a label without `/` that is neither `.` nor `..`
abbrev pub is_name : List ℕ → Bool
is_name l = is_label l && list_all (λ b. not (b == 47)) l && not (bytes_eq l (codes ".")) && not (bytes_eq l (codes ".."))

-- names, each preceded by a slash
abbrev pub names_text : List (List ℕ) → List ℕ
names_text names = flat_map (λ n. 47 ∷ n) names

-- the names in a text, each preceded by a slash
abbrev pub names_in : List ℕ → List (List ℕ)
names_in [] = []
names_in (b ∷ text) = pieces 47 text
