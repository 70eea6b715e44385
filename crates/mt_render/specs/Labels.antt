-- The labels of mounts in a graph (how text is quoted: the DOT language of Graphviz).
-- A word with no source is this project's rule.
use Rattle.std.specs.Prelude.{ℕ, ◌+◌, ◌/◌, ◌%◌, Bool, not, ◌&&◌, ◌==◌, nat_le, cond, List, [], ◌∷◌, ◌++◌, codes, decimal}
use Rattle.std.specs.List.{flat_map, join_with_byte}
use Rattle.mt_skel.specs.Escapes.{escaped}
use Rattle.mt_info.specs.declared.row.Row.{Row}
use Rattle.mt_info.specs.RowLine.{path_text, option_words}
use Rattle.mt_render.specs.Propagation.{propagation}
use Rattle.mt_render.specs.Trees.{shown_root}

-- a byte that stands for itself in a label: printable ASCII but for the quote, the ampersand, which begins a character
-- by name, and the backslash
abbrev pub is_plain : ℕ → Bool
is_plain b = nat_le 32 b && nat_le b 126 && not (b == 34) && not (b == 38) && not (b == 92)

-- a byte in a label: a backslash is written twice, and any other that does not stand for itself as a backslash, written twice
-- too, and three octal digits
abbrev pub label_byte : ℕ → List ℕ
label_byte b =
    cond (is_plain b) (b ∷ []) (cond (b == 92) (codes "\\\\") (codes "\\\\" ++ (48 + b / 64) ∷ (48 + b / 8 % 8) ∷ (48 + b % 8) ∷ []))

abbrev pub label_text : List ℕ → List ℕ
label_text bytes = flat_map label_byte bytes

-- a mount by its number and where it stands
abbrev pub numbered_point : Row → List ℕ
numbered_point r = decimal r.id ++ (codes " " ++ label_text (path_text r.point))

-- the label of a mount: number and mount point, type and the directory that it shows, options and propagation, below each other
abbrev pub label : Row → List ℕ
label r =
    numbered_point r ++ (codes "\\n" ++ (label_text (escaped r.kind ++ shown_root r.root) ++ (codes "\\n" ++ (join_with_byte 44 (option_words r.attrs) ++ (codes "\\n" ++ propagation r)))))
