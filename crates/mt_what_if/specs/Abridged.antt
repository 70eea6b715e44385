-- Changes of mounts, of which those that are alike stand in one line.
-- A word with no source is this project's rule.
use Rattle.std.specs.Prelude.{ℕ, ◌-◌, Bool, nat_le, nat_lt, ◌==◌, ◌||◌, if◌then◌else◌, List, [], ◌∷◌, ◌++◌, count_by, codes, decimal}
use Rattle.std.specs.Str.{bytes_eq}
use Rattle.mt_render.specs.Wording.{shown_line}

-- what changed of a mount, and the line that tells it
pub record ToldChange : Type 0 where
  pub change : List ℕ
  pub line : List ℕ

-- two changes are alike
abbrev pub is_like : List ℕ → ToldChange → Bool
is_like change t = bytes_eq change t.change

abbrev pub more_line : ℕ → List ℕ → List ℕ
more_line n change = shown_line (codes "    ~ " ++ decimal n ++ codes " more: " ++ change)

-- a change by how many there are like it, and how many of them earlier: of more than five the first two have their lines, and the third says how many more there are
abbrev pub by_counts : ℕ → ℕ → ToldChange → List ℕ
by_counts all earlier t =
    if nat_le all 5 || nat_lt earlier 2 then t.line else (if earlier == 2 then more_line (all - 2) t.change else [])

abbrev pub one_of : List ToldChange → List ToldChange → ToldChange → List ℕ
one_of all earlier t = by_counts (count_by (is_like t.change) all) (count_by (is_like t.change) earlier) t

-- changes, after those that came earlier
abbrev pub abridged_from : List ToldChange → List ToldChange → List ToldChange → List ℕ
abridged_from all earlier [] = []
abridged_from all earlier (t ∷ later) = one_of all earlier t ++ abridged_from all (earlier ++ t ∷ []) later
