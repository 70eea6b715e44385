-- The legend of a graph (the form: the labels of Graphviz that are like HTML).
-- A word with no source is this project's rule.
use Rattle.std.specs.Prelude.{ℕ, ◌==◌, cond, List, [], ◌++◌, length, codes, decimal}
use Rattle.std.specs.List.{filter, flat_map}
use Rattle.mt_render.specs.Groups.{NodeView, is_member}
use Rattle.mt_render.specs.Palettes.{colour}

-- the line of a peer group: its number, framed in its colour, and how many mounts in sight are its members
unfoldable pub legend_line : List ℕ → List NodeView → ℕ → List ℕ
legend_line groups all g =
    codes "<tr><td border=\"2\" color=\"" ++ (colour groups g ++ (codes "\">" ++ (decimal g ++ (codes "</td><td>" ++ (decimal (length (filter (is_member g) all)) ++ codes "</td></tr>\n")))))

-- the lines of all groups, if there are some
unfoldable pub legend : List ℕ → List NodeView → List ℕ
legend groups all =
    cond (length groups == 0) []
    (codes "\"legend\" [shape=plain, label=<<table border=\"0\" cellborder=\"0\">\n<tr><td>peer group</td><td>mounts</td></tr>\n" ++ (flat_map (legend_line groups all) groups ++ codes "</table>>];\n"))
