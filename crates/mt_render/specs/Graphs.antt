-- Tables as a graph for Graphviz (the form: the DOT language of Graphviz).
-- A word with no source is this project's rule.
use Rattle.std.specs.Prelude.{ℕ, cond, List, [], ◌++◌, Option, Some, None, codes, decimal}
use Rattle.std.specs.List.{flat_map}
use Rattle.mt_info.specs.declared.row.Row.{Row}
use Rattle.mt_events.specs.Mirrors.{MirrorView}
use Rattle.mt_render.specs.Forest.{is_top}
use Rattle.mt_render.specs.Labels.{label, label_text}
use Rattle.mt_render.specs.Edges.{name, arrow}
use Rattle.mt_render.specs.Palettes.{colour}
use Rattle.mt_render.specs.Groups.{NodeView, nodes, named_groups, group_edges}
use Rattle.mt_render.specs.Legends.{legend}
use Rattle.mt_render.specs.Named.{name_in, name_words}
use Rattle.mt_render.specs.declared.named.SpaceName.{SpaceName}

-- the outline of a mount, in the colour of its peer group
abbrev pub outline : List ℕ → Option ℕ → List ℕ
outline groups None = []
outline groups (Some g) = codes ", penwidth=2, color=" ++ colour groups g

-- the line of a mount
unfoldable pub node_line : List ℕ → ℕ → Row → List ℕ
node_line groups space r = name space r.id ++ (codes " [label=\"" ++ (label r ++ (codes "\"" ++ (outline groups r.shared ++ codes "];\n"))))

-- the line above the mounts of a namespace: its number, and its name
abbrev pub box_label : ℕ → List ℕ → List ℕ
box_label space name = codes "\" {\nlabel=\"namespace " ++ (decimal space ++ (label_text (name_words name) ++ codes "\";\n"))

-- the mounts of a namespace, in a box
abbrev pub box : List ℕ → ℕ → List ℕ → List Row → List ℕ
box groups space name rows = codes "subgraph \"cluster_" ++ (decimal space ++ (box_label space name ++ (flat_map (node_line groups space) rows ++ codes "}\n")))

unfoldable pub cluster : List ℕ → List SpaceName → MirrorView → List ℕ
cluster groups names m = box groups m.space (name_in names m.space) m.rows

-- the edge from a mount to a child
abbrev pub child_edge : ℕ → ℕ → ℕ → List ℕ
child_edge space parent child = name space parent ++ arrow space child (codes "arrowhead=none") (codes "black")

-- the edge from the row below which a row is drawn
abbrev pub parent_edge : ℕ → List Row → Row → List ℕ
parent_edge space rows r = cond (is_top rows r) [] (child_edge space r.parent r.id)

unfoldable pub parent_edges : MirrorView → List ℕ
parent_edges m = flat_map (parent_edge m.space m.rows) m.rows

-- the graph of all parts, with these mounts and groups
abbrev pub graph_of : List ℕ → List NodeView → List SpaceName → List MirrorView → List ℕ
graph_of groups all names parts =
    codes "digraph mounts {\nnode [shape=box, fontsize=10, height=0];\nedge [fontsize=10];\n"
    ++ (flat_map (cluster groups names) parts ++ (flat_map parent_edges parts ++ (group_edges groups all ++ (legend groups all ++ codes "}\n"))))

abbrev pub graph_text : List SpaceName → List MirrorView → List ℕ
graph_text names parts = graph_of (named_groups (nodes parts)) (nodes parts) names parts
