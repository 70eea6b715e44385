use Rattle.std.proofs.Common.{◌≡◌, ◌++◌, drop}
use Rattle.std.specs.List.{flat_map}
use Rattle.mt_render.specs.Graphs.{node_line}
use Rattle.mt_render.proofs.graph.push_nodes.Given as goal

-- what was appended, and what is to come
abbrev pub invariant-loop-row : goal.invariant-loop-row
invariant-loop-row l = l.text.items ++ flat_map (node_line l.palette l.space) (drop l.row-index l.rows) ≡ l.initial.text.items ++ flat_map (node_line l.palette l.space) l.rows
