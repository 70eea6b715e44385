use Rattle.std.proofs.Common.{◌≡◌, ◌++◌, drop}
use Rattle.std.specs.List.{flat_map}
use Rattle.mt_render.specs.Graphs.{parent_edge, parent_edges}
use Rattle.mt_render.proofs.graph.push_parents.Given as goal

-- what was appended, and what is to come
abbrev pub invariant-rows : goal.invariant-rows
invariant-rows l = l.text.items ++ flat_map (parent_edge l.part.space l.part.rows) (drop l.row-index l.rows) ≡ l.initial.text.items ++ parent_edges l.part
