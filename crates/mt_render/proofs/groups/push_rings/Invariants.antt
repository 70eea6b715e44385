use Rattle.std.proofs.Common.{◌≡◌, ◌++◌, drop}
use Rattle.mt_render.specs.Groups.{ring_edges}
use Rattle.mt_render.proofs.groups.push_rings.Given as goal

-- the edges that were appended, and those to come
abbrev pub invariant-nodes : goal.invariant-nodes
invariant-nodes l = l.text.items ++ ring_edges l.palette l.nodes (drop l.at l.nodes) ≡ l.initial.text.items ++ ring_edges l.palette l.nodes l.nodes
