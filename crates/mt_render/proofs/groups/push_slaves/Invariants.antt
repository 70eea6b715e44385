use Rattle.std.proofs.Common.{◌≡◌, ◌++◌, drop}
use Rattle.std.specs.List.{flat_map}
use Rattle.mt_render.specs.Groups.{slave_edge}
use Rattle.mt_render.proofs.groups.push_slaves.Given as goal

-- what was appended, and what is to come
abbrev pub invariant-nodes : goal.invariant-nodes
invariant-nodes l = l.text.items ++ flat_map (slave_edge l.palette l.nodes) (drop l.node-index l.nodes) ≡ l.initial.text.items ++ flat_map (slave_edge l.palette l.nodes) l.nodes
