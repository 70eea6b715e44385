use Rattle.std.proofs.Common.{◌≡◌, ◌++◌, drop}
use Rattle.std.specs.List.{filter_map}
use Rattle.mt_render.proofs.groups.push_shared.Given as goal

-- the groups that were appended, and those to come
abbrev pub invariant-nodes : goal.invariant-nodes
invariant-nodes l = l.groups.items ++ filter_map (λ n. n.row.shared) (drop l.node-index l.nodes) ≡ l.initial.groups.items ++ filter_map (λ n. n.row.shared) l.nodes
