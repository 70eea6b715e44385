use Rattle.std.proofs.Common.{◌≡◌, ◌++◌, drop}
use Rattle.mt_render.specs.Groups.{part_nodes}
use Rattle.mt_render.proofs.groups.push_part_nodes.Given as goal

-- what was appended, and what is to come
abbrev pub invariant-rows : goal.invariant-rows
invariant-rows l = l.nodes.items ++ part_nodes (record l.part { rows = drop l.row-index l.part.rows }) ≡ l.initial.nodes.items ++ part_nodes l.part
