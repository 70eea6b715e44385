use Rattle.std.proofs.Common.{◌≡◌, ◌++◌, drop}
use Rattle.std.specs.List.{flat_map}
use Rattle.std.specs.Arc.{arc_value}
use Rattle.mt_floor.specs.Rows.{due_if}
use Rattle.mt_floor.proofs.due.push_post.Given as goal

-- what was appended, and what is to come
abbrev pub invariant-rows : goal.invariant-rows
invariant-rows l = l.due.items ++ flat_map (due_if (arc_value l.post)) (drop l.row-index l.rows) ≡ l.initial.due.items ++ flat_map (due_if (arc_value l.post)) l.rows
