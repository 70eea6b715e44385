use Rattle.std.proofs.Common.{◌≡◌, ◌++◌, map, drop}
use Rattle.serde_json.specs.View.{view}
use Rattle.mt_render.specs.Objects.{flat_node}
use Rattle.mt_render.proofs.objects.flat_nodes.Given as goal

-- the objects that were made, and those to come
abbrev pub invariant-rows : goal.invariant-rows
invariant-rows l = map view l.values.items ++ map flat_node (drop l.row-index l.rows) ≡ map flat_node l.rows
