use Rattle.std.proofs.Common.{◌≡◌, ◌++◌, map, drop}
use Rattle.std.specs.List.{filter}
use Rattle.serde_json.specs.View.{view}
use Rattle.mt_render.specs.Forest.{is_top}
use Rattle.mt_render.specs.Objects.{node, most_generations}
use Rattle.mt_render.proofs.objects.top_nodes.Given as goal

-- the objects that were made, and those to come
abbrev pub invariant-rows : goal.invariant-rows
invariant-rows l = map view l.values.items ++ map (node l.children most_generations) (filter (is_top l.rows) (drop l.row-index l.rows)) ≡ map (node l.children most_generations) (filter (is_top l.rows) l.rows)
