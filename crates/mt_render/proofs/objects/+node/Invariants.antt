use Rattle.std.proofs.Common.{◌≡◌, ◌++◌, ◌-◌, map, drop}
use Rattle.serde_json.specs.View.{view}
use Rattle.mt_render.specs.Forest.{child_rows}
use Rattle.mt_render.specs.Objects.{node}
use Rattle.mt_render.proofs.objects.+node.Given as goal

abbrev pub decreases-node : goal.decreases-node
decreases-node l = l.generations

-- the objects of the children that were made, and those to come
abbrev pub invariant-below : goal.invariant-below
invariant-below l =
    map view l.values.items ++ map (node l.children (l.generations - 1)) (map (λ row. row.now) (drop l.child-index l.child-items)) ≡ map (node l.children (l.generations - 1)) (child_rows l.children l.row)
