use Rattle.std.proofs.Common.{◌≡◌, ◌++◌, drop, length}
use Rattle.std.specs.List.{flat_map, filter}
use Rattle.mt_render.specs.Forest.{is_top}
use Rattle.mt_render.specs.Steps.{top_step, steps_from}
use Rattle.mt_render.proofs.forest.tree.Given as goal

-- what is drawn, and what is to come
abbrev pub invariant-rows : goal.invariant-rows
invariant-rows l =
    l.drawn.items ++ flat_map (λ r. steps_from l.children (length l.children) (top_step r)) (filter (is_top l.rows) (drop l.row-index l.rows))
    ≡ flat_map (λ r. steps_from l.children (length l.children) (top_step r)) (filter (is_top l.rows) l.rows)
