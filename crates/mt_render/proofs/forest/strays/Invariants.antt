use Rattle.std.proofs.Common.{◌≡◌, ◌++◌, drop, map, not}
use Rattle.std.specs.List.{filter}
use Rattle.mt_render.specs.Steps.{top_step, has_step}
use Rattle.mt_render.proofs.forest.strays.Given as goal

-- the rows that were found, and those to come
abbrev pub invariant-rows : goal.invariant-rows
invariant-rows l = l.others.items ++ map top_step (filter (λ r. not (has_step l.drawn r.id)) (drop l.row-index l.rows)) ≡ map top_step (filter (λ r. not (has_step l.drawn r.id)) l.rows)
