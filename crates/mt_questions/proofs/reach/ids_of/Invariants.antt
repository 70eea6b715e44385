use Rattle.std.proofs.Common.{◌≡◌, ◌++◌, map, drop}
use Rattle.mt_reach.specs.Rows.{seen_id}
use Rattle.mt_questions.proofs.reach.ids_of.Given as goal

-- those of the rows passed, and of those to come
abbrev pub invariant-rows : goal.invariant-rows
invariant-rows l = l.ids.items ++ map seen_id (map (λ row. row.now) (drop l.row-index l.rows)) ≡ map seen_id (map (λ row. row.now) l.rows)
