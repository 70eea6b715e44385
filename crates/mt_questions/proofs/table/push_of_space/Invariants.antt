use Rattle.std.proofs.Common.{◌≡◌, ◌++◌, map, drop}
use Rattle.std.specs.List.{filter}
use Rattle.mt_questions.specs.Tables.{is_of_space}
use Rattle.mt_questions.proofs.table.push_of_space.Given as goal

-- those of the rows passed, and of those to come
abbrev pub invariant-rows : goal.invariant-rows
invariant-rows l =
    map (λ row. row.now) l.found.items ++ filter (is_of_space l.space) (drop l.row-index l.row-items) ≡ map (λ row. row.now) l.initial.found.items ++ filter (is_of_space l.space) l.row-items
