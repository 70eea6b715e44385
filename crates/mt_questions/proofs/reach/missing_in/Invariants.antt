use Rattle.std.proofs.Common.{◌≡◌, ◌++◌, drop}
use Rattle.std.specs.List.{filter_map}
use Rattle.mt_questions.specs.Reach.{missing_at}
use Rattle.mt_questions.proofs.reach.missing_in.Given as goal

-- those of the rows passed, and of those to come
abbrev pub invariant-rows : goal.invariant-rows
invariant-rows l = l.missing.items ++ filter_map (missing_at l.rows) (drop l.row-index l.row-items) ≡ filter_map (missing_at l.rows) l.row-items
