use Rattle.std.proofs.Common.{◌≡◌, ◌++◌, map, drop}
use Rattle.mt_questions.specs.Reach.{untold_on}
use Rattle.mt_questions.proofs.reach.untold_on_all.Given as goal

-- those of the mounts passed, and of those to come
abbrev pub invariant-found : goal.invariant-found
invariant-found l = l.untold.items ++ map (untold_on l.rows l.directory) (map (λ row. row.now) (drop l.row-index l.found)) ≡ map (untold_on l.rows l.directory) (map (λ row. row.now) l.found)
