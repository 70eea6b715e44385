use Rattle.std.proofs.Common.{◌≡◌, ◌++◌, map, drop}
use Rattle.mt_questions.specs.Copies.{copy_on}
use Rattle.mt_questions.proofs.reach.copies_on.Given as goal

-- the copies on the mounts passed, and on those to come
abbrev pub invariant-found : goal.invariant-found
invariant-found l =
    l.copies.items ++ map (copy_on l.rows l.place l.directory l.ids) (map (λ row. row.now) (drop l.row-index l.found)) ≡ map (copy_on l.rows l.place l.directory l.ids) (map (λ row. row.now) l.found)
