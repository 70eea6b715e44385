use Rattle.std.proofs.Common.{◌≡◌, ◌++◌, map, drop}
use Rattle.mt_questions.specs.Remedies.{apart_on}
use Rattle.mt_questions.proofs.reach.apart_on_all.Given as goal

-- those of the mounts passed, and of those to come
abbrev pub invariant-found : goal.invariant-found
invariant-found l =
    l.apart.items ++ map (apart_on l.rows (map (λ row. row.now) l.opens) l.place l.directory) (map (λ row. row.now) (drop l.row-index l.found))
    ≡ map (apart_on l.rows (map (λ row. row.now) l.opens) l.place l.directory) (map (λ row. row.now) l.found)
