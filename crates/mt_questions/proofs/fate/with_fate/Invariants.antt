use Rattle.std.proofs.Common.{◌≡◌, ◌++◌, map, drop}
use Rattle.std.specs.List.{filter}
use Rattle.mt_questions.specs.Fates.{has_fate}
use Rattle.mt_questions.proofs.fate.with_fate.Given as goal

-- those of the mounts passed, and of those to come
abbrev pub invariant-all : goal.invariant-all
invariant-all l =
    map (λ row. row.now) l.found.items ++ filter (has_fate l.rows l.place l.directory l.fate) (map (λ row. row.now) (drop l.row-index l.all))
    ≡ filter (has_fate l.rows l.place l.directory l.fate) (map (λ row. row.now) l.all)
