use Rattle.std.proofs.Common.{◌≡◌, ◌++◌, map, drop}
use Rattle.std.specs.List.{filter}
use Rattle.mt_questions.specs.Remedies.{can_mount_on}
use Rattle.mt_questions.proofs.remedy.open_rows.Given as goal

-- those of the mounts passed, and of those to come
abbrev pub invariant-all : goal.invariant-all
invariant-all l =
    map (λ row. row.now) l.open.items ++ filter (can_mount_on l.rows l.directory) (map (λ row. row.now) (drop l.row-index l.all)) ≡ filter (can_mount_on l.rows l.directory) (map (λ row. row.now) l.all)
