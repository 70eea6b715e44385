use Rattle.std.proofs.Common.{◌≡◌, ◌++◌, drop, map}
use Rattle.mt_import.specs.Plans.{rows_made_from}
use Rattle.mt_import.proofs.soundness.push_rows.Given as goal

-- what was appended and what is left are all
abbrev pub invariant-mounts : goal.invariant-mounts
invariant-mounts l =
    map (λ row. row.now) l.rows.items ++ rows_made_from l.ways l.number (drop l.number l.mounts)
    ≡ map (λ row. row.now) l.initial.rows.items ++ rows_made_from l.ways 0 l.mounts
