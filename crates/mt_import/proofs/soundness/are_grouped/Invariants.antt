use Rattle.std.proofs.Common.{◌≡◌, drop, map}
use Rattle.std.specs.List.{list_all}
use Rattle.mt_import.specs.Plans.{is_grouped}
use Rattle.mt_import.proofs.soundness.are_grouped.Given as goal

-- those that are left decide
abbrev pub invariant-rows : goal.invariant-rows
invariant-rows l =
    list_all (is_grouped l.groups.all (map (λ row. row.now) l.rows)) (map (λ row. row.now) (drop l.row-index l.rows))
    ≡ list_all (is_grouped l.groups.all (map (λ row. row.now) l.rows)) (map (λ row. row.now) l.rows)
