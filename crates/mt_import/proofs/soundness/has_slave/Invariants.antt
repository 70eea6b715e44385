use Rattle.std.proofs.Common.{◌≡◌, drop, map}
use Rattle.mt_import.specs.Plans.{has_slave}
use Rattle.mt_import.proofs.soundness.has_slave.Given as goal

-- those that are left decide
abbrev pub invariant-rows : goal.invariant-rows
invariant-rows l = has_slave (map (λ row. row.now) (drop l.row-index l.rows)) l.group ≡ has_slave (map (λ row. row.now) l.rows) l.group
