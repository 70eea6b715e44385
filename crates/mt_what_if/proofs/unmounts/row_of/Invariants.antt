use Rattle.std.proofs.Common.{◌≡◌, drop}
use Rattle.std.specs.List.{find}
use Rattle.mt_what_if.specs.Scripts.{has_id}
use Rattle.mt_what_if.proofs.unmounts.row_of.Given as goal

-- no row passed is that of the mount
abbrev pub invariant-rows : goal.invariant-rows
invariant-rows l = find (has_id l.id) (drop l.row-index l.rows) ≡ find (has_id l.id) l.rows
