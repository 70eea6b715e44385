use Rattle.std.proofs.Common.{◌≡◌, ◌++◌, drop, map}
use Rattle.std.specs.List.{flat_map}
use Rattle.mt_import.specs.Plans.{rows_made}
use Rattle.mt_import.proofs.soundness.rows_of.Given as goal

-- what was appended and what is left are all
abbrev pub invariant-spaces : goal.invariant-spaces
invariant-spaces l = map (λ row. row.now) l.rows.items ++ flat_map rows_made (drop l.space-index l.spaces) ≡ flat_map rows_made l.spaces
