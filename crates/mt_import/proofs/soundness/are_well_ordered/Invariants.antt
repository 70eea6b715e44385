use Rattle.std.proofs.Common.{◌≡◌, drop}
use Rattle.std.specs.List.{list_all}
use Rattle.mt_import.specs.Plans.{is_well_ordered}
use Rattle.mt_import.proofs.soundness.are_well_ordered.Given as goal

-- those that are left decide
abbrev pub invariant-spaces : goal.invariant-spaces
invariant-spaces l = list_all is_well_ordered (drop l.space-index l.spaces) ≡ list_all is_well_ordered l.spaces
