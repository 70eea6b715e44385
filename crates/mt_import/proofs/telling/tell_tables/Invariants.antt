use Rattle.std.proofs.Common.{◌≡◌, ◌++◌, drop}
use Rattle.std.specs.List.{flat_map}
use Rattle.mt_import.specs.Telling.{tree_rows}
use Rattle.mt_import.proofs.telling.tell_tables.Given as goal

-- what was appended and what is left are all
abbrev pub invariant-spaces : goal.invariant-spaces
invariant-spaces l = l.script ++ flat_map tree_rows (drop l.space-index l.spaces) ≡ l.initial.script ++ flat_map tree_rows l.spaces
