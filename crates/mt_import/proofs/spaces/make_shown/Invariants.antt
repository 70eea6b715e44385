use Rattle.std.proofs.Common.{◌≡◌, ◌++◌, drop}
use Rattle.std.specs.List.{flat_map}
use Rattle.mt_import.specs.Spaces.{made_if_shown}
use Rattle.mt_import.proofs.spaces.make_shown.Given as goal

-- what was appended and what is left are all
abbrev pub invariant-spaces : goal.invariant-spaces
invariant-spaces l = l.script ++ flat_map (made_if_shown l.groups.all) (drop l.space-index l.spaces) ≡ l.initial.script ++ flat_map (made_if_shown l.groups.all) l.spaces
