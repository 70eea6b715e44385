use Rattle.std.proofs.Common.{◌≡◌, ◌++◌, drop}
use Rattle.std.specs.List.{flat_map}
use Rattle.mt_import.specs.Front.{stage_text}
use Rattle.mt_import.proofs.front.stage_members.Given as goal

-- what was appended and what is left are all
abbrev pub invariant-members : goal.invariant-members
invariant-members l = l.script ++ flat_map (stage_text l.groups.all) (drop l.number-index l.members) ≡ l.initial.script ++ flat_map (stage_text l.groups.all) l.members
