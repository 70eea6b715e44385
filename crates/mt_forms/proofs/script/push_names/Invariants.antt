use Rattle.std.proofs.Common.{◌≡◌, ◌++◌, length}
use Rattle.std.specs.List.{flat_map}
use Rattle.mt_forms.specs.Scripts.{behind_slash}
use Rattle.mt_forms.proofs.script.push_names.Given as goal

abbrev pub invariant-names : goal.invariant-names
invariant-names l = l.text.items ++ flat_map behind_slash l.names ≡ l.initial.text.items ++ flat_map behind_slash l.initial.names

abbrev pub decreases-names : goal.decreases-names
decreases-names l = length l.names
