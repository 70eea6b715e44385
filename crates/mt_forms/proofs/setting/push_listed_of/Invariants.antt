use Rattle.std.proofs.Common.{◌≡◌, ◌++◌, drop}
use Rattle.std.specs.List.{flat_map}
use Rattle.mt_forms.specs.Settings.{listed_word}
use Rattle.mt_forms.proofs.setting.push_listed_of.Given as goal

abbrev pub invariant-loop-attribute : goal.invariant-loop-attribute
invariant-loop-attribute l =
    l.text.items ++ flat_map (listed_word l.attributes) (drop l.attribute-index l.list) ≡ l.initial.text.items ++ flat_map (listed_word l.attributes) l.list
