use Rattle.std.proofs.Common.{◌≡◌, true, drop}
use Rattle.std.specs.Prelude.{fold}
use Rattle.mt_forms.specs.Attributes.{turned}
use Rattle.mt_forms.proofs.attribute.Said.turned_all.Given as goal

abbrev pub invariant-attributes : goal.invariant-attributes
invariant-attributes l = fold (turned true) l.said (drop l.attribute-index l.attributes) ≡ fold (turned true) l.initial.said l.attributes
