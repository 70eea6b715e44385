use Rattle.std.proofs.Common.{◌≡◌, length}
use Rattle.std.specs.Prelude.{fold}
use Rattle.mt_forms.specs.Given.{with_listed}
use Rattle.mt_forms.proofs.given.Given.with_list.Given as goal

abbrev pub invariant-words : goal.invariant-words
invariant-words l = fold with_listed l.given l.words ≡ fold with_listed l.initial.given l.initial.words

abbrev pub decreases-words : goal.decreases-words
decreases-words l = length l.words
