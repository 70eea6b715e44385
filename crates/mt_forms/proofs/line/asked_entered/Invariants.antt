use Rattle.std.proofs.Common.{◌≡◌, length}
use Rattle.mt_forms.specs.Lines.{entered_from}
use Rattle.mt_forms.proofs.line.asked_entered.Given as goal

abbrev pub invariant-words : goal.invariant-words
invariant-words l = entered_from l.given l.words ≡ entered_from l.initial.given l.initial.words

abbrev pub decreases-words : goal.decreases-words
decreases-words l = length l.words
