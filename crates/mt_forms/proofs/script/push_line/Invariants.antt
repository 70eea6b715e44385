use Rattle.std.proofs.Common.{◌≡◌, ◌++◌, length}
use Rattle.std.specs.List.{flat_map}
use Rattle.mt_forms.specs.Scripts.{behind_word}
use Rattle.mt_forms.proofs.script.push_line.Given as goal

abbrev pub invariant-words : goal.invariant-words
invariant-words l = l.text.items ++ flat_map behind_word l.words ≡ l.initial.text.items ++ flat_map behind_word l.initial.words

abbrev pub decreases-words : goal.decreases-words
decreases-words l = length l.words
