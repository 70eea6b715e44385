use Rattle.std.proofs.Common.{◌≡◌, length}
use Rattle.std.specs.List.{list_any}
use Rattle.mt_help.specs.Reasons.{is_empty_word}
use Rattle.mt_help.proofs.finding.has_empty_word.Given as goal

abbrev pub invariant-words : goal.invariant-words
invariant-words l = list_any is_empty_word l.words ≡ list_any is_empty_word l.initial.words

abbrev pub decreases-words : goal.decreases-words
decreases-words l = length l.words
