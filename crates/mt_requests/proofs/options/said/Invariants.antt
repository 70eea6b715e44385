use Rattle.std.proofs.Common.{◌≡◌, length}
use Rattle.mt_requests.proofs.OptionLaws.{text_of}
use Rattle.mt_requests.proofs.options.said.Given as goal

abbrev pub invariant-words : goal.invariant-words
invariant-words l = text_of l.key l.words ≡ text_of l.key l.initial.words

abbrev pub decreases-words : goal.decreases-words
decreases-words l = length l.words
