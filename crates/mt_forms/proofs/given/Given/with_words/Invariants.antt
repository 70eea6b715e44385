use Rattle.std.proofs.Common.{◌≡◌, length}
use Rattle.std.specs.Prelude.{fold}
use Rattle.mt_forms.specs.Reading.{with_word}
use Rattle.mt_forms.proofs.given.Given.with_words.Given as goal

abbrev pub invariant-words : goal.invariant-words
invariant-words l = fold (with_word l.tool) l.given l.words ≡ fold (with_word l.tool) l.initial.given l.initial.words

abbrev pub decreases-words : goal.decreases-words
decreases-words l = length l.words
