use Rattle.std.proofs.Common.{◌≡◌, length}
use Rattle.mt_forms.specs.Reading.{with_letters}
use Rattle.mt_forms.proofs.given.Given.with_letters.Given as goal

abbrev pub invariant-letters : goal.invariant-letters
invariant-letters l =
    with_letters l.tool l.word l.letters l.given ≡ with_letters l.tool l.word l.initial.letters l.initial.given

abbrev pub decreases-letters : goal.decreases-letters
decreases-letters l = length l.letters
