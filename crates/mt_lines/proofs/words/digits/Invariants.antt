use Rattle.std.proofs.Common.{◌≡◌, drop, Some}
use Rattle.mt_lines.specs.Words.{number_from}
use Rattle.mt_lines.proofs.words.digits.Given as goal

abbrev pub invariant-loop-digit : goal.invariant-loop-digit
invariant-loop-digit l = number_from (Some l.n) (drop l.digit-index l.word) ≡ number_from (Some 0) l.word
