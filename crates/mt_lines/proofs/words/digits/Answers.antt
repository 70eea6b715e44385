use Rattle.std.proofs.Common.{sym}
use Rattle.mt_lines.proofs.WordLaws.{digits_none}
use Rattle.mt_lines.proofs.words.digits.Goals as goal

pub returns-in_err-n : goal.returns-in_err-n
returns-in_err-n c = rw c.from_residual.ensures (sym (digits_none c.loop-digit.n c.loop-digit.digit-index c.args.word.now c.loop-digit.invariant c.loop-digit-test.true (sym c.in_err-n.ensures)))
