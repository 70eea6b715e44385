use Rattle.std.proofs.Common.{arith, sym, ◌∙◌}
use Rattle.mt_transcript.proofs.MisplacedLaws.{found, passed, said_below, all_passed}
use Rattle.mt_transcript.proofs.misplaced.misplaced_in.Goals as goal

pub returns-in-Some : goal.returns-in-Some
returns-in-Some c =
    found c.args.lines.now c.lines.place _ c.lines.above (omega (arith, c.lines-test.true)) c.lines.invariant.said c.in-Some.why (sym c.in-Some.is ∙ c.in_ok-misfit.ensures)
    c.lines.invariant.first

pub lines-preserved : goal.lines-preserved
lines-preserved c = record {
  said = said_below c.args.lines.now c.lines.place _ c.lines.above (omega (arith, c.lines-test.true)) c.lines.invariant.said c.with_line-above.result c.with_line-above.ensures;
  first = passed c.args.lines.now c.lines.place _ c.lines.above (omega (arith, c.lines-test.true)) c.lines.invariant.said (sym c.in_default.is ∙ c.in_ok-misfit.ensures) c.lines.invariant.first;
}

pub returns : goal.returns
returns c = all_passed c.args.lines.now c.lines.place (omega (arith, c.lines-test.false)) c.lines.invariant.first
