use Rattle.std.proofs.Common.{arith, ◌∙◌}
use Rattle.mt_what_if.proofs.ForetellLaws.{refused_told, done_told, all_told}
use Rattle.mt_what_if.proofs.foretelling.foretell_lines.Goals as goal

pub returns-in-Refused-clause-told : goal.returns-in-Refused-clause-told
returns-in-Refused-clause-told c =
    refused_told c.args.question.now c.lines.before c.line-item.result c.args.trial.now c.lines.trial c.foretell_line.new.trial c.in_ok-outcome.outcome
    c.in-Refused.fault c.args.text.now.items c.lines.text.items c.foretell_line.new.text.items (omega (arith, c.lines-test.true)) c.line-item.is
    c.lines.invariant.told c.in_ok-outcome.ensures.told c.in-Refused.is

pub lines-preserved : goal.lines-preserved
lines-preserved c = record {
  start = c.in_ok-outcome.ensures.start ∙ c.lines.invariant.start;
  told =
      done_told c.args.question.now c.lines.before c.line-item.result c.args.trial.now c.lines.trial c.foretell_line.new.trial c.in_ok-outcome.outcome
      c.args.text.now.items c.lines.text.items c.foretell_line.new.text.items (omega (arith, c.lines-test.true)) c.line-item.is c.lines.invariant.told
      c.in_ok-outcome.ensures.told c.in-Done.is;
}

pub returns-clause-told : goal.returns-clause-told
returns-clause-told c =
    all_told c.args.question.now c.lines.before c.args.trial.now c.lines.trial c.args.text.now.items c.lines.text.items (omega (arith, c.lines-test.false))
    c.lines.invariant.told
