use Rattle.std.proofs.Common.{arith, ◌∙◌}
use Rattle.mt_what_if.proofs.StepLaws.{refused_step, done_step, all_steps}
use Rattle.mt_what_if.proofs.steps.push_steps.Goals as goal

pub returns-in-Refused-clause-told : goal.returns-in-Refused-clause-told
returns-in-Refused-clause-told c =
    refused_step c.args.question.now c.lines.line-index c.line-item.result c.args.trial.now c.lines.trial c.push_step.new.trial c.in_ok-outcome.outcome
    c.in-Refused.fault c.lines.steps.items c.push_step.new.steps.items (omega (arith, c.lines-test.true)) c.line-item.is c.lines.invariant.told
    c.in_ok-outcome.ensures.told c.in-Refused.is

pub lines-preserved : goal.lines-preserved
lines-preserved c = record {
  start = c.in_ok-outcome.ensures.start ∙ c.lines.invariant.start;
  told =
      done_step c.args.question.now c.lines.line-index c.line-item.result c.args.trial.now c.lines.trial c.push_step.new.trial c.in_ok-outcome.outcome
      c.lines.steps.items c.push_step.new.steps.items (omega (arith, c.lines-test.true)) c.line-item.is c.lines.invariant.told c.in_ok-outcome.ensures.told
      c.in-Done.is;
}

pub returns-clause-told : goal.returns-clause-told
returns-clause-told c =
    all_steps c.args.question.now c.lines.line-index c.args.trial.now c.lines.trial c.lines.steps.items (omega (arith, c.lines-test.false))
    c.lines.invariant.told
