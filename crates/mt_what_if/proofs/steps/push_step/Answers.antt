use Rattle.std.proofs.Common.{◌∙◌}
use Rattle.mt_propagate.specs.World.{world_view}
use Rattle.mt_what_if.proofs.StepLaws.{line_step}
use Rattle.mt_what_if.proofs.steps.push_step.Goals as goal

pub returns-clause-told : goal.returns-clause-told
returns-clause-told c = (
  c.in_ok-step.step,
  c.in_ok-push.ensures.items,
  line_step c.args.question.now c.args.line.now c.args.trial.now c.begin_line.new.self c.try_line.new.trial c.in_ok-outcome.outcome
      (world_view c.in_ok-before.before) c.in_ok-step.step c.begin_line.ensures c.in_ok-outcome.ensures.tried c.in_ok-outcome.ensures.start
      (c.in_ok-before.ensures.copy ∙ c.world.ensures.world) c.in_ok-step.ensures.step,
)
