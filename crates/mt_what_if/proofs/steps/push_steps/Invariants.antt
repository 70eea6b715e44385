use Rattle.std.proofs.Common.{◌≡◌, List, ◌++◌, drop}
use Rattle.mt_render.specs.PageData.{StepTexts}
use Rattle.mt_what_if.specs.Steps.{AreSteps}
use Rattle.mt_what_if.specs.Trials.{TrialView}
use Rattle.mt_what_if.specs.declared.trying.Outcome.{Outcome}
use Rattle.mt_what_if.proofs.steps.push_steps.Given as goal

-- what the lines to come lead to, all lead to behind the steps so far
abbrev pub invariant-lines : goal.invariant-lines
invariant-lines l = record {
  start : l.trial.start ≡ l.initial.trial.start;
  told : (u : TrialView) (outcome : Outcome) (rest : List StepTexts) → AreSteps l.question (drop l.line-index l.question.lines.now) l.trial u outcome rest
      → AreSteps l.question l.question.lines.now l.initial.trial u outcome (l.steps.items ++ rest);
}
