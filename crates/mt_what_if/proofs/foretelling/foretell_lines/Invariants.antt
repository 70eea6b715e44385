use Rattle.std.proofs.Common.{◌≡◌, ℕ, ◌+◌, List, ◌++◌, drop}
use Rattle.mt_what_if.specs.Foretelling.{AreForetold}
use Rattle.mt_what_if.specs.Trials.{TrialView}
use Rattle.mt_what_if.specs.declared.trying.Outcome.{Outcome}
use Rattle.mt_what_if.proofs.foretelling.foretell_lines.Given as goal

-- what the lines to come are answered, all are answered behind what was told
abbrev pub invariant-lines : goal.invariant-lines
invariant-lines l = record {
  start : l.trial.start ≡ l.initial.trial.start;
  told : (told : List ℕ) × (l.text.items ≡ l.initial.text.items ++ told) × ((u : TrialView) (outcome : Outcome) (rest : List ℕ)
      → AreForetold l.question (l.before + 1) (drop l.before l.question.lines.now) l.trial u outcome rest
      → AreForetold l.question 1 l.question.lines.now l.initial.trial u outcome (told ++ rest));
}
