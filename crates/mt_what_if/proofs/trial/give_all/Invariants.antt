use Rattle.std.proofs.Common.{◌≡◌, drop}
use Rattle.mt_what_if.specs.Trials.{give_all}
use Rattle.mt_what_if.proofs.trial.give_all.Given as goal

-- what comes of the commands to come comes of all
abbrev pub invariant-commands : goal.invariant-commands
invariant-commands l = record {
  start : l.trial.start ≡ l.initial.trial.start;
  given : give_all l.trial (drop l.command-index l.commands) ≡ give_all l.initial.trial l.commands;
}
