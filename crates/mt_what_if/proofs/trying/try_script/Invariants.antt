use Rattle.std.proofs.Common.{◌≡◌, length}
use Rattle.mt_what_if.specs.Tried.{lines_run}
use Rattle.mt_what_if.proofs.trying.try_script.Given as goal

-- what comes of the lines to come comes of all
abbrev pub invariant-lines : goal.invariant-lines
invariant-lines l = record {
  start : l.trial.start ≡ l.initial.trial.start;
  run : lines_run l.trial l.lines ≡ lines_run l.initial.trial l.initial.lines;
}

abbrev pub decreases-lines : goal.decreases-lines
decreases-lines l = length l.lines
