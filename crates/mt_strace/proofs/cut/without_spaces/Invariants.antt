use Rattle.std.proofs.Common.{◌≡◌, drop}
use Rattle.mt_strace.specs.Cuts.{without_spaces}
use Rattle.mt_strace.proofs.cut.without_spaces.Given as goal

abbrev pub invariant-loop-i : goal.invariant-loop-i
invariant-loop-i l = without_spaces (drop l.i l.text) ≡ without_spaces l.text
