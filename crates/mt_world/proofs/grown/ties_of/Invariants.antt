use Rattle.std.proofs.Common.{◌≡◌, length}
use Rattle.mt_world.proofs.grown.ties_of.Given as goal

abbrev pub invariant-loop-row : goal.invariant-loop-row
invariant-loop-row l = length l.ties.items ≡ l.row-index
