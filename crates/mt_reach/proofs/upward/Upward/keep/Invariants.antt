use Rattle.std.proofs.Common.{◌≡◌}
use Rattle.mt_reach.proofs.upward.Upward.keep.Given as goal

abbrev pub invariant-numbers : goal.invariant-numbers
invariant-numbers l = l.self ≡ l.fn.self
