use Rattle.std.proofs.Common.{◌≡◌, length, fold}
use Rattle.mt_requests.specs.Requests.{prior_of_two, word_faults}
use Rattle.mt_requests.proofs.arguments.fault_among.Given as goal

abbrev pub invariant-arguments : goal.invariant-arguments
invariant-arguments l = fold prior_of_two l.fault (word_faults l.arguments l.words) ≡ fold prior_of_two l.initial.fault (word_faults l.initial.arguments l.initial.words)

abbrev pub decreases-arguments : goal.decreases-arguments
decreases-arguments l = length l.arguments
