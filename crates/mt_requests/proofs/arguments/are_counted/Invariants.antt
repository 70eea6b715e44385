use Rattle.std.proofs.Common.{◌≡◌, length}
use Rattle.mt_requests.specs.Requests.{are_counted}
use Rattle.mt_requests.proofs.arguments.are_counted.Given as goal

abbrev pub invariant-words : goal.invariant-words
invariant-words l = are_counted l.arguments l.words ≡ are_counted l.initial.arguments l.initial.words

abbrev pub decreases-words : goal.decreases-words
decreases-words l = length l.words
