use Rattle.std.proofs.Common.{◌≡◌, length}
use Rattle.mt_requests.specs.Options.{is_repeated}
use Rattle.mt_requests.proofs.options.is_repeated.Given as goal

abbrev pub invariant-words : goal.invariant-words
invariant-words l = is_repeated l.words l.key ≡ is_repeated l.initial.words l.key

abbrev pub decreases-words : goal.decreases-words
decreases-words l = length l.words
