use Rattle.std.proofs.Common.{◌≡◌, ℕ, List, true, length}
use Rattle.std.specs.List.{list_any}
use Rattle.std.specs.Str.{bytes_eq}
use Rattle.mt_requests.specs.Options.{lists}
use Rattle.mt_help.proofs.options.set_reason.Given as goal

abbrev pub invariant-words : goal.invariant-words
invariant-words l = (word : List ℕ) → list_any (λ w. bytes_eq w word) l.words ≡ true → lists l.list word ≡ true

abbrev pub decreases-words : goal.decreases-words
decreases-words l = length l.words
