use Rattle.std.proofs.Common.{◌≡◌, true, List, [], ◌∷◌, rules, refl}
use Rattle.mt_protocol.specs.declared.argument.Argument.{Argument}
use Rattle.mt_help.specs.Reasons.{are_right}
use Rattle.mt_help.proofs.finding.words_reason.Goals as goal

no_word : (arguments : List Argument) → are_right arguments [] ≡ true
no_word [] = refl
no_word (argument ∷ arguments) = refl

pub returns : goal.returns
returns c = c.words.invariant.right (let none : c.words.words ≡ [] = search rules in rw none (no_word c.words.arguments.now))
