use Rattle.std.proofs.Common.{sym, ◌∙◌}
use Rattle.mt_propagate.proofs.CopiedInsideLaws.{copied-contained, copied-outside}
use Rattle.mt_propagate.proofs.laws.copying_stays_inside.Goals as goal

pub returns-clause-kept : goal.returns-clause-kept
returns-clause-kept c = λ family w src dest h a s d near. copied-contained w h src dest s d family near a

pub returns-clause-inside : goal.returns-clause-inside
returns-clause-inside c = λ family w src dest h a s d within here. copied-outside w h src dest s d family (λ i m q at e stays. within i m q at e ∙ sym here) a within here
