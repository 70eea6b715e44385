use Rattle.std.proofs.Common.{◌≡◌, ◌∷◌, ◌++◌}
use Rattle.std.specs.List.{flat_map}
use Rattle.mt_trace.proofs.written.push_later.Given as goal

abbrev pub invariant-later : goal.invariant-later
invariant-later l =
    l.text.items ++ flat_map (λ argument. 44 ∷ 32 ∷ argument) l.argument-iterator ≡ l.initial.text.items ++ flat_map (λ argument. 44 ∷ 32 ∷ argument) l.initial.argument-iterator
