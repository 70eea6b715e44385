use Rattle.std.proofs.Common.{◌≡◌, ◌++◌, ◌∷◌, drop}
use Rattle.std.specs.List.{flat_map}
use Rattle.mt_skel.specs.Escapes.{escaped}
use Rattle.mt_refused.proofs.part.push_components.Given as goal

-- what was appended, and what is to come
abbrev pub invariant-components : goal.invariant-components
invariant-components l = l.text.items ++ flat_map (λ n. 47 ∷ escaped n) (drop l.name-index l.names) ≡ l.initial.text.items ++ flat_map (λ n. 47 ∷ escaped n) l.names
