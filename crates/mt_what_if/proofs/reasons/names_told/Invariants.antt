use Rattle.std.proofs.Common.{◌≡◌, ◌++◌, map, drop}
use Rattle.mt_what_if.specs.KnownSpaces.{TitledSpace}
use Rattle.mt_what_if.proofs.reasons.names_told.Given as goal

-- the names added, and those to come
abbrev pub invariant-names : goal.invariant-names
invariant-names l = l.told.items ++ map (λ (s : TitledSpace). s.name) (drop l.name-index l.names) ≡ map (λ (s : TitledSpace). s.name) l.names
