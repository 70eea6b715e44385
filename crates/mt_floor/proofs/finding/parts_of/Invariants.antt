use Rattle.std.proofs.Common.{◌≡◌, ◌++◌, drop}
use Rattle.std.specs.List.{flat_map}
use Rattle.mt_floor.specs.Finding.{part_if}
use Rattle.mt_floor.proofs.finding.parts_of.Given as goal

-- the namespaces passed, and those to come
abbrev pub invariant-spaces : goal.invariant-spaces
invariant-spaces l = l.parts.items ++ flat_map (part_if l.book.journal l.scope) (drop l.space-index l.spaces) ≡ flat_map (part_if l.book.journal l.scope) l.spaces
