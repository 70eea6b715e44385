use Rattle.std.proofs.Common.{◌≡◌, ◌+◌, ◌++◌, length, drop}
use Rattle.std.specs.Prelude.{fold}
use Rattle.std.specs.List.{flat_map}
use Rattle.mt_events.specs.declared.opening.Part.{Part}
use Rattle.mt_events.specs.Texts.{part_text, lines_of_parts}
use Rattle.mt_events.proofs.texts.lines_of_opening.Given as goal

-- the lines appended, and those to come; and how many they are
abbrev pub invariant-parts : goal.invariant-parts
invariant-parts l =
    (l.lines.items ++ flat_map part_text (drop l.part-index l.part-items) ≡ flat_map part_text l.opening.parts)
    × (fold (λ n (p : Part). n + (1 + length p.table)) l.count (drop l.part-index l.part-items) ≡ lines_of_parts l.opening.parts)
