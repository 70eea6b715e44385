use Rattle.std.proofs.Common.{◌≡◌, ◌++◌, drop}
use Rattle.std.specs.List.{flat_map}
use Rattle.mt_refused.specs.Parts.{piece_told}
use Rattle.mt_refused.proofs.part.push_parts.Given as goal

-- the pieces appended, and those to come
abbrev pub invariant-parts : goal.invariant-parts
invariant-parts l = l.text.items ++ flat_map (piece_told l.page) (drop l.part-index l.parts) ≡ l.initial.text.items ++ flat_map (piece_told l.page) l.parts
