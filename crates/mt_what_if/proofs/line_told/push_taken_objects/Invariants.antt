use Rattle.std.proofs.Common.{◌≡◌, ◌++◌, length}
use Rattle.std.specs.List.{flat_map}
use Rattle.mt_what_if.specs.LinesTold.{taken_piece}
use Rattle.mt_what_if.proofs.line_told.push_taken_objects.Given as goal

-- the objects appended, and those to come
abbrev pub invariant-lines : goal.invariant-lines
invariant-lines l = l.text.items ++ flat_map taken_piece l.lines ≡ l.initial.text.items ++ flat_map taken_piece l.initial.lines

abbrev pub decreases-lines : goal.decreases-lines
decreases-lines l = length l.lines
