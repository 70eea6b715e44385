use Rattle.std.proofs.Common.{◌≡◌, ◌++◌, length}
use Rattle.std.specs.List.{flat_map}
use Rattle.mt_what_if.specs.Steps.{note_line}
use Rattle.mt_what_if.proofs.steps.note_of_taken.Given as goal

-- the lines appended, and those to come
abbrev pub invariant-lines : goal.invariant-lines
invariant-lines l = l.note.items ++ flat_map note_line l.lines ≡ flat_map note_line l.initial.lines

abbrev pub decreases-lines : goal.decreases-lines
decreases-lines l = length l.lines
