use Rattle.std.proofs.Common.{◌≡◌, ◌++◌, length}
use Rattle.std.specs.List.{flat_map}
use Rattle.mt_what_if.specs.LinesTold.{taken_line}
use Rattle.mt_what_if.proofs.line_told.push_all_taken.Given as goal

-- the lines appended, and those to come
abbrev pub invariant-lines : goal.invariant-lines
invariant-lines l = l.text.items ++ flat_map taken_line l.lines ≡ l.initial.text.items ++ flat_map taken_line l.initial.lines

abbrev pub decreases-lines : goal.decreases-lines
decreases-lines l = length l.lines
