use Rattle.std.proofs.Common.{◌≡◌, ◌++◌, length}
use Rattle.std.specs.List.{flat_map}
use Rattle.mt_transcript.specs.Told.{other_line}
use Rattle.mt_transcript.proofs.told.other_answer.Given as goal

-- the lines appended, and those to come
abbrev pub invariant-lines : goal.invariant-lines
invariant-lines l = l.text.items ++ flat_map other_line l.lines ≡ flat_map other_line l.initial.lines

abbrev pub decreases-lines : goal.decreases-lines
decreases-lines l = length l.lines
