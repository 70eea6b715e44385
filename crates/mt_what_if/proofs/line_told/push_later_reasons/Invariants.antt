use Rattle.std.proofs.Common.{◌≡◌, ◌++◌, length}
use Rattle.std.specs.List.{flat_map}
use Rattle.mt_what_if.specs.LinesTold.{later_reason}
use Rattle.mt_what_if.proofs.line_told.push_later_reasons.Given as goal

-- what is told, and what is to come
abbrev pub invariant-lines : goal.invariant-lines
invariant-lines l = l.text.items ++ flat_map later_reason l.lines ≡ l.initial.text.items ++ flat_map later_reason l.initial.lines

abbrev pub decreases-lines : goal.decreases-lines
decreases-lines l = length l.lines
