use Rattle.std.proofs.Common.{◌≡◌, ◌++◌, length}
use Rattle.std.specs.List.{flat_map}
use Rattle.mt_help.specs.Pages.{indented}
use Rattle.mt_help.proofs.page.push_lines.Given as goal

-- the lines appended, and those to come
abbrev pub invariant-lines : goal.invariant-lines
invariant-lines l = l.text.items ++ flat_map indented l.pieces ≡ l.initial.text.items ++ flat_map indented l.initial.pieces

abbrev pub decreases-lines : goal.decreases-lines
decreases-lines l = length l.pieces
