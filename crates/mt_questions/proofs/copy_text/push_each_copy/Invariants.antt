use Rattle.std.proofs.Common.{◌≡◌, ◌++◌, drop}
use Rattle.std.specs.List.{flat_map}
use Rattle.mt_questions.specs.ReachText.{copy_lines}
use Rattle.mt_questions.proofs.copy_text.push_each_copy.Given as goal

-- the words appended, and those to come
abbrev pub invariant-copies : goal.invariant-copies
invariant-copies l = l.text.items ++ flat_map (copy_lines l.tables l.place) (drop l.copy-index l.copies) ≡ l.initial.text.items ++ flat_map (copy_lines l.tables l.place) l.copies
