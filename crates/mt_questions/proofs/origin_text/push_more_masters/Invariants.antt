use Rattle.std.proofs.Common.{◌≡◌, ◌++◌, drop}
use Rattle.std.specs.List.{flat_map}
use Rattle.mt_questions.specs.OriginText.{upper_line}
use Rattle.mt_questions.proofs.origin_text.push_more_masters.Given as goal

-- the words appended, and those to come
abbrev pub invariant-groups : goal.invariant-groups
invariant-groups l = l.text.items ++ flat_map (upper_line l.tables) (drop l.group-index l.groups) ≡ l.initial.text.items ++ flat_map (upper_line l.tables) l.groups
