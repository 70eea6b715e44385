use Rattle.std.proofs.Common.{◌≡◌, ◌++◌, drop}
use Rattle.std.specs.List.{flat_map}
use Rattle.mt_questions.specs.ReachText.{between_words}
use Rattle.mt_questions.proofs.copy_text.push_all_between.Given as goal

-- the words appended, and those to come
abbrev pub invariant-groups : goal.invariant-groups
invariant-groups l = l.text.items ++ flat_map (between_words l.tables) (drop l.group-index l.groups) ≡ l.initial.text.items ++ flat_map (between_words l.tables) l.groups
