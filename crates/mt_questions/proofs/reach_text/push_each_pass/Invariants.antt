use Rattle.std.proofs.Common.{◌≡◌, ◌++◌, drop}
use Rattle.std.specs.List.{flat_map}
use Rattle.mt_questions.specs.ReachText.{pass_lines}
use Rattle.mt_questions.proofs.reach_text.push_each_pass.Given as goal

-- the words appended, and those to come
abbrev pub invariant-ids : goal.invariant-ids
invariant-ids l = l.text.items ++ flat_map (pass_lines l.tables) (drop l.id-index l.ids) ≡ l.initial.text.items ++ flat_map (pass_lines l.tables) l.ids
