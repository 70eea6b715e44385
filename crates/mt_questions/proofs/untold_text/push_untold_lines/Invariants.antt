use Rattle.std.proofs.Common.{◌≡◌, ◌++◌, drop}
use Rattle.std.specs.List.{flat_map}
use Rattle.mt_questions.specs.ReachText.{untold_line}
use Rattle.mt_questions.proofs.untold_text.push_untold_lines.Given as goal

-- the words appended, and those to come
abbrev pub invariant-untold : goal.invariant-untold
invariant-untold l = l.text.items ++ flat_map (untold_line l.tables) (drop l.one-index l.untold) ≡ l.initial.text.items ++ flat_map (untold_line l.tables) l.untold
