use Rattle.std.proofs.Common.{◌≡◌, ◌++◌, drop}
use Rattle.std.specs.List.{flat_map}
use Rattle.mt_questions.specs.ReachText.{apart_lines_of}
use Rattle.mt_questions.proofs.apart_text.push_each_apart.Given as goal

-- the words appended, and those to come
abbrev pub invariant-apart : goal.invariant-apart
invariant-apart l = l.text.items ++ flat_map (apart_lines_of l.tables l.directory l.place) (drop l.one-index l.apart) ≡ l.initial.text.items ++ flat_map (apart_lines_of l.tables l.directory l.place) l.apart
