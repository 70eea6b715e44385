use Rattle.std.proofs.Common.{◌≡◌, ◌++◌, map, drop, Some}
use Rattle.mt_questions.specs.Seeing.{told_row}
use Rattle.mt_questions.proofs.seeing.push_table.Given as goal

-- the rows of the lines passed, and of those to come
abbrev pub invariant-lines : goal.invariant-lines
invariant-lines l = record {
  count : l.line ≡ l.told-index;
  rows : map (λ r. Some r) l.rows.items ++ map (told_row l.space) (drop l.told-index l.lines) ≡ map (λ r. Some r) l.initial.rows.items ++ map (told_row l.space) l.lines;
}
