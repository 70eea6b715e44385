use Rattle.std.proofs.Common.{◌≡◌, ◌++◌, suc, map, drop, Some}
use Rattle.mt_questions.specs.Seeing.{told_rows, told_rows_from}
use Rattle.mt_questions.proofs.seeing.all_rows.Given as goal

-- the rows of the tables passed, and of those to come
abbrev pub invariant-tables : goal.invariant-tables
invariant-tables l = record {
  count : l.number ≡ l.table-index;
  rows : map (λ r. Some r) l.rows.items ++ told_rows_from (suc l.table-index) (drop l.table-index l.tables) ≡ told_rows l.tables;
}
