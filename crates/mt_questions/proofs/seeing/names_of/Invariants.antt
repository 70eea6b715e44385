use Rattle.std.proofs.Common.{◌≡◌, ◌++◌, suc, drop}
use Rattle.mt_questions.specs.Seeing.{names_from}
use Rattle.mt_questions.proofs.seeing.names_of.Given as goal

-- the names of the tables passed, and of those to come
abbrev pub invariant-tables : goal.invariant-tables
invariant-tables l = record {
  count : l.space ≡ l.table-index;
  names : l.names.items ++ names_from (suc l.table-index) (drop l.table-index l.tables) ≡ names_from 1 l.tables;
}
