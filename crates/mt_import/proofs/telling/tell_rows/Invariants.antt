use Rattle.std.proofs.Common.{◌≡◌, ◌++◌, drop}
use Rattle.mt_import.specs.Telling.{rows_text}
use Rattle.mt_import.proofs.telling.tell_rows.Given as goal

-- what was appended and what is left are all
abbrev pub invariant-rows : goal.invariant-rows
invariant-rows l = l.script ++ rows_text l.table (drop l.row-index l.rows) l.others.rest.now ≡ l.initial.script ++ rows_text l.table l.rows l.left
