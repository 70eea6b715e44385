use Rattle.std.proofs.Common.{◌≡◌, ◌++◌, drop}
use Rattle.mt_what_if.specs.Gathered.{rows_in_table}
use Rattle.mt_what_if.proofs.gathered.Gathered.push_rows.Given as goal

-- the rows added, and those to come
abbrev pub invariant-rows : goal.invariant-rows
invariant-rows l =
    l.self.rows.items ++ rows_in_table l.space (drop l.row l.rows) ≡ l.initial.self.rows.items ++ rows_in_table l.space l.rows
