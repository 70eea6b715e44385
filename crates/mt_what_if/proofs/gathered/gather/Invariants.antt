use Rattle.std.proofs.Common.{◌≡◌, ◌+◌, ◌++◌, drop}
use Rattle.mt_what_if.specs.Gathered.{rows_gathered}
use Rattle.mt_what_if.proofs.gathered.gather.Given as goal

-- the rows added, and those to come
abbrev pub invariant-tables : goal.invariant-tables
invariant-tables l = l.gathered.rows.items ++ rows_gathered (l.table + 1) (drop l.table l.fn.tables) ≡ rows_gathered 1 l.fn.tables
