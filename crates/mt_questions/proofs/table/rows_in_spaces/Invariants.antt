use Rattle.std.proofs.Common.{◌≡◌, ◌++◌, map, drop}
use Rattle.std.specs.List.{flat_map}
use Rattle.mt_questions.specs.Tables.{rows_in_space}
use Rattle.mt_questions.proofs.table.rows_in_spaces.Given as goal

-- the rows of the namespaces passed, and of those to come
abbrev pub invariant-names : goal.invariant-names
invariant-names l =
    map (λ row. row.now) l.found.items ++ flat_map (rows_in_space l.rows) (drop l.name-index l.names) ≡ flat_map (rows_in_space l.rows) l.names
