use Rattle.std.proofs.Common.{[]}
use Rattle.mt_info.specs.Laws.{IsRow}
use Rattle.mt_info.specs.RowLine.{line}
use Rattle.mt_info.specs.Table.{row_id}
use Rattle.mt_client.specs.Calls.{PassesOn}
use Rattle.mt_client.proofs.RisingLaws.{AreLinesTo}
use Rattle.mt_client.proofs.block.pass_rows.Given as goal

-- so many rows were passed on
abbrev pub invariant-rows : goal.invariant-rows
invariant-rows g l = record { passed : PassesOn g.O.Output [] (AreLinesTo row_id line IsRow l._row l.last) l.initial.lines l.lines l.initial.out l.out }
