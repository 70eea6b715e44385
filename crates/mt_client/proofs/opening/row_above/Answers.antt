use Rattle.std.proofs.Common.{rules}
use Rattle.mt_info.specs.Laws.{IsRow}
use Rattle.mt_info.specs.RowLine.{line}
use Rattle.mt_info.specs.Table.{row_id}
use Rattle.mt_info.proofs.RowLineLaws.{line-injective}
use Rattle.mt_client.proofs.RisingLaws.{none_above}
use Rattle.mt_client.proofs.opening.row_above.Goals as goal

pub returns-else-is_above-clause-refused : goal.returns-else-is_above-clause-refused
returns-else-is_above-clause-refused c is other valid above = none_above row_id line IsRow line-injective c.args.last c.args.text.now c.in_ok-row.row other c.in_ok-row.ensures.valid valid c.in_ok-row.ensures.row (search rules) above
