use Rattle.mt_info.specs.Laws.{IsRow}
use Rattle.mt_info.specs.RowLine.{line}
use Rattle.mt_info.specs.Table.{row_id}
use Rattle.mt_info.proofs.RowLineLaws.{line-injective}
use Rattle.mt_client.proofs.RisingLaws.{lines_short, many_more, valid_more, rising_more, follows_read, read_more}
use Rattle.mt_client.proofs.CallLaws.{handed_on, fault_behind}
use Rattle.mt_client.proofs.opening.read_rows.Goals as goal

pub rows-preserved : goal.rows-preserved
rows-preserved g c =
    let rows = c.rows.rows.items in
    let row = c.in_ok-row.row in
    let is = c.in_ok-push.ensures.items in
    let before = c.rows.invariant in
    record {
      many = many_more c.rows._row rows _ row is before.many;
      valid = valid_more IsRow rows _ row is before.valid c.in_ok-row.ensures.valid;
      rising = rising_more row_id c.rows.last rows _ row is before.follows c.in_ok-row.ensures.above;
      follows = follows_read row_id c.rows.last rows _ row is before.follows c.in_ok-row.ensures.above;
      read = read_more line rows _ row is before.read c.in_ok-row.ensures.row;
    }

pub returns-in_err-row-clause-fault : goal.returns-in_err-row-clause-fault
returns-in_err-row-clause-fault g c =
    handed_on _ _ _ c.from_residual.ensures.1
    (fault_behind c.rows.invariant.read.on (lines_short row_id line IsRow line-injective c.rows._row c.args.count c.rows.last c.rows.rows.items _ _ c.rows.invariant.read.came c.rows.invariant.many c.rows-test.true c.rows.invariant.valid c.rows.invariant.follows) (λ b. b) c.in_err-row.ensures.fault)
