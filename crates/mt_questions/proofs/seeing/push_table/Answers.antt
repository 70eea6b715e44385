use Rattle.mt_questions.proofs.UnreadLaws.{unread_line}
use Rattle.mt_questions.proofs.seeing.push_table.Goals as goal

pub returns-in_default-clause-rows : goal.returns-in_default-clause-rows
returns-in_default-clause-rows c =
    unread_line c.args.space c.args.lines.now c.lines.line c.lines.told-index c.told-item.result c.in_ok-row.field-0 c.lines.invariant.count c.lines-test.true c.told-item.is c.in_ok-row.ensures.row
    c.in_default.is
