use Rattle.std.proofs.Common.{subst, ap, ◌+◌, ◌∙◌}
use Rattle.mt_questions.specs.Tables.{ToldTable}
use Rattle.mt_questions.specs.Seeing.{IsUnreadIn}
use Rattle.mt_questions.proofs.UnreadLaws.{unread_table}
use Rattle.mt_questions.proofs.seeing.all_rows.Goals as goal

pub returns-in-Ok-Some-clause-refused : goal.returns-in-Ok-Some-clause-refused
returns-in-Ok-Some-clause-refused c =
    let u = rw c.in-Ok-Some.field-0-is at c.in-Ok-Some.ensures.rows in
    let same = c.as_slice.ensures.value ∙ ap (λ (t : ToldTable). t.rows) c.table.view_is in
    unread_table c.args.tables.now c.tables.number c.tables.table-index c.in-Ok-Some.line c.table-item.result c.tables.invariant.count c.tables-test.true c.table-item.is
    (subst (λ rows. IsUnreadIn (c.tables.number + 1) rows c.in-Ok-Some.line) same u)
