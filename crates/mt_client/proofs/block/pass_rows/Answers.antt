use Rattle.std.proofs.Common.{◌≡◌, rules, subst}
use Rattle.mt_info.specs.Laws.{IsRow}
use Rattle.mt_info.specs.RowLine.{line}
use Rattle.mt_info.specs.Table.{row_id}
use Rattle.mt_info.proofs.RowLineLaws.{line-injective}
use Rattle.mt_client.specs.Awaited.{AreRowLines}
use Rattle.mt_client.proofs.RisingLaws.{no_lines, lines_join, lines_ended}
use Rattle.mt_client.proofs.CallLaws.{handed_on, passes_as, passes_read, passes_nothing, passes_both, pass_fault_behind}
use Rattle.mt_client.proofs.block.pass_rows.Goals as goal

pub rows-init : goal.rows-init
rows-init g c = record { passed = passes_nothing g.O.Output _ _ _ c.requires.fresh (no_lines row_id line IsRow) }

pub rows-preserved : goal.rows-preserved
rows-preserved g c = record { passed = passes_both (lines_join row_id line IsRow c.rows._row c.rows.last c.in_ok-pass_row.field-0) c.rows.invariant.passed c.in_ok-pass_row.ensures.passed }

pub returns-in_err-pass_row-clause-fault : goal.returns-in_err-pass_row-clause-fault
returns-in_err-pass_row-clause-fault g c =
    let p = c.rows.invariant.passed in
    handed_on _ _ _ c.from_residual.ensures.1 (pass_fault_behind p.read p.out (lines_ended row_id line IsRow line-injective c.rows._row c.args.count c.rows.last _ _ (passes_read p) c.rows-test.true) c.in_err-pass_row.ensures.fault)

pub returns-clause-passed : goal.returns-clause-passed
returns-clause-passed g c =
    let whole : c.rows._row ≡ c.args.count = search rules in
    passes_as (λ ls k. subst (λ n. AreRowLines n ls) whole k.0) c.rows.invariant.passed
