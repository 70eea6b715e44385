use Rattle.std.proofs.Common.{◌∙◌, set, sym, ap, arith}
use Rattle.std.proofs.lemmas.List.Edits.{map_over_more}
use Rattle.mt_floor.specs.Rows.{row_after_stop}
use Rattle.mt_floor.proofs.rows.end_all.Goals as goal

pub loop-row-preserved : goal.loop-row-preserved
loop-row-preserved c =
    let at = c.loop-row in
    ap (set at.row-items at.row-index) (c.end.ensures ∙ ap row_after_stop (sym c.row-item.is)) ∙ map_over_more row_after_stop c.deref_mut-row-items.result.now at.row-items at.row-index c.row-item.result (omega arith) at.invariant c.row-item.is
