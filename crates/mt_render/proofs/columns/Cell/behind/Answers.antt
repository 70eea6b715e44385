use Rattle.std.proofs.Common.{arith}
use Rattle.mt_render.proofs.CellLaws.{few_cells}
use Rattle.mt_render.proofs.columns.Cell.behind.Goals as goal

pub overflow_add-width : goal.overflow_add-width
overflow_add-width c =
    let small = c.as_slice-text.type_inv.1 in
    omega (arith, small, c.as_slice-text.ensures.len, few_cells c.args.text.items, c.requires, c.cells_of_text.ensures)
