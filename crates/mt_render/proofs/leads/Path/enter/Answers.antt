use Rattle.std.proofs.Common.{ℕ, List, ◌++◌, sym, ap, ◌∙◌, arith}
use Rattle.mt_terminal.specs.Terminal.{cells_of_text}
use Rattle.mt_render.specs.Leads.{bars}
use Rattle.mt_render.proofs.CellLaws.{few_cells}
use Rattle.mt_render.proofs.LeadLaws.{gone_down}
use Rattle.mt_render.proofs.leads.Path.enter.Goals as goal

pub overflow_add-self : goal.overflow_add-self
overflow_add-self c =
    let path = c.args.self.now in
    let down =
    gone_down path.strokes path.lasts.items c.args.is_last path.bars.items c.extend_from_slice.new.self.items path.width c.cells_of_text.result c.requires.barred.bars_told c.requires.barred.width_told
    (c.cells_of_text.ensures ∙ ap cells_of_text c.piece_below-piece.ensures) (c.in_ok-extend_from_slice.ensures.items ∙ ap (λ (p : List ℕ). path.bars.items ++ p) c.piece_below-piece.ensures) in
    let small = c.as_slice-bars.type_inv.1 in
    omega (arith, small, c.as_slice-bars.ensures.len, few_cells c.extend_from_slice.new.self.items, down.1)

pub returns-clause-barred : goal.returns-clause-barred
returns-clause-barred c =
    let path = c.args.self.now in
    let down =
    gone_down path.strokes path.lasts.items c.args.is_last path.bars.items c.extend_from_slice.new.self.items path.width c.cells_of_text.result c.requires.barred.bars_told c.requires.barred.width_told
    (c.cells_of_text.ensures ∙ ap cells_of_text c.piece_below-piece.ensures) (c.in_ok-extend_from_slice.ensures.items ∙ ap (λ (p : List ℕ). path.bars.items ++ p) c.piece_below-piece.ensures) in
    record {
      bars_told = down.0 ∙ ap (bars path.strokes) (sym c.in_ok-push.ensures.items);
      width_told = down.1;
    }
