use Rattle.std.proofs.Common.{ℕ, List, ◌++◌, ap, ◌∙◌, arith}
use Rattle.mt_render.proofs.LeadLaws.{lead_pushed, lead_wide, lead_fits}
use Rattle.mt_render.proofs.leads.Path.push_child.Goals as goal

pub overflow_add-width : goal.overflow_add-width
overflow_add-width c =
    let path = c.rise.new.self in
    let fits =
    lead_fits path.strokes path.lasts.items c.args.is_last c.args.text.now.items c.extend_from_slice.new.self.items c.extend_from_slice-2.new.self.items path.bars.items c.own_piece-piece.result.now path.width c.cells_of_text.result
    c.rise.ensures.barred.bars_told c.rise.ensures.barred.width_told c.own_piece-piece.ensures c.cells_of_text.ensures
    (c.in_ok-extend_from_slice.ensures.items ∙ ap (λ (b : List ℕ). c.args.text.now.items ++ b) c.deref.ensures.value) c.in_ok-extend_from_slice-2.ensures.items in
    let small = c.as_slice-text.type_inv.1 in
    omega (arith, small, c.as_slice-text.ensures.len, fits)

pub returns-clause-text : goal.returns-clause-text
returns-clause-text c =
    let path = c.rise.new.self in
    lead_pushed path.strokes c.args.self.now.strokes path.lasts.items _ c.args.is_last c.args.text.now.items c.extend_from_slice.new.self.items c.extend_from_slice-2.new.self.items path.bars.items c.own_piece-piece.result.now
    c.rise.ensures.barred.bars_told c.own_piece-piece.ensures (c.in_ok-extend_from_slice.ensures.items ∙ ap (λ (b : List ℕ). c.args.text.now.items ++ b) c.deref.ensures.value)
    c.in_ok-extend_from_slice-2.ensures.items c.rise.ensures.strokes c.rise.ensures.lasts

pub returns-clause-width : goal.returns-clause-width
returns-clause-width c =
    let path = c.rise.new.self in
    lead_wide path.strokes c.args.self.now.strokes path.lasts.items _ c.args.is_last path.bars.items c.own_piece-piece.result.now path.width c.cells_of_text.result c.rise.ensures.barred.bars_told c.rise.ensures.barred.width_told
    c.own_piece-piece.ensures c.cells_of_text.ensures c.rise.ensures.strokes c.rise.ensures.lasts
