use Rattle.std.proofs.Common.{ℕ, ◌-◌, List, take, length, sym, ap, ◌∙◌, arith}
use Rattle.mt_terminal.specs.Terminal.{cells_of_text}
use Rattle.mt_render.specs.Leads.{bars}
use Rattle.mt_render.proofs.LeadLaws.{bars_left, piece_fits, gone_up}
use Rattle.mt_render.proofs.leads.Path.leave.Goals as goal

pub overflow_sub-rest : goal.overflow_sub-rest
overflow_sub-rest c =
    let path = c.args.self.now in
    let fits = piece_fits path.strokes c.pop.new.self.items c.in-Some.is_last path.bars.items (c.requires.barred.bars_told ∙ ap (bars path.strokes) c.in-Some.ensures.items) in
    let same = ap (λ (t : List ℕ). length t) c.as_slice-bars.ensures.value in
    let own = ap (λ (t : List ℕ). length t) c.piece_below-piece.ensures in
    omega (arith, fits, same, own)

pub overflow_sub-self : goal.overflow_sub-self
overflow_sub-self c =
    let path = c.args.self.now in
    let up =
    gone_up path.strokes c.pop.new.self.items c.in-Some.is_last path.bars.items path.width c.cells_of_text.result (c.requires.barred.bars_told ∙ ap (bars path.strokes) c.in-Some.ensures.items) c.requires.barred.width_told
    (c.cells_of_text.ensures ∙ ap cells_of_text c.piece_below-piece.ensures) in
    omega (arith, up)

pub returns-in-Some-clause-barred : goal.returns-in-Some-clause-barred
returns-in-Some-clause-barred c =
    let path = c.args.self.now in
    let told = c.requires.barred.bars_told ∙ ap (bars path.strokes) c.in-Some.ensures.items in
    let up =
    gone_up path.strokes c.pop.new.self.items c.in-Some.is_last path.bars.items path.width c.cells_of_text.result told c.requires.barred.width_told
    (c.cells_of_text.ensures ∙ ap cells_of_text c.piece_below-piece.ensures) in
    let left =
    c.truncate.ensures.items ∙ ap (λ (t : List ℕ). take (length t - length c.piece_below-piece.result.now) path.bars.items) c.as_slice-bars.ensures.value
    ∙ ap (λ (p : List ℕ). take (length path.bars.items - length p) path.bars.items) c.piece_below-piece.ensures ∙ bars_left path.strokes c.pop.new.self.items c.in-Some.is_last path.bars.items told in
    let same = ap cells_of_text left in
    record {
      bars_told = left;
      width_told = omega (arith, up, same);
    }
