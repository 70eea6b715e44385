use Rattle.std.proofs.Common.{sym, ap, ◌∙◌}
use Rattle.mt_terminal.specs.Terminal.{cells_of_text}
use Rattle.mt_render.specs.Leads.{bars}
use Rattle.mt_render.proofs.LeadLaws.{no_cells}
use Rattle.mt_render.proofs.leads.Path.new.Goals as goal

pub returns-clause-barred : goal.returns-clause-barred
returns-clause-barred c = record {
  bars_told = c.new-2.ensures.items ∙ ap (bars c.args.strokes) (sym c.new.ensures.items);
  width_told = sym no_cells ∙ ap cells_of_text (sym c.new-2.ensures.items);
}
