use Rattle.std.proofs.Common.{◌∙◌}
use Rattle.mt_render.proofs.LineLaws.{one_line}
use Rattle.mt_render.proofs.trees.push_cells.Goals as goal

pub steps-preserved : goal.steps-preserved
steps-preserved c = record {
  lines =
      one_line c.args.strokes c.steps.path.strokes c.steps.path.lasts.items c.cells_of.new.path.lasts.items c.args.steps.now c.steps.step-index c.step-item.result c.in_ok-cells_of.field-0 c.steps.lines.items c.push.new.self.items
      c.steps-test.true c.step-item.is c.steps.invariant.strokes c.in_ok-cells_of.ensures.cells c.in_ok-cells_of.ensures.path.lasts_told c.in_ok-push.ensures.items
      ∙ c.steps.invariant.lines;
  strokes = c.in_ok-cells_of.ensures.path.strokes_kept ∙ c.steps.invariant.strokes;
  barred = c.in_ok-cells_of.ensures.path.barred;
}
