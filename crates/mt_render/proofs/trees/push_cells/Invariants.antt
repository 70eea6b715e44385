use Rattle.std.proofs.Common.{◌≡◌, [], ◌++◌, map, drop}
use Rattle.mt_render.specs.Trees.{cells}
use Rattle.mt_render.specs.Steps.{unrolled}
use Rattle.mt_render.specs.Leads.{IsBarred}
use Rattle.mt_render.proofs.trees.push_cells.Given as goal

-- what was appended, and what is to come from where the path has come to
abbrev pub invariant-steps : goal.invariant-steps
invariant-steps l = record {
  lines : l.lines.items ++ map (cells l.fn.strokes) (unrolled l.path.lasts.items (drop l.step-index l.steps)) ≡ l.initial.lines.items ++ map (cells l.fn.strokes) (unrolled [] l.steps);
  strokes : l.path.strokes ≡ l.fn.strokes;
  barred : IsBarred l.path;
}
