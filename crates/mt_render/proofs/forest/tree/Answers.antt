use Rattle.mt_render.proofs.StepLaws.{tree_end}
use Rattle.mt_render.proofs.forest.tree.Goals as goal

pub returns : goal.returns
returns c = tree_end c.rows-rows.result.now c.args.children.now c.rows.row-index c.rows.drawn.items c.rows-rows.ensures.rows c.rows-test.false c.rows.invariant
