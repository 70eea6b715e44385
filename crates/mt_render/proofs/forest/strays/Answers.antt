use Rattle.mt_render.proofs.StepLaws.{strays_end}
use Rattle.mt_render.proofs.forest.strays.Goals as goal

pub returns : goal.returns
returns c = strays_end c.rows-rows.result.now c.args.children.now c.rows.row-index c.args.drawn.now c.rows.others.items c.rows-rows.ensures.rows c.rows-test.false c.rows.invariant c.requires
