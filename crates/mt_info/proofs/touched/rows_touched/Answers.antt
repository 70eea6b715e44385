use Rattle.std.proofs.Common.{◌∙◌, arith}
use Rattle.mt_mounts.specs.Forest.{subtree}
use Rattle.mt_propagate.specs.World.{world_view}
use Rattle.mt_info.specs.MayDiffer.{moves_first}
use Rattle.mt_info.proofs.AboveLaws.{firsts_suffice}
use Rattle.mt_info.proofs.OrderLaws.{among-all}
use Rattle.mt_info.proofs.touched.rows_touched.Goals as goal

pub returns-clause-rows : goal.returns-clause-rows
returns-clause-rows c j =
    c.in_order.ensures.same j
    ∙ among-all (moves_first (world_view c.args.before.now) (world_view c.args.after.now)) (subtree c.args.after.now.forest.mounts) c.args.touched.now c.mounts.rows.items c.mounts.id-index (omega (arith, c.mounts-test.false)) c.mounts.invariant j
    ∙ firsts_suffice (world_view c.args.before.now) (world_view c.args.after.now) c.args.touched.now c.requires.after c.requires.touched j
