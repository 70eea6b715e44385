use Rattle.std.proofs.Common.{ap, ◌∙◌, arith}
use Rattle.mt_lists.specs.Lists.{with_number}
use Rattle.mt_info.specs.Table.{row_id}
use Rattle.mt_render.specs.Steps.{other_parent}
use Rattle.mt_render.proofs.EnteredLaws.{not_entered, entered}
use Rattle.mt_render.proofs.children.enter_parents.Goals as goal

pub enter-requires-clause-absent : goal.enter-requires-clause-absent
enter-requires-clause-absent c = not_entered row_id other_parent c.args.rows.now c.rows.row-index c.row-item.result c.rows.parents.rows c.rows-test.true c.row-item.is c.requires.rising c.rows.invariant.told

pub rows-preserved : goal.rows-preserved
rows-preserved c = record {
  told =
      entered row_id other_parent c.args.rows.now c.rows.row-index c.row-item.result c.rows.parents.rows c.enter.new.self.rows c.rows-test.true c.row-item.is c.requires.rising c.rows.invariant.told
      (c.enter.ensures.rows ∙ ap (λ o. with_number c.row-item.result.id o c.rows.parents.rows) c.other_parent.ensures);
  room = omega (arith, c.enter.ensures.room, c.rows.invariant.room);
}
