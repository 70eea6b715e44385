use Rattle.std.proofs.Common.{arith, ◌∙◌}
use Rattle.mt_propagate.proofs.StayingLaws.{staying-step, staying-end}
use Rattle.mt_propagate.proofs.carry.remove_all.Goals as goal

pub loop-id-preserved : goal.loop-id-preserved
loop-id-preserved c = record {
  left = staying-step c.args.ids.now c.loop-id.id-index 0 c.loop-id.forest.mounts c.remove.new.self.mounts _ c.loop-id-test.true c.loop-id.invariant.left c.remove.ensures.mounts;
  room = omega (arith, c.loop-id.invariant.room, c.remove.ensures.room);
  since = c.remove.ensures.since ∙ c.loop-id.invariant.since;
}

pub returns-clause-mounts : goal.returns-clause-mounts
returns-clause-mounts c = staying-end c.args.ids.now c.loop-id.id-index c.loop-id.forest.mounts _ c.loop-id-test.false c.loop-id.invariant.left
