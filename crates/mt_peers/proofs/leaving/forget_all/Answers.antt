use Rattle.std.proofs.Common.{sym, ◌∙◌, arith}
use Rattle.mt_peers.proofs.GoingLaws.{forget-step, forget-end}
use Rattle.mt_peers.proofs.leaving.forget_all.Goals as goal

pub loop-id-preserved : goal.loop-id-preserved
loop-id-preserved c = record {
  told = forget-step c.args.ids.now c.loop-id.id-index 0 c.loop-id.lists.rows c.remove.new.self.rows c.loop-id-test.true c.remove.ensures.rows ∙ c.loop-id.invariant.told;
  room = omega (arith, c.remove.ensures.room, c.loop-id.invariant.room);
}

pub returns-clause-rows : goal.returns-clause-rows
returns-clause-rows c = sym (forget-end c.args.ids.now c.loop-id.id-index c.loop-id.lists.rows c.loop-id-test.false) ∙ c.loop-id.invariant.told
