use Rattle.mt_unmount.proofs.HoldingLaws.{inserted-next}
use Rattle.mt_unmount.proofs.holding.started.Goals as goal

pub loop-id-preserved : goal.loop-id-preserved
loop-id-preserved c = inserted-next c.loop-id.set.keys c.insert.new.self.keys c.args.ids.now c.loop-id.id-index c.loop-id-test.true c.in_ok-insert.ensures.keys c.loop-id.invariant
