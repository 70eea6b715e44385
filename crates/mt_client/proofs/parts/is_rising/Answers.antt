use Rattle.mt_client.proofs.OpeningLaws.{rising_kept}
use Rattle.mt_client.proofs.parts.is_rising.Goals as goal

pub parts-preserved : goal.parts-preserved
parts-preserved c =
    rising_kept c.parts.last c.parts.part-index c.part-item.result c.part-item.result c.space-space.result c.args.parts.now c.part-item.is c.parts-test.true c.parts.invariant c.space-space.ensures c.if-not-is_above.ensures
