use Rattle.std.proofs.Common.{get_or, refl}
use Rattle.mt_skel.proofs.RisingLaws.{after_kept}
use Rattle.mt_skel.proofs.list.are_rising.Goals as goal

pub numbers-preserved : goal.numbers-preserved
numbers-preserved c =
    after_kept (λ k. k) c.numbers.last c.numbers.number-index (get_or c.args.numbers.now c.numbers.number-index 0) 0 c.args.numbers.now refl c.numbers-test.true c.numbers.invariant c.if-not-is_above.ensures
