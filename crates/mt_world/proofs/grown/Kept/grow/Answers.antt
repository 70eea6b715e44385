use Rattle.std.proofs.Common.{length, ap, arith}
use Rattle.mt_world.proofs.grown.Kept.grow.Goals as goal

pub returns-then-len-clause-parentless : goal.returns-then-len-clause-parentless
returns-then-len-clause-parentless c k row w e =
    c.in_ok-later.ensures.parentless (omega (arith, c.if-len.true, c.len.ensures, c.len-in-rounds.ensures, ap length c.as_slice.ensures.value)) k row (c.in_ok-later.ensures.waiting k w) e
