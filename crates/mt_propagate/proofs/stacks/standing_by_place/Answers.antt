use Rattle.std.proofs.Common.{arith}
use Rattle.indexmap.specs.IndexMap.{get}
use Rattle.mt_mounts.specs.Forest.{place_eq}
use Rattle.mt_propagate.proofs.StandingLaws.{standing-step, standing-all}
use Rattle.mt_propagate.proofs.stacks.standing_by_place.Goals as goal

pub loop-mount-preserved : goal.loop-mount-preserved
loop-mount-preserved c =
    standing-step c.args.mounts.now c.loop-mount.mount-index (get place_eq c.loop-mount.standing) c.loop-mount.invariant _ (get place_eq c.add_standing.new.standing) c.loop-mount-test.true
    c.in_ok-add_standing.ensures.standing

pub returns-clause-standing : goal.returns-clause-standing
returns-clause-standing c = standing-all c.args.mounts.now c.loop-mount.mount-index (get place_eq c.loop-mount.standing) c.loop-mount.invariant (omega (arith, c.loop-mount-test.false))
