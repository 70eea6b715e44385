use Rattle.std.proofs.Common.{map}
use Rattle.mt_mounts.specs.Forest.{id_of}
use Rattle.mt_propagate.specs.World.{world_view}
use Rattle.mt_propagate.proofs.PlannedLaws.{pushed-step}
use Rattle.mt_bind.specs.Copying.{copy_of}
use Rattle.mt_bind.proofs.copying.copies.Goals as goal

pub loop-mount-preserved : goal.loop-mount-preserved
loop-mount-preserved c =
    pushed-step (copy_of (world_view c.args.world.now) (map id_of c.args.originals.now)) c.args.originals.now c.loop-mount.mount-index _
    c.loop-mount.copies.items c.push.new.self.items _ c.copy_of.result c.loop-mount-test.true c.loop-mount.invariant c.copy_of.ensures c.in_ok-push.ensures.items
