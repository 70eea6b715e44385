use Rattle.std.proofs.Common.{arith}
use Rattle.mt_skel.proofs.CountLaws.{length-of-map}
use Rattle.mt_peers.specs.Entries.{was_peer, now_peers, was_peers}
use Rattle.mt_peers.proofs.ChangeLaws.{settle-step}
use Rattle.mt_peers.proofs.settling.settle_all.Goals as goal

pub loop-i-preserved : goal.loop-i-preserved
loop-i-preserved c =
    let es = c.args.entries.now in
    let heir =
    c.heir_of-heir.ensures.heir (was_peers es) (now_peers es) c.requires.listed c.loop-i.invariant.vanished (length-of-map was_peer es) c.loop-i.invariant.known in
    record {
      entries = settle-step es c.loop-i.entries c.loop-i.i _ c.heir_of-heir.result (omega arith) c.loop-i.auto.entries c.loop-i.invariant.entries heir;
      known = heir;
      vanished = c.heir_of-heir.ensures.kept (was_peers es) (now_peers es) c.requires.listed c.loop-i.invariant.vanished;
      near = c.heir_of-heir.ensures.near;
      room = omega (arith, c.loop-i.invariant.room, c.heir_of-heir.ensures.room);
    }
