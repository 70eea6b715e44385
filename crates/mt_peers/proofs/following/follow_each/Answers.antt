use Rattle.mt_mounts.proofs.StepLaws.{alike_end}
use Rattle.mt_peers.specs.Peers.{state_at}
use Rattle.mt_peers.specs.Entries.{now_peers}
use Rattle.mt_peers.proofs.SinceLaws.{same_states}
use Rattle.mt_peers.proofs.following.follow_each.Goals as goal

pub returns : goal.returns
returns c = record {
  peers =
      same_states (now_peers c.loop-id.entries.items) (now_peers c.args.others.now) c.loop-id.invariant.rising c.requires.others_rising
      (alike_end c.args.ids.now (state_at (now_peers c.loop-id.entries.items)) (state_at (now_peers c.args.others.now)) c.loop-id.id-index c.loop-id-test.false c.loop-id.invariant.alike);
}
