use Rattle.mt_skel.proofs.KeyedLaws.{same_rows}
use Rattle.mt_mounts.specs.Forest.{id_of, mount_at}
use Rattle.mt_mounts.proofs.StepLaws.{alike_end}
use Rattle.mt_mounts.proofs.forest.Forest.take_all_in.Goals as goal

pub returns : goal.returns
returns c = record {
  mounts =
      same_rows id_of c.loop-id.self.mounts c.args.other.now.mounts c.known.ensures.rising c.known-2.ensures.rising
      (alike_end c.args.ids.now (mount_at c.loop-id.self.mounts) (mount_at c.args.other.now.mounts) c.loop-id.id-index c.loop-id-test.false c.loop-id.invariant.alike);
}
