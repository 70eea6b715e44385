use Rattle.std.proofs.Common.{◌≤◌, ◌+◌, [], drop}
use Rattle.mt_lists.specs.Log.{AreAlikeBut}
use Rattle.mt_mounts.specs.Forest.{mount_at}
use Rattle.mt_mounts.specs.Follow.{IsPartOf}
use Rattle.mt_mounts.proofs.forest.Forest.take_all_in.Given as goal

abbrev pub invariant-loop-id : goal.invariant-loop-id
invariant-loop-id l = record {
  part : IsPartOf [] (mount_at l.self.mounts) (mount_at l.other.mounts);
  alike : AreAlikeBut (drop l.id-index l.ids) (mount_at l.self.mounts) (mount_at l.other.mounts);
  room : l.initial.self.room ≤ l.self.room + l.id-index;
}
