use Rattle.std.proofs.Common.{◌≤◌, ◌+◌, drop}
use Rattle.mt_lists.specs.Lists.{listed_number}
use Rattle.mt_lists.specs.Log.{AreAlikeBut}
use Rattle.mt_peers.specs.Entries.{now_peers}
use Rattle.mt_peers.specs.Members.{group_at, master_at}
use Rattle.mt_peers.proofs.following.follow_lists.Given as goal

abbrev pub invariant-loop-id : goal.invariant-loop-id
invariant-loop-id l = record {
  groups : AreAlikeBut (drop l.id-index l.ids) (listed_number l.members.rows) (group_at (now_peers l.others));
  masters : AreAlikeBut (drop l.id-index l.ids) (listed_number l.slaves.rows) (master_at (now_peers l.others));
  members_room : l.initial.members.room ≤ l.members.room + l.id-index;
  slaves_room : l.initial.slaves.room ≤ l.slaves.room + l.id-index;
}
