use Rattle.std.proofs.Common.{◌≡◌, ◌≤◌, ◌+◌, IsTrue, drop, vec_len, vec_capacity}
use Rattle.mt_skel.specs.Keyed.{rises}
use Rattle.mt_lists.specs.Log.{AreAlikeBut}
use Rattle.mt_peers.specs.Peers.{mount_of, state_at}
use Rattle.mt_peers.specs.Entries.{now_peers}
use Rattle.mt_peers.proofs.following.follow_each.Given as goal

abbrev pub invariant-loop-id : goal.invariant-loop-id
invariant-loop-id l = record {
  rising : IsTrue (rises mount_of (now_peers l.entries.items));
  alike : AreAlikeBut (drop l.id-index l.ids) (state_at (now_peers l.entries.items)) (state_at (now_peers l.others));
  len : vec_len l.entries ≤ vec_len l.initial.entries + l.id-index;
  capacity : vec_capacity l.entries ≡ vec_capacity l.initial.entries;
}
