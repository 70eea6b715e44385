use Rattle.std.proofs.Common.{◌≡◌, ◌+◌, ◌++◌, true, length}
use Rattle.std.specs.List.{filter_map}
use Rattle.std.specs.Option.{IfSome}
use Rattle.mt_skel.specs.Keyed.{among}
use Rattle.mt_peers.specs.Peers.{slaves}
use Rattle.mt_peers.specs.Members.{group_at}
use Rattle.mt_peers.specs.Entered.{entered, collected_slave}
use Rattle.mt_lists.proofs.WalkLaws.{rest_from}
use Rattle.mt_propagate.specs.World.{world_view}
use Rattle.mt_propagate.specs.Targets.{is_target}
use Rattle.mt_propagate.proofs.receivers.slaves_met.Given as goal

-- the targets among the slaves passed are found, their groups were entered, and each was looked at
abbrev pub invariant-slaves : goal.invariant-slaves
invariant-slaves l = record {
  inside : IfSome l.next (λ i. among (slaves l.world.peers.peers l.master) i ≡ true);
  ids : l.ids.items ++ filter_map (λ i. collected_slave (is_target (world_view l.world) l.place) l.group i (group_at l.world.peers.peers i)) (rest_from l.next (slaves l.world.peers.peers l.master)) ≡ l.initial.ids.items ++ filter_map (λ i. collected_slave (is_target (world_view l.world) l.place) l.group i (group_at l.world.peers.peers i)) (slaves l.world.peers.peers l.master);
  groups : l.groups.items ++ filter_map (λ i. entered l.world.peers.peers l.group i (group_at l.world.peers.peers i)) (rest_from l.next (slaves l.world.peers.peers l.master)) ≡ l.initial.groups.items ++ filter_map (λ i. entered l.world.peers.peers l.group i (group_at l.world.peers.peers i)) (slaves l.world.peers.peers l.master);
  looks : l.looks + length (rest_from l.next (slaves l.world.peers.peers l.master)) ≡ l.initial.looks + length (slaves l.world.peers.peers l.master);
}

abbrev pub decreases-slaves : goal.decreases-slaves
decreases-slaves l = length (rest_from l.next (slaves l.world.peers.peers l.master))
