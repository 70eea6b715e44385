use Rattle.std.proofs.Common.{◌≡◌, ◌+◌, ◌++◌, true, length}
use Rattle.std.specs.List.{filter_map}
use Rattle.std.specs.Option.{IfSome}
use Rattle.mt_skel.specs.Keyed.{among}
use Rattle.mt_peers.specs.Peers.{members}
use Rattle.mt_lists.proofs.WalkLaws.{rest_from}
use Rattle.mt_propagate.specs.World.{world_view}
use Rattle.mt_propagate.specs.Targets.{target}
use Rattle.mt_propagate.proofs.receivers.members_met.Given as goal

-- the targets among the members passed are found, and each was looked at
abbrev pub invariant-members : goal.invariant-members
invariant-members l = record {
  inside : IfSome l.next (λ i. among (members l.world.peers.peers l.group) i ≡ true);
  ids : l.ids.items ++ filter_map (target (world_view l.world) l.place) (rest_from l.next (members l.world.peers.peers l.group)) ≡ l.initial.ids.items ++ filter_map (target (world_view l.world) l.place) (members l.world.peers.peers l.group);
  looks : l.looks + length (rest_from l.next (members l.world.peers.peers l.group)) ≡ l.initial.looks + length (members l.world.peers.peers l.group);
}

abbrev pub decreases-members : goal.decreases-members
decreases-members l = length (rest_from l.next (members l.world.peers.peers l.group))
