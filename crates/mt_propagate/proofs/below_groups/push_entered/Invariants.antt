use Rattle.std.proofs.Common.{◌≡◌, ◌++◌, drop}
use Rattle.std.specs.List.{filter_map}
use Rattle.mt_peers.specs.Members.{group_at}
use Rattle.mt_peers.specs.Entered.{entered}
use Rattle.mt_propagate.proofs.below_groups.push_entered.Given as goal

-- the groups entered at the slaves passed were appended
abbrev pub invariant-slaves : goal.invariant-slaves
invariant-slaves l =
    l.groups.items ++ filter_map (λ i. entered l.world.peers.peers l.start i (group_at l.world.peers.peers i)) (drop l.id-index l.slaves)
    ≡ l.initial.groups.items ++ filter_map (λ i. entered l.world.peers.peers l.start i (group_at l.world.peers.peers i)) l.slaves
