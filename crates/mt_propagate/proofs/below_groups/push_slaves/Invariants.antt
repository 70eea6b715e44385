use Rattle.std.proofs.Common.{◌≡◌, ◌++◌, drop}
use Rattle.std.specs.List.{flat_map}
use Rattle.mt_peers.specs.Peers.{slaves}
use Rattle.mt_propagate.proofs.below_groups.push_slaves.Given as goal

-- the slaves of the groups passed were appended
abbrev pub invariant-groups : goal.invariant-groups
invariant-groups l = l.ids.items ++ flat_map (slaves l.world.peers.peers) (drop l.group-index l.groups) ≡ l.initial.ids.items ++ flat_map (slaves l.world.peers.peers) l.groups
