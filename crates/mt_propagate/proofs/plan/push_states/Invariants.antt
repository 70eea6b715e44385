use Rattle.std.proofs.Common.{◌≡◌, ◌++◌, drop}
use Rattle.mt_peers.specs.Peers.{peers_of}
use Rattle.mt_propagate.specs.World.{world_view}
use Rattle.mt_propagate.specs.Planned.{peers_for}
use Rattle.mt_propagate.proofs.plan.push_states.Given as goal

-- the mounts passed have their copies
abbrev pub invariant-loop-mount : goal.invariant-loop-mount
invariant-loop-mount l =
    peers_of l.states.items
    ++ peers_for l.layout (world_view l.world) l.home l.keys l.groups (drop l.mount-index l.mounts) l.target
    ≡ peers_of l.initial.states.items
    ++ peers_for l.layout (world_view l.world) l.home l.keys l.groups l.mounts l.target
