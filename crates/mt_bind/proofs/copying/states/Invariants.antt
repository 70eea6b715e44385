use Rattle.std.proofs.Common.{◌≡◌, ◌++◌, map, drop}
use Rattle.mt_mounts.specs.Forest.{id_of}
use Rattle.mt_peers.specs.Peers.{peers_of}
use Rattle.mt_propagate.specs.World.{world_view}
use Rattle.mt_bind.specs.Copying.{peer_of}
use Rattle.mt_bind.proofs.copying.states.Given as goal

-- the copies of the mounts passed have their states
abbrev pub invariant-loop-mount : goal.invariant-loop-mount
invariant-loop-mount l = peers_of l.states.items ++ map (peer_of (world_view l.world) (map id_of l.originals) l.less) (drop l.mount-index l.originals) ≡ map (peer_of (world_view l.world) (map id_of l.originals) l.less) l.originals
