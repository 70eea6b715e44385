use Rattle.std.proofs.Common.{◌≡◌, suc, ◌-◌, List, Some}
use Rattle.mt_lists.specs.Numbered.{rows_by}
use Rattle.mt_peers.specs.Peers.{Peer, mount_of, has_member}
use Rattle.mt_peers.specs.Masters.{master_of}
use Rattle.mt_peers.specs.Ways.{IsAbove}
use Rattle.mt_peers.specs.Listed.{peer_group}
use Rattle.mt_peers.specs.Vanished.{IsVanished}
use Rattle.mt_peers.proofs.vanished.reached.Given as goal

-- no group passed lives
abbrev pub invariant-chain : goal.invariant-chain
invariant-chain l = (old new : List Peer) → l.members.rows ≡ rows_by mount_of peer_group new → IsVanished old new l.vanished → IsAbove (has_member new) (master_of old) (Some l.group) l.here.up l.here.steps

abbrev pub decreases-chain : goal.decreases-chain
decreases-chain l = suc l.most - l.here.steps
