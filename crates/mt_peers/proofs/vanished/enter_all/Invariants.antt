use Rattle.std.proofs.Common.{◌≡◌, ℕ, ◌≤◌, ◌+◌, false, drop, nat_eq}
use Rattle.std.specs.Option.{option_or}
use Rattle.indexmap.specs.IndexMap.{get, spare}
use Rattle.mt_peers.specs.Peers.{has_member}
use Rattle.mt_peers.specs.Entries.{now_peers}
use Rattle.mt_peers.specs.Vanished.{above_first, AreNear}
use Rattle.mt_peers.proofs.vanished.enter_all.Given as goal

-- the groups that the mounts passed have left are entered
abbrev pub invariant-loop-entry : goal.invariant-loop-entry
invariant-loop-entry l = record {
  told : (g : ℕ) → has_member (now_peers l.entries) g ≡ false → option_or (get nat_eq l.vanished g) (above_first g (drop l.entry-index l.entries)) ≡ above_first g l.entries;
  near : (most : ℕ) → AreNear most l.vanished;
  room : spare l.initial.vanished ≤ spare l.vanished + l.entry-index;
}
