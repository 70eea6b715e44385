use Rattle.std.proofs.Common.{◌≡◌, ◌≤◌, ◌++◌, map, take, drop, length}
use Rattle.indexmap.specs.IndexMap.{spare}
use Rattle.mt_peers.specs.Loss.{heir}
use Rattle.mt_peers.specs.Entries.{now_peers, was_peers, settled_entry}
use Rattle.mt_peers.specs.Vanished.{IsVanished, AreNear}
use Rattle.mt_peers.proofs.settling.settle_all.Given as goal

-- the entries passed are settled, the others as they were, and what is known is so
abbrev pub invariant-loop-i : goal.invariant-loop-i
invariant-loop-i l = record {
  entries : l.entries ≡ map (settled_entry l.initial.entries) (take l.i l.initial.entries) ++ drop l.i l.initial.entries;
  known : l.known.heir ≡ heir (was_peers l.initial.entries) (now_peers l.initial.entries) l.known.master;
  vanished : IsVanished (was_peers l.initial.entries) (now_peers l.initial.entries) l.vanished;
  near : AreNear (length l.initial.entries) l.vanished;
  room : spare l.initial.vanished ≤ spare l.vanished;
}
