use Rattle.std.proofs.Common.{◌≡◌, ◌≤◌, ◌+◌}
use Rattle.mt_lists.specs.Numbered.{rows_by}
use Rattle.mt_peers.specs.Peers.{mount_of}
use Rattle.mt_peers.specs.Listed.{leader_of}
use Rattle.mt_peers.proofs.ListedLaws.{mixed}
use Rattle.mt_peers.proofs.settling.list_slaves.Given as goal

-- the entries passed are listed by what they are
abbrev pub invariant-loop-entry : goal.invariant-loop-entry
invariant-loop-entry l = record {
  told : l.slaves.rows ≡ rows_by mount_of leader_of (mixed l.entry-index l.entries);
  room : l.initial.slaves.room ≤ l.slaves.room + l.entry-index;
}
