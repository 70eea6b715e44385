use Rattle.std.proofs.Common.{◌≡◌, ◌≤◌, ◌+◌}
use Rattle.mt_lists.specs.Numbered.{rows_by}
use Rattle.mt_peers.specs.Peers.{mount_of}
use Rattle.mt_peers.specs.Listed.{peer_group}
use Rattle.mt_peers.proofs.ListedLaws.{mixed}
use Rattle.mt_peers.proofs.settling.list_members.Given as goal

-- the entries passed are listed by what they are
abbrev pub invariant-loop-entry : goal.invariant-loop-entry
invariant-loop-entry l = record {
  told : l.members.rows ≡ rows_by mount_of peer_group (mixed l.entry-index l.entries);
  room : l.initial.members.room ≤ l.members.room + l.entry-index;
}
