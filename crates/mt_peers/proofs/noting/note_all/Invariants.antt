use Rattle.std.proofs.Common.{◌≡◌, ◌≤◌, ◌+◌, ◌++◌, drop}
use Rattle.mt_peers.proofs.noting.note_all.Given as goal

-- what is noted, and what is still to be noted
abbrev pub invariant-loop-id : goal.invariant-loop-id
invariant-loop-id l = record {
  ids : l.log.ids ++ drop l.id-index l.ids ≡ l.initial.log.ids ++ l.ids;
  room : l.initial.log.room ≤ l.log.room + l.id-index;
}
