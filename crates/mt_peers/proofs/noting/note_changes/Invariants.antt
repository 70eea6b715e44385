use Rattle.std.proofs.Common.{◌≡◌, ◌≤◌, ◌+◌, ◌++◌, drop}
use Rattle.mt_skel.specs.Keyed.{among}
use Rattle.mt_peers.specs.Entries.{noted_of}
use Rattle.mt_peers.proofs.noting.note_changes.Given as goal

-- what is noted, and what is still to be noted
abbrev pub invariant-loop-entry : goal.invariant-loop-entry
invariant-loop-entry l = record {
  ids : l.log.ids ++ noted_of (among l.leaving) (drop l.entry-index l.entries) ≡ l.initial.log.ids ++ noted_of (among l.leaving) l.entries;
  room : l.initial.log.room ≤ l.log.room + l.entry-index;
}
