use Rattle.std.proofs.Common.{◌≡◌, ◌+◌, ◌++◌, cond, map, take, drop, length}
use Rattle.mt_peers.specs.Making.{groupless, is_shared}
use Rattle.mt_peers.specs.Entries.{changed_entry, now_peers}
use Rattle.mt_skel.specs.Keyed.{among}
use Rattle.mt_peers.proofs.entries.change_all.Given as goal

-- the entries passed are changed, and their new groups are counted
abbrev pub invariant-loop-i : goal.invariant-loop-i
invariant-loop-i l = record {
  entries : l.entries ≡ map (changed_entry l.kind l.ids l.next l.initial.entries) (take l.i l.initial.entries) ++ drop l.i l.initial.entries;
  fresh : l.fresh ≡ cond (is_shared l.kind) (l.next + length (groupless (among l.ids) (now_peers (take l.i l.initial.entries)))) l.next;
}
