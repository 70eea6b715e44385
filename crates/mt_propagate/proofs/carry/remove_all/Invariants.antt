use Rattle.std.proofs.Common.{◌≡◌, ◌≤◌, ◌+◌, drop}
use Rattle.mt_propagate.specs.Carried.{staying}
use Rattle.mt_propagate.proofs.carry.remove_all.Given as goal

-- what is left to be taken away
abbrev pub invariant-loop-id : goal.invariant-loop-id
invariant-loop-id l = record {
  left : staying (drop l.id-index l.ids) l.forest.mounts ≡ staying l.ids l.initial.forest.mounts;
  room : l.initial.forest.room ≤ l.forest.room + l.id-index;
  since : l.forest.since ≡ l.initial.forest.since;
}
