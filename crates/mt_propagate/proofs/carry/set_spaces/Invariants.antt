use Rattle.std.proofs.Common.{◌≡◌, ◌≤◌, ◌+◌, ◌*◌, drop}
use Rattle.mt_propagate.specs.Carried.{homed, AllCanLeave}
use Rattle.mt_propagate.proofs.carry.set_spaces.Given as goal

-- what is left to be changed
abbrev pub invariant-loop-mount : goal.invariant-loop-mount
invariant-loop-mount l = record {
  leave : AllCanLeave l.space (drop l.mount-index l.mounts) l.forest.mounts;
  homed : homed l.space (drop l.mount-index l.mounts) l.forest.mounts ≡ homed l.space l.mounts l.initial.forest.mounts;
  room : l.initial.forest.room ≤ l.forest.room + 2 * l.mount-index;
  since : l.forest.since ≡ l.initial.forest.since;
}
