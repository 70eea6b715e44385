use Rattle.std.proofs.Common.{◌≡◌, ◌≤◌, ◌+◌, map, take}
use Rattle.mt_skel.specs.Keyed.{among}
use Rattle.mt_setattr.specs.Change.{changed_mount}
use Rattle.mt_setattr.proofs.setting.change_attrs.Given as goal

-- the mounts of the IDs so far are changed
abbrev pub invariant-loop-id : goal.invariant-loop-id
invariant-loop-id l = record {
  told : l.forest.mounts ≡ map (changed_mount l.change (among (take l.id-index l.ids))) l.initial.forest.mounts;
  room : l.initial.forest.room ≤ l.forest.room + l.id-index;
  since : l.forest.since ≡ l.initial.forest.since;
}
