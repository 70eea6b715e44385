use Rattle.std.proofs.Common.{◌≡◌, ◌++◌}
use Rattle.mt_mounts.proofs.SlotLaws.{vals}
use Rattle.mt_mounts.proofs.table.Table.mounts.Given as goal

abbrev pub invariant-loop-mount : goal.invariant-loop-mount
invariant-loop-mount l = record {
  can_next : (goal.iterator-loop-mount).can_next l.mount-iterator;
  finite : (goal.iterator-loop-mount).is_finite l.mount-iterator;
  listed : l.mounts.items ++ vals l.mount-iterator ≡ vals l.initial.mount-iterator;
}
