use Rattle.std.proofs.Common.{◌≡◌, ◌++◌}
use Rattle.mt_mounts.proofs.Ids.{ids_of}
use Rattle.mt_mounts.proofs.table.Table.ids.Given as goal

abbrev pub invariant-loop-mount : goal.invariant-loop-mount
invariant-loop-mount l = record {
  can_next : (goal.iterator-loop-mount).can_next l.mount-iterator;
  finite : (goal.iterator-loop-mount).is_finite l.mount-iterator;
  listed : l.ids.items ++ ids_of l.mount-iterator ≡ ids_of l.initial.mount-iterator;
}
