use Rattle.std.proofs.Common.{◌≡◌, ◌++◌, drop}
use Rattle.mt_mounts.specs.Slots.{mounts_of}
use Rattle.mt_mounts.proofs.table.Table.mounts_of.Given as goal

abbrev pub invariant-loop-id : goal.invariant-loop-id
invariant-loop-id l = l.mounts.items ++ mounts_of l.self.mounts (drop l.id-index l.ids) ≡ mounts_of l.self.mounts l.ids
