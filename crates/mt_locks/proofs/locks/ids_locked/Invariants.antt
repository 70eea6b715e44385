use Rattle.std.proofs.Common.{◌≡◌, ◌++◌, map, drop}
use Rattle.std.specs.List.{filter}
use Rattle.mt_locks.specs.declared.mount_locks.MountLocks.{MountLocks}
use Rattle.mt_locks.specs.MountLocks.{locked_mount}
use Rattle.mt_locks.proofs.locks.ids_locked.Given as goal

-- those passed that are locked on their places, and those to come
abbrev pub invariant-loop-row : goal.invariant-loop-row
invariant-loop-row l = l.ids.items ++ map locked_mount (filter (λ (k : MountLocks). k.place) (drop l.row-index l.mounts)) ≡ map locked_mount (filter (λ (k : MountLocks). k.place) l.mounts)
