use Rattle.std.proofs.Common.{◌≡◌, ◌==◌, ◌&&◌, drop}
use Rattle.std.specs.List.{list_any}
use Rattle.mt_locks.specs.declared.mount_locks.MountLocks.{MountLocks}
use Rattle.mt_locks.proofs.locks.is_locked_among.Given as goal

-- none of those passed is it
abbrev pub invariant-loop-row : goal.invariant-loop-row
invariant-loop-row l = list_any (λ (k : MountLocks). k.place && (k.mount == l.id)) (drop l.row-index l.mounts) ≡ list_any (λ (k : MountLocks). k.place && (k.mount == l.id)) l.mounts
