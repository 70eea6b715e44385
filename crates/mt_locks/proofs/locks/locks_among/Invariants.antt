use Rattle.std.proofs.Common.{◌≡◌, ◌==◌, drop}
use Rattle.std.specs.List.{find}
use Rattle.mt_locks.specs.declared.mount_locks.MountLocks.{MountLocks}
use Rattle.mt_locks.proofs.locks.locks_among.Given as goal

-- it is not among those passed
abbrev pub invariant-loop-row : goal.invariant-loop-row
invariant-loop-row l = find (λ (k : MountLocks). k.mount == l.id) (drop l.row-index l.mounts) ≡ find (λ (k : MountLocks). k.mount == l.id) l.mounts
