use Rattle.std.proofs.Common.{◌≡◌, ◌==◌, ◌++◌, drop}
use Rattle.std.specs.List.{filter}
use Rattle.mt_locks.specs.declared.mount_locks.MountLocks.{MountLocks}
use Rattle.mt_propagate.specs.World.{world_view, space_of}
use Rattle.mt_book.proofs.book.locks_in.Given as goal

-- those passed that are of mounts of the namespace, and those to come
abbrev pub invariant-locking : goal.invariant-locking
invariant-locking l =
    l.locks.items ++ filter (λ (k : MountLocks). space_of (world_view l.world) k.mount == l.space) (drop l.row-index l.rows)
    ≡ filter (λ (k : MountLocks). space_of (world_view l.world) k.mount == l.space) l.rows
