use Rattle.std.proofs.Common.{◌≡◌, drop}
use Rattle.std.specs.Prelude.{◌&&◌, false, not}
use Rattle.std.specs.List.{list_any}
use Rattle.std.specs.Option.{option_map_or}
use Rattle.mt_skel.specs.Keyed.{among}
use Rattle.mt_mounts.specs.Forest.{parent}
use Rattle.mt_locks.specs.declared.mount_locks.MountLocks.{MountLocks}
use Rattle.mt_propagate.specs.World.{world_view}
use Rattle.mt_guard.specs.Refusals.{copy_shows}
use Rattle.mt_guard.proofs.refusing.leaves_some_out.Given as goal

-- none of the mounts passed is locked on its place and left out
abbrev pub invariant-loop-row : goal.invariant-loop-row
invariant-loop-row l =
    list_any
    (λ (k : MountLocks). k.place && (not (among l.copied k.mount) && option_map_or (λ on. among l.copied on && copy_shows (world_view l.world) l.from on k.mount) (parent l.world.forest.mounts k.mount) false))
    (drop l.row-index l.locks)
    ≡ list_any
    (λ (k : MountLocks). k.place && (not (among l.copied k.mount) && option_map_or (λ on. among l.copied on && copy_shows (world_view l.world) l.from on k.mount) (parent l.world.forest.mounts k.mount) false))
    l.locks
