use Rattle.std.proofs.Common.{◌≡◌, drop}
use Rattle.mt_propagate.specs.World.{world_view}
use Rattle.mt_propagate.specs.Planned.{needed_at, with_keys}
use Rattle.mt_propagate.proofs.groups.add_keys_at.Given as goal

-- the keys of the mounts passed are listed
abbrev pub invariant-loop-mount : goal.invariant-loop-mount
invariant-loop-mount l =
    with_keys (world_view l.world) l.home l.keys (needed_at (world_view l.world) l.home l.groups (drop l.mount-index l.mounts))
    ≡ with_keys (world_view l.world) l.home l.initial.keys (needed_at (world_view l.world) l.home l.groups l.mounts)
