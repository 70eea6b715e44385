use Rattle.std.proofs.Common.{◌≡◌, ◌++◌, ℕ, List, map, drop}
use Rattle.std.specs.List.{flat_map}
use Rattle.mt_mounts.specs.declared.mount.Mount.{Mount}
use Rattle.mt_locks.specs.declared.mount_locks.MountLocks.{MountLocks}
use Rattle.mt_propagate.specs.World.{WorldView, world_view, space_of}
use Rattle.mt_guard.specs.Coming.{is_foreign, locks_of_copy}
use Rattle.mt_guard.proofs.coming.copies_locks.Given as goal

-- what comes to one target
abbrev pub at : WorldView → ℕ → ℕ → List Mount → ℕ → List MountLocks
at w here top ms t = map (locks_of_copy w (is_foreign w here (space_of w t)) top) ms

-- the targets passed have their copies
abbrev pub invariant-loop-target : goal.invariant-loop-target
invariant-loop-target l =
    l.rows.items ++ flat_map (at (world_view l.world) l.here l.top l.mounts) (drop l.target-index l.targets) ≡ flat_map (at (world_view l.world) l.here l.top l.mounts) l.targets
