use Rattle.std.proofs.Common.{◌≡◌, ◌-◌, length}
use Rattle.mt_mounts.specs.Forest.{parent}
use Rattle.mt_propagate.specs.World.{world_view}
use Rattle.mt_info.specs.MayDiffer.{has_moved, moves_along}
use Rattle.mt_info.proofs.AboveLaws.{above}
use Rattle.mt_info.proofs.touched.moves_along.Given as goal

-- whether one that moved is above the mount that was reached
abbrev pub invariant-steps : goal.invariant-steps
invariant-steps l =
    above (parent l.after.forest.mounts) (has_moved (world_view l.before) (world_view l.after)) (length l.after.forest.mounts - l._step) l.here ≡ moves_along (world_view l.before) (world_view l.after) l.id
