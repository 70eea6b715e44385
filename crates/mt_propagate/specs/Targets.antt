-- Targets of a place as a worklist collects them. No public clause cites this module.
-- A word with no source is this project's rule.
use Rattle.std.specs.Prelude.{ℕ, Bool, cond, not, ◌&&◌, ◌==◌, Option, Some, None}
use Rattle.mt_skel.specs.Skeleton.{holds}
use Rattle.mt_mounts.specs.declared.mount.Place.{Place}
use Rattle.mt_propagate.specs.World.{WorldView, root_dir}

-- a mount that gets what happens at the place is a target of it
abbrev pub is_target : WorldView → Place → ℕ → Bool
is_target w p i = not (p.mount == i) && holds w.skel (root_dir w i) p.dir

-- a mount, if it is a target
abbrev pub target : WorldView → Place → ℕ → Option ℕ
target w p i = cond (is_target w p i) (Some i) None
