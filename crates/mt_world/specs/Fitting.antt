-- Whether a mount can be added to a world.
-- A word with no source is this project's rule.
use Rattle.std.specs.Prelude.{ℕ, ◌==◌, not, if◌then◌else◌, Option, Some, None, is_some}
use Rattle.std.specs.Option.{option_map_or}
use Rattle.mt_skel.specs.Skeleton.{holds}
use Rattle.mt_mounts.specs.declared.mount.Mount.{Mount}
use Rattle.mt_mounts.specs.declared.mount.Place.{Place}
use Rattle.mt_mounts.specs.Forest.{mount_at, on, root_mount}
use Rattle.mt_propagate.specs.World.{WorldView}
use Rattle.mt_propagate.specs.Limits.{too_many_mounts, too_many_spaces}
use Rattle.mt_world.specs.declared.misfit.Misfit.{Misfit}
use Rattle.mt_world.specs.declared.misfit.Misfit.TheVariants.{SameId, NoParent, Elsewhere, SamePlace, SecondRoot, NoRoom}

-- a namespace has one root mount (mount_namespaces(7))
abbrev pub why_second_root : WorldView → ℕ → Option Misfit
why_second_root w space =
    if is_some (root_mount w.forest space) then Some SecondRoot
    else (if too_many_spaces w then Some NoRoom else None)

-- a mount stands on one of its namespace, within what that shows, and no two stand at one place
abbrev pub why_unplaced_on : WorldView → ℕ → Place → Mount → Option Misfit
why_unplaced_on w space place parent =
    if not (parent.space == space) then Some NoParent
    else (if not (holds w.skel parent.root place.dir) then Some Elsewhere
    else (if is_some (on w.forest place) then Some SamePlace else None))

abbrev pub why_unplaced : WorldView → ℕ → Place → Option Misfit
why_unplaced w space place = option_map_or (why_unplaced_on w space place) (mount_at w.forest place.mount) (Some NoParent)

-- the first reason why a mount cannot be added to a world, if there is one
abbrev pub why_unfit : WorldView → Mount → Option Misfit
why_unfit w m =
    if is_some (mount_at w.forest m.id) then Some SameId
    else (if too_many_mounts w 1 then Some NoRoom
    else option_map_or (why_unplaced w m.space) m.place (why_second_root w m.space))
