-- Where a process stands, and what a descriptor leads to.
-- A word with no source is this project's rule.
use Rattle.std.specs.Prelude.{Bool, ◌==◌, ◌&&◌, []}
use Rattle.mt_skel.specs.Skeleton.{path_eq}
use Rattle.mt_mounts.specs.declared.mount.Place.{Place}
use Rattle.mt_trace.specs.declared.standing.Standing.{Standing}

-- a spot whose directory is there
abbrev pub spot_at : Place → Standing
spot_at p = record { place = p; below = [] }

-- the same directory of the same mount, found at the same place
abbrev pub spot_eq : Standing → Standing → Bool
spot_eq s t = s.place.mount == t.place.mount && s.place.dir == t.place.dir && path_eq s.below t.below
