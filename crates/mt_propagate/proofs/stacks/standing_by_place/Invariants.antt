use Rattle.std.proofs.Common.{◌≡◌, drop}
use Rattle.std.specs.Option.{option_or}
use Rattle.indexmap.specs.IndexMap.{get}
use Rattle.mt_mounts.specs.declared.mount.Place.{Place}
use Rattle.mt_mounts.specs.Forest.{on, place_eq}
use Rattle.mt_propagate.proofs.stacks.standing_by_place.Given as goal

-- the mounts passed are known by their places
abbrev pub invariant-loop-mount : goal.invariant-loop-mount
invariant-loop-mount l = (p : Place) → option_or (get place_eq l.standing p) (on (drop l.mount-index l.mounts) p) ≡ on l.mounts p
