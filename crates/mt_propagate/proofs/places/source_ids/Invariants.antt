use Rattle.std.proofs.Common.{◌≡◌, ◌++◌, map, drop}
use Rattle.mt_mounts.specs.Forest.{id_of}
use Rattle.mt_propagate.proofs.places.source_ids.Given as goal

-- the mounts passed have their IDs listed
abbrev pub invariant-loop-mount : goal.invariant-loop-mount
invariant-loop-mount l = l.ids.items ++ map id_of (drop l.mount-index l.mounts) ≡ map id_of l.mounts
