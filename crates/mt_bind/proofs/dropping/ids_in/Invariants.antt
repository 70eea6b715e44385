use Rattle.std.proofs.Common.{◌≡◌, ◌++◌, map, drop}
use Rattle.mt_mounts.specs.Forest.{id_of}
use Rattle.mt_bind.proofs.dropping.ids_in.Given as goal

-- the mounts passed have their IDs
abbrev pub invariant-loop-mount : goal.invariant-loop-mount
invariant-loop-mount l = l.ids.items ++ map id_of (drop l.mount-index l.mount-items) ≡ map id_of l.mount-items
