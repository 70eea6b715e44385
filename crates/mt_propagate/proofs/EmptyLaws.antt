-- The world without filesystems, mounts and namespaces.
use Rattle.std.proofs.Common.{rules}
use Rattle.mt_propagate.specs.World.{empty_world}
use Rattle.mt_propagate.specs.WellFormed.{IsWellFormed}

-- it is well-formed
pub empty-kept : IsWellFormed empty_world
empty-kept = search rules
