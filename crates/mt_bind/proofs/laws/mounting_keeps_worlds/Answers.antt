use Rattle.mt_bind.proofs.MountLaws.{mount_keeps, bind_keeps, move_keeps}
use Rattle.mt_bind.proofs.PivotingLaws.{pivoted_keeps}
use Rattle.mt_bind.proofs.laws.mounting_keeps_worlds.Goals as goal

pub returns : goal.returns
returns c = record { mounted = mount_keeps; bound = bind_keeps; moved = move_keeps; pivoted = pivoted_keeps }
