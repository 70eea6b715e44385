use Rattle.std.proofs.Common.{length}
use Rattle.mt_world.proofs.order.depths_of.Given as goal

abbrev pub decreases-up : goal.decreases-up
decreases-up l = length l.way.items
