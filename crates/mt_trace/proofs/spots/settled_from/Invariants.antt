use Rattle.std.proofs.Common.{◌≡◌, drop}
use Rattle.mt_propagate.specs.World.{world_view}
use Rattle.mt_trace.specs.Walks.{settled_from}
use Rattle.mt_trace.proofs.spots.settled_from.Given as goal

abbrev pub invariant-each : goal.invariant-each
invariant-each l = settled_from (world_view l.world) l.settled (drop l.name-index l.names) ≡ settled_from (world_view l.world) l.fn.start l.names
