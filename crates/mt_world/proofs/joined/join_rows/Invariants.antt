use Rattle.std.proofs.Common.{length}
use Rattle.mt_propagate.specs.World.{world_view}
use Rattle.mt_world.specs.States.{AreJoined, IsSameButStates}
use Rattle.mt_world.proofs.joined.join_rows.Given as goal

abbrev pub invariant-rounds : goal.invariant-rounds
invariant-rounds l = record {
  joined : AreJoined (world_view l.world) l.rows l.left l.lone.items;
  same : IsSameButStates (world_view l.initial.world) (world_view l.world);
}

abbrev pub decreases-rounds : goal.decreases-rounds
decreases-rounds l = length l.waiting.items
