use Rattle.std.proofs.Common.{◌≤◌, length}
use Rattle.mt_propagate.specs.World.{world_view}
use Rattle.mt_world.specs.States.{AreJoined, IsSameButStates}
use Rattle.mt_world.proofs.joined.round.Given as goal

abbrev pub invariant-turns : goal.invariant-turns
invariant-turns l = record {
  joined : AreJoined (world_view l.world) l.rows l.left l.lone.items;
  same : IsSameButStates (world_view l.initial.world) (world_view l.world);
  fewer : length l.later.items ≤ l.number-index;
}
