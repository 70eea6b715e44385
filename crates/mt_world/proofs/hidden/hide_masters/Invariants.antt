use Rattle.std.proofs.Common.{◌≡◌, ◌+◌, ◌≤◌, ◌^◌}
use Rattle.mt_propagate.specs.World.{world_view}
use Rattle.mt_world.specs.Hidden.{HasMoreHidden}
use Rattle.mt_world.specs.Leaves.{IsSound}
use Rattle.mt_world.proofs.hidden.hide_masters.Given as goal

abbrev pub invariant-rows : goal.invariant-rows
invariant-rows l = record {
  sound : IsSound (world_view l.world);
  beside : HasMoreHidden l.space (world_view l.fn.world) (world_view l.world);
  numbers : l.world.next_mount ≤ 2 ^ 62;
  space : l.world.next_space ≡ l.space + 1;
}
