use Rattle.std.proofs.Common.{◌≡◌, take}
use Rattle.mt_propagate.specs.World.{world_view}
use Rattle.mt_world.specs.Kept.{HaveNumbers}
use Rattle.mt_world.specs.Made.{HasNoMounts}
use Rattle.mt_world.proofs.made.pass_rows.Given as goal

abbrev pub invariant-rows : goal.invariant-rows
invariant-rows l = record {
  bare : HasNoMounts (world_view l.world);
  numbers : HaveNumbers (world_view l.world) (take l.row-index l.rows);
  skel : l.world.skel ≡ l.initial.world.skel;
}
