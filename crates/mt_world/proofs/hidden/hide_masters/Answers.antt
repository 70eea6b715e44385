use Rattle.std.proofs.Common.{◌∙◌}
use Rattle.mt_propagate.specs.World.{world_view}
use Rattle.mt_world.proofs.HiddenLaws.{beside_on}
use Rattle.mt_world.proofs.hidden.hide_masters.Goals as goal

pub returns-in_err-place-clause-beside : goal.returns-in_err-place-clause-beside
returns-in_err-place-clause-beside c = beside_on c.args.world.now.next_space (world_view c.args.world.now) (world_view c.rows.world) (world_view c.hide_master.new.world) c.rows.invariant.beside c.hide_master.ensures.beside

pub rows-preserved : goal.rows-preserved
rows-preserved c = record {
  sound = c.hide_master.ensures.sound;
  beside = beside_on c.args.world.now.next_space (world_view c.args.world.now) (world_view c.rows.world) (world_view c.hide_master.new.world) c.rows.invariant.beside c.hide_master.ensures.beside;
  numbers = c.hide_master.ensures.numbers;
  space = c.in_ok-place.ensures.spaces ∙ c.rows.invariant.space;
}
