use Rattle.std.proofs.Common.{◌≡◌, drop}
use Rattle.mt_propagate.specs.World.{world_view}
use Rattle.mt_propagate.specs.WellFormed.{IsWellFormed}
use Rattle.mt_trace.specs.Stages.{all_tried}
use Rattle.mt_trace.proofs.stage.grow_all.Given as goal

abbrev pub invariant-each : goal.invariant-each
invariant-each l = record {
  grown : all_tried (world_view l.world) (drop l.command-index l.commands) ≡ all_tried (world_view l.initial.world) l.commands;
  kept : IsWellFormed (world_view l.world);
}
