use Rattle.std.proofs.Common.{◌∙◌, sym, ap}
use Rattle.std.specs.Option.{is_some}
use Rattle.mt_propagate.specs.World.{world_view}
use Rattle.mt_events.proofs.TouchedLaws.{has_by_space, row_nowhere}
use Rattle.mt_events.proofs.touched.is_in.Goals as goal

pub returns-in-Some : goal.returns-in-Some
returns-in-Some c = has_by_space (world_view c.args.world.now) c.args.space c.args.id c.requires.well_formed c.in-Some.mount (sym c.get.ensures ∙ c.in-Some.is)

pub returns-in-None : goal.returns-in-None
returns-in-None c = ap is_some (sym (row_nowhere (world_view c.args.world.now) c.args.space c.args.id c.requires.well_formed (sym c.get.ensures ∙ c.in-None.is)))
