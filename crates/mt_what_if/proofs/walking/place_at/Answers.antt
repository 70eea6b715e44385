use Rattle.std.proofs.Common.{◌∙◌, sym}
use Rattle.mt_propagate.specs.World.{world_view}
use Rattle.mt_what_if.proofs.EndLaws.{walk_there}
use Rattle.mt_what_if.proofs.walking.place_at.Goals as goal

pub returns-in-Ok-clause-there : goal.returns-in-Ok-clause-there
returns-in-Ok-clause-there c =
    walk_there (world_view c.args.world.now) c.args.space c.args.path.now c.in-Ok.place c.requires (sym c.walk.ensures ∙ c.in-Ok.is)
