use Rattle.std.proofs.Common.{◌∙◌, ap, sym}
use Rattle.mt_propagate.specs.World.{world_view}
use Rattle.mt_propagate.proofs.SearchLaws.{found-nearest}
use Rattle.mt_propagate.proofs.seen_groups.SeenGroups.found.Goals as goal

pub returns : goal.returns
returns c = found-nearest _ _ c.self.inside.found c.args.search _ c.self.invariant (ap world_view c.self.view_is) (sym c.get.ensures.value ∙ sym c.copied.ensures)
