use Rattle.mt_propagate.specs.World.{world_view}
use Rattle.mt_propagate.proofs.SearchLaws.{nearest-kept}
use Rattle.mt_propagate.proofs.seen_groups.SeenGroups.nearest.Goals as goal

pub invariant_of-self-2 : goal.invariant_of-self-2
invariant_of-self-2 c =
    nearest-kept (world_view c.self.inside.world.now) c.self.inside.found c.insert.new.self c.args.search c.nearest_seen-group.result c.self.invariant
    c.nearest_seen-group.ensures
    c.in_ok-insert.ensures.updates.0
