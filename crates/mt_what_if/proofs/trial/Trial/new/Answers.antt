use Rattle.mt_propagate.specs.World.{world_view}
use Rattle.mt_what_if.proofs.TrialLaws.{begun}
use Rattle.mt_what_if.proofs.trial.Trial.new.Goals as goal

pub invariant_of-result : goal.invariant_of-result
invariant_of-result c =
    begun (world_view c.args.world.now) (world_view c.in_ok-start.start) (world_view c.in_ok-now.now) c.new.result.items c.requires c.in_ok-start.ensures.copy
    c.in_ok-now.ensures.copy c.new.ensures.items
