use Rattle.std.proofs.Common.{ap, ◌∙◌}
use Rattle.mt_propagate.specs.World.{world_view}
use Rattle.mt_guard.specs.Changing.{own_locks, with_locks}
use Rattle.mt_world.proofs.LockedLaws.{formed_locked}
use Rattle.mt_world.proofs.locked.lock_table.Goals as goal

pub returns-clause-well_formed : goal.returns-clause-well_formed
returns-clause-well_formed c =
    let w = world_view c.args.world.now in
    formed_locked w (world_view c.relock.new.world) (own_locks w c.args.space)
    (c.relock.ensures.world ∙ ap (λ l. with_locks l w) c.in_ok-locks.ensures.locks) c.requires.well_formed
