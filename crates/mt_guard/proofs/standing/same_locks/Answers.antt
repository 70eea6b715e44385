use Rattle.std.proofs.Common.{◌≡◌, Ok, refl, ap}
use Rattle.mt_locks.proofs.LockedLaws.{nothing-changed}
use Rattle.mt_propagate.specs.World.{world_view}
use Rattle.mt_guard.specs.Judging.{keep_judged}
use Rattle.mt_guard.proofs.JudgedLaws.{answered}
use Rattle.mt_guard.proofs.standing.same_locks.Goals as goal

pub returns-clause-done : goal.returns-clause-done
returns-clause-done c =
    let w = world_view c.args.world.now in
    answered c.copy.result (keep_judged w) w.locks w.locks (ap (λ l. Ok l) (nothing-changed w.locks)) refl c.copy.ensures.copy
