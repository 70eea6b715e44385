use Rattle.std.proofs.Common.{◌≡◌, [], None, Result, Ok, sym, ap, ◌∙◌}
use Rattle.mt_skel.specs.declared.fault.Fault.{Fault}
use Rattle.mt_mounts.specs.declared.mount.Place.{Place}
use Rattle.mt_locks.specs.Locks.{changed_locks}
use Rattle.mt_propagate.specs.World.{world_view}
use Rattle.mt_guard.specs.Coming.{numbered_from, copies_locks}
use Rattle.mt_guard.specs.Changing.{next_locks, mount_locking}
use Rattle.mt_guard.proofs.JudgedLaws.{answered}
use Rattle.mt_guard.proofs.placing.mount_locks.Goals as goal

pub returns-clause-done : goal.returns-clause-done
returns-clause-done c =
    let w = world_view c.args.world.now in
    let mounts = c.deref.ensures.value ∙ c.in_ok-mounts.ensures.fresh in
    let ts = c.deref-2.ensures.value ∙ c.in_ok-ids.ensures.destinations in
    answered c.with_copies.result _ _ _ (ap (λ (at : Result Place Fault). Ok (next_locks w (mount_locking w c.args.space c.args.set.now at))) (sym c.walk.ensures ∙ c.in-Ok.is))
    (λ i. changed_locks [] (numbered_from w.next_mount (copies_locks w c.args.space 0 (mounts i) (ts i))) None w.locks)
    c.with_copies.ensures.locks
