use Rattle.std.proofs.Common.{◌≡◌, [], None, Result, Ok, sym, ap, ◌∙◌}
use Rattle.std.specs.Option.{unwrap_or}
use Rattle.mt_skel.specs.declared.fault.Fault.{Fault}
use Rattle.mt_mounts.specs.declared.mount.Place.{Place}
use Rattle.mt_mounts.specs.Forest.{root_mount}
use Rattle.mt_locks.specs.Locks.{changed_locks}
use Rattle.mt_propagate.specs.World.{world_view}
use Rattle.mt_guard.specs.Coming.{numbered_from, copies_locks}
use Rattle.mt_guard.specs.Changing.{next_locks, attach_locking}
use Rattle.mt_guard.proofs.ComingLaws.{root_id}
use Rattle.mt_guard.proofs.JudgedLaws.{answered}
use Rattle.mt_guard.proofs.placing.attach_locks.Goals as goal

pub returns-clause-done : goal.returns-clause-done
returns-clause-done c =
    let w = world_view c.args.world.now in
    let top = c.unwrap_or-top.ensures ∙ ap (λ o. unwrap_or o 0) c.root.ensures ∙ root_id (root_mount w.forest c.args.tree) in
    let mounts = c.deref.ensures.value ∙ c.in_ok-mounts.ensures.mounts in
    let ts = c.deref-2.ensures.value ∙ c.in_ok-ids.ensures.targets in
    answered c.with_copies.result _ _ _ (ap (λ (at : Result Place Fault). Ok (next_locks w (attach_locking w c.args.tree c.args.space at))) (sym c.walk.ensures ∙ c.in-Ok.is))
    (λ i. changed_locks [] (numbered_from w.next_mount (copies_locks w c.args.space (top i) (mounts i) (ts i))) None w.locks)
    c.with_copies.ensures.locks
