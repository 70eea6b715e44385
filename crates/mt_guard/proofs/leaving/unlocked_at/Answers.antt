use Rattle.std.proofs.Common.{◌≡◌, [], None, sym, ◌∙◌}
use Rattle.mt_locks.specs.Locks.{changed_locks}
use Rattle.mt_propagate.specs.World.{world_view}
use Rattle.mt_guard.proofs.JudgedLaws.{unlocked_done, answered}
use Rattle.mt_guard.proofs.leaving.unlocked_at.Goals as goal

pub returns-clause-done : goal.returns-clause-done
returns-clause-done c =
    let w = world_view c.args.world.now in
    let met = c.deref.ensures.value ∙ c.in_ok-met.ensures.met in
    answered c.changed.result _ _ _
    (unlocked_done w c.args.place (sym c.is_mount_root.ensures ∙ c.if-not-is_mount_root.false) (sym c.is_root_mount.ensures ∙ c.if-is_root_mount.false) (sym c.is_locked.ensures ∙ c.if-is_locked.false))
    (λ i. changed_locks (met i) [] None w.locks) c.changed.ensures.changed
