use Rattle.std.proofs.Common.{◌≡◌, true, List, [], Some, map, ap, ◌∙◌, subst}
use Rattle.std.specs.Prelude.{IfOk}
use Rattle.mt_locks.specs.declared.mount_locks.MountLocks.{MountLocks}
use Rattle.mt_locks.specs.Locks.{LocksView, changed_locks}
use Rattle.mt_propagate.specs.World.{world_view}
use Rattle.mt_guard.specs.Coming.{original_locks, copied_locks}
use Rattle.mt_guard.proofs.copying.own_locks.Goals as goal

pub returns-clause-locks : goal.returns-clause-locks
returns-clause-locks c =
    let w = world_view c.args.world.now in
    let rows : c.deref-2.result.now ≡ copied_locks w true c.args.space =
    c.deref-2.ensures.value ∙ c.in_ok-rows.ensures.rows ∙ ap (map (original_locks w true)) (c.deref.ensures.value ∙ c.in_ok-mounts.ensures.mounts) in
    subst (λ (came : List MountLocks). IfOk c.changed.result (λ (l : LocksView). l ≡ changed_locks [] came (Some (c.args.space, c.args.space)) w.locks)) rows c.changed.ensures.changed
