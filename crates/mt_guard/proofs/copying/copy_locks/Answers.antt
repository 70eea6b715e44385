use Rattle.std.proofs.Common.{◌≡◌, [], cond, map, refl, ap, ◌∙◌}
use Rattle.mt_locks.specs.Locks.{changed_locks}
use Rattle.mt_propagate.specs.World.{world_view}
use Rattle.mt_guard.specs.Coming.{numbered_from, original_locks, copied_locks, next_owner}
use Rattle.mt_guard.specs.Judging.{copy_judged}
use Rattle.mt_guard.proofs.JudgedLaws.{answered}
use Rattle.mt_guard.proofs.copying.copy_locks.Goals as goal

pub returns-clause-done : goal.returns-clause-done
returns-clause-done c =
    let w = world_view c.args.world.now in
    let rows : c.deref-2.result.now ≡ copied_locks w c.args.all c.args.space =
    c.deref-2.ensures.value ∙ c.in_ok-rows.ensures.rows ∙ ap (map (original_locks w c.args.all)) (c.deref.ensures.value ∙ c.in_ok-mounts.ensures.mounts) in
    let owner = c.next_owner.ensures ∙ ap (next_owner w) c.owner_of_copy-owner.ensures in
    answered c.with_coming.result (copy_judged w c.args.space c.args.all) _ _ refl (λ i. changed_locks [] (numbered_from w.next_mount (rows i)) (owner i) w.locks) c.with_coming.ensures.locks
