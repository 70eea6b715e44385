use Rattle.std.proofs.Common.{◌≡◌, [], map, None, sym, ap, ◌∙◌}
use Rattle.mt_locks.specs.Locks.{changed_locks}
use Rattle.mt_propagate.specs.World.{world_view}
use Rattle.mt_propagate.specs.Named.{mount_or_unknown}
use Rattle.mt_guard.specs.Coming.{numbered_from, copies_locks}
use Rattle.mt_guard.proofs.JudgedLaws.{move_done, answered}
use Rattle.mt_guard.proofs.placing.move_locks.Goals as goal

pub returns-clause-done : goal.returns-clause-done
returns-clause-done c =
    let w = world_view c.args.world.now in
    let n = c.args.space in
    let s = c.in_ok-source.source in
    let ids = c.deref.result.now in
    let listed = c.deref.ensures.value ∙ c.in_ok-members.ensures.subtree in
    let mounts : c.deref-2.result.now ≡ map (mount_or_unknown w) ids = c.deref-2.ensures.value ∙ c.in_ok-mounts.ensures.mounts in
    let ts = c.deref-3.ensures.value ∙ c.in_ok-ids.ensures.targets in
    answered c.with_copies.result _ _ _
    (move_done w n c.args.from.now c.args.to.now s c.in_ok-place.place (sym c.is_tree.ensures ∙ c.if-is_tree.false) (sym c.walk.ensures ∙ c.in_ok-source.was)
    (sym c.is_mount_root.ensures ∙ c.if-not-is_mount_root.false) (sym c.is_root_mount.ensures ∙ c.if-is_root_mount.false) (sym c.walk-2.ensures ∙ c.in_ok-place.was)
    (sym c.is_root_place.ensures ∙ c.if-is_root_place.false) (sym c.is_locked.ensures ∙ c.if-is_locked.false) c.requires.well_formed ids listed)
    (λ i. changed_locks [] (numbered_from w.next_mount (copies_locks w n s.mount (mounts i) (ts i))) None w.locks)
    c.with_copies.ensures.locks
