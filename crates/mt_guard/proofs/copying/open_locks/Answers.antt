use Rattle.std.proofs.Common.{◌≡◌, false, [], ◌++◌, map, sym, ap, ◌∙◌}
use Rattle.mt_skel.proofs.OutcomeLaws.{stopped}
use Rattle.mt_locks.specs.Locks.{changed_locks}
use Rattle.mt_propagate.specs.World.{world_view}
use Rattle.mt_propagate.specs.Named.{mount_or_unknown}
use Rattle.mt_guard.specs.Coming.{numbered_from, locks_of_copy, next_owner}
use Rattle.mt_guard.proofs.JudgedLaws.{open_left, open_done, uncovers_by, answered}
use Rattle.mt_guard.proofs.copying.open_locks.Goals as goal

pub returns-then-uncovers-clause-refused : goal.returns-then-uncovers-clause-refused
returns-then-uncovers-clause-refused c _ =
    let w = world_view c.args.world.now in
    open_left w c.args.space c.args.recursive c.args.path.now c.in_ok-from.from (sym c.walk.ensures ∙ c.in_ok-from.was) (sym c.is_unbindable.ensures ∙ c.if-is_unbindable.false)
    ∙ stopped _ _ _ _ (uncovers_by w c.args.recursive c.in_ok-from.from c.deref.result.now (c.deref.ensures.value ∙ c.in_ok-members.ensures.members) ∙ sym c.uncovers.ensures ∙ c.if-uncovers.true)

pub returns-clause-done : goal.returns-clause-done
returns-clause-done c =
    let w = world_view c.args.world.now in
    let n = c.args.space in
    let s = c.in_ok-from.from in
    let ids = c.deref.result.now in
    let listed = c.deref.ensures.value ∙ c.in_ok-members.ensures.members in
    let mounts : c.deref-3.result.now ≡ map (mount_or_unknown w) ids = c.deref-3.ensures.value ∙ c.in_ok-mounts.ensures.mounts ∙ ap (map (mount_or_unknown w)) (c.deref-2.ensures.value ∙ sym c.deref.ensures.value) in
    let rows : c.deref-4.result.now ≡ map (locks_of_copy w false s.mount) (map (mount_or_unknown w) ids) =
    c.deref-4.ensures.value ∙ c.in_ok-push_copies.ensures.rows ∙ (λ i. c.in_ok-rows.ensures.items i ++ map (locks_of_copy w false s.mount) (mounts i)) in
    let owner = c.next_owner-owner.ensures ∙ ap (next_owner w) c.owner_of.ensures in
    answered c.with_coming.result _ _ _
    (open_done w n c.args.recursive c.args.path.now s (sym c.walk.ensures ∙ c.in_ok-from.was) (sym c.is_unbindable.ensures ∙ c.if-is_unbindable.false) c.requires.well_formed ids listed
    (uncovers_by w c.args.recursive s ids listed ∙ sym c.uncovers.ensures ∙ c.if-uncovers.false))
    (λ i. changed_locks [] (numbered_from w.next_mount (rows i)) (owner i) w.locks)
    c.with_coming.ensures.locks
