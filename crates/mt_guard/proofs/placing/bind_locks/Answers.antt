use Rattle.std.proofs.Common.{◌≡◌, [], map, None, sym, ap, ◌∙◌}
use Rattle.mt_skel.proofs.OutcomeLaws.{stopped}
use Rattle.mt_locks.specs.Locks.{changed_locks}
use Rattle.mt_propagate.specs.World.{world_view}
use Rattle.mt_propagate.specs.Named.{mount_or_unknown}
use Rattle.mt_guard.specs.Coming.{numbered_from, copies_locks}
use Rattle.mt_guard.proofs.JudgedLaws.{bind_left, bind_done, uncovers_by, answered}
use Rattle.mt_guard.proofs.placing.bind_locks.Goals as goal

pub returns-then-uncovers-clause-refused : goal.returns-then-uncovers-clause-refused
returns-then-uncovers-clause-refused c _ =
    let w = world_view c.args.world.now in
    bind_left w c.args.space c.args.recursive c.args.from.now c.in_ok-source.source (sym c.walk.ensures ∙ c.in_ok-source.was) (sym c.is_unbindable.ensures ∙ c.if-is_unbindable.false)
    c.args.to.now c.in_ok-place.place (sym c.walk-2.ensures ∙ c.in_ok-place.was) (sym c.is_root_place.ensures ∙ c.if-is_root_place.false)
    ∙ stopped _ _ _ _ (uncovers_by w c.args.recursive c.in_ok-source.source c.deref.result.now (c.deref.ensures.value ∙ c.in_ok-members.ensures.members) ∙ sym c.uncovers.ensures ∙ c.if-uncovers.true)

pub returns-clause-done : goal.returns-clause-done
returns-clause-done c =
    let w = world_view c.args.world.now in
    let n = c.args.space in
    let s = c.in_ok-source.source in
    let ids = c.deref.result.now in
    let listed = c.deref.ensures.value ∙ c.in_ok-members.ensures.members in
    let mounts : c.deref-3.result.now ≡ map (mount_or_unknown w) ids = c.deref-3.ensures.value ∙ c.in_ok-mounts.ensures.mounts ∙ ap (map (mount_or_unknown w)) (c.deref-2.ensures.value ∙ sym c.deref.ensures.value) in
    let ts = c.deref-4.ensures.value ∙ c.in_ok-ids.ensures.destinations in
    answered c.with_copies.result _ _ _
    (bind_done w n c.args.recursive c.args.from.now s (sym c.walk.ensures ∙ c.in_ok-source.was) (sym c.is_unbindable.ensures ∙ c.if-is_unbindable.false) c.requires.well_formed ids listed
    (uncovers_by w c.args.recursive s ids listed ∙ sym c.uncovers.ensures ∙ c.if-uncovers.false)
    c.args.to.now c.in_ok-place.place (sym c.walk-2.ensures ∙ c.in_ok-place.was) (sym c.is_root_place.ensures ∙ c.if-is_root_place.false))
    (λ i. changed_locks [] (numbered_from w.next_mount (copies_locks w n s.mount (mounts i) (ts i))) None w.locks)
    c.with_copies.ensures.locks
