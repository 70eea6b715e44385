use Rattle.std.proofs.Common.{◌≡◌, ◌&&◌, true, sym, ap, ◌∙◌, Ok}
use Rattle.std.specs.Prelude.{is_some}
use Rattle.std.proofs.lemmas.Result.{err_from_is_err_and}
use Rattle.mt_skel.proofs.OutcomeLaws.{passed, stopped}
use Rattle.mt_mounts.specs.Forest.{is_below}
use Rattle.mt_propagate.specs.World.{world_view, group_of}
use Rattle.mt_propagate.specs.Copied.{copied}
use Rattle.mt_propagate.specs.Sound.{IsDestination}
use Rattle.mt_propagate.specs.Plans.{copied_source}
use Rattle.mt_bind.specs.Sources.{tree_of}
use Rattle.mt_bind.specs.Mounting.{any_unbindable, moved}
use Rattle.mt_bind.proofs.MountLaws.{destination, moving_source}
use Rattle.mt_bind.proofs.MemberLaws.{below_among, unbindable_ids, moved_tree}
use Rattle.mt_bind.proofs.AcceptedLaws.{past_places, moved_judged, moved_late, planned_done, planned_refused}
use Rattle.mt_bind.proofs.moving.move_mount.Goals.{After-is_among, After-is_unbindable_inside}
use Rattle.mt_bind.proofs.moving.move_mount.Goals as goal

-- the mounts go to a place where they may stand
goes : (c : After-is_among) → IsDestination (world_view c.args.world.now) c.in_ok-place.place
goes c = destination _ _ _ _ c.requires.well_formed (sym c.walk-2.ensures ∙ c.in_ok-place.was) (sym c.is_root_place.ensures ∙ c.if-is_root_place.false)

-- both places are judged: it is left to see what is below the mount, and whether the copies are too many
judged : (c : After-is_among) → moved (world_view c.args.world.now) c.args.space c.args.from.now c.args.to.now ≡ past_places (world_view c.args.world.now) c.in_ok-source.source c.in_ok-place.place
judged c =
    moved_judged _ _ _ _ _ _ (sym c.is_tree.ensures ∙ c.if-is_tree.false) (sym c.walk.ensures ∙ c.in_ok-source.was) (sym c.is_mount_root.ensures ∙ c.if-not-is_mount_root.false) (sym c.is_root_mount.ensures ∙ c.if-is_root_mount.false) (sym c.walk-2.ensures ∙ c.in_ok-place.was)
    (sym c.is_root_place.ensures ∙ c.if-is_root_place.false) (sym c.has_shared_parent.ensures ∙ c.if-has_shared_parent.false)

-- it was found whether the place is among them
among : (c : After-is_among) → is_below c.args.world.now.forest.mounts c.in_ok-source.source.mount c.in_ok-place.place.mount ≡ c.is_among.result
among c =
    let d = goes c in
    sym (below_among (world_view c.args.world.now) c.requires.well_formed.forest.rising _ _ d.there.0 _ (c.deref.ensures.value ∙ c.in_ok-members.ensures.subtree) d.there.1)
    ∙ sym c.is_among.ensures

-- and whether an unbindable one would come below a shared mount
inside : (c : After-is_unbindable_inside) → (let w = world_view c.args.world.now in is_some (group_of w c.in_ok-place.place.mount) && any_unbindable w c.in_ok-source.source.mount ≡ c.is_unbindable_inside.result)
inside c =
    let w = world_view c.args.world.now in
    ap (λ b. is_some (group_of w c.in_ok-place.place.mount) && b) (sym (unbindable_ids w _ _ (c.deref-2.ensures.value ∙ c.in_ok-members.ensures.subtree)))
    ∙ sym c.is_unbindable_inside.ensures

-- what is planned is the tree that moves
tree : (c : After-is_among) → copied_source (world_view c.args.world.now) c.in_ok-source.source.mount c.in_ok-source.source.dir c.in_ok-members.members.items true ≡ tree_of (world_view c.args.world.now) c.in_ok-source.source.mount
tree c = moved_tree (world_view c.args.world.now) c.in_ok-source.source c.requires.well_formed.forest.rising (sym c.is_mount_root.ensures ∙ c.if-not-is_mount_root.false) c.in_ok-members.members.items c.in_ok-members.ensures.subtree

pub returns-then-is_among-clause-refused : goal.returns-then-is_among-clause-refused
returns-then-is_among-clause-refused c _ =
    let a = (goal.at.returns-then-is_among-clause-refused c).After-is_among in
    judged a ∙ stopped _ _ _ _ (among a ∙ c.if-is_among.true)

pub returns-then-is_unbindable_inside-clause-refused : goal.returns-then-is_unbindable_inside-clause-refused
returns-then-is_unbindable_inside-clause-refused c _ =
    let a = goal.at.returns-then-is_unbindable_inside-clause-refused c in
    judged a.After-is_among ∙ passed _ _ _ _ (among a.After-is_among ∙ c.if-is_among.false) ∙ stopped _ _ _ _ (inside a.After-is_unbindable_inside ∙ c.if-is_unbindable_inside.true)

pub returns-in_err-plan-clause-refused : goal.returns-in_err-plan-clause-refused
returns-in_err-plan-clause-refused c =
    let a = goal.at.returns-in_err-plan-clause-refused c in
    let late = moved_late (world_view c.args.world.now) c.args.space c.args.from.now c.args.to.now c.in_ok-source.source c.in_ok-place.place (judged a.After-is_among) (among a.After-is_among ∙ c.if-is_among.false) (inside a.After-is_unbindable_inside ∙ c.if-is_unbindable_inside.false) in
    let f = err_from_is_err_and c.from_residual-in_err-plan.result c.from_residual-in_err-plan.ensures.1 in
    rw (f.1, f.2) (λ ne. planned_refused late _ (tree a.After-is_among) _ (c.in_err-plan.ensures.refused ne))

pub carry_out-requires-clause-source : goal.carry_out-requires-clause-source
carry_out-requires-clause-source c =
    let a = (goal.at.carry_out-requires-clause-source c).After-is_among in
    rw (c.ready.ensures.world, c.in_ok-plan.ensures.given.0 ∙ tree a, c.in_ok-plan.ensures.given.1)
    (moving_source _ _ _ _ _ _ c.requires.well_formed (sym c.walk.ensures ∙ c.in_ok-source.was) (sym c.is_root_mount.ensures ∙ c.if-is_root_mount.false) (sym c.walk-2.ensures ∙ c.in_ok-place.was) (among a ∙ c.if-is_among.false))

pub carry_out-requires-clause-destination : goal.carry_out-requires-clause-destination
carry_out-requires-clause-destination c = rw (c.ready.ensures.world, c.in_ok-plan.ensures.given.1) (goes (goal.at.carry_out-requires-clause-destination c).After-is_among)

pub returns-clause-done : goal.returns-clause-done
returns-clause-done c =
    let a = goal.at.returns-clause-done c in
    let late = moved_late (world_view c.args.world.now) c.args.space c.args.from.now c.args.to.now c.in_ok-source.source c.in_ok-place.place (judged a.After-is_among) (among a.After-is_among ∙ c.if-is_among.false) (inside a.After-is_unbindable_inside ∙ c.if-is_unbindable_inside.false) in
    planned_done late _ (tree a.After-is_among) c.in_ok-plan.ensures.few
    ∙ (λ i. Ok (copied (sym c.ready.ensures.world i) (sym (c.in_ok-plan.ensures.given.0 ∙ tree a.After-is_among) i) (sym c.in_ok-plan.ensures.given.1 i)))
    ∙ ap (λ v. Ok v) (sym c.carry_out.ensures.world)
