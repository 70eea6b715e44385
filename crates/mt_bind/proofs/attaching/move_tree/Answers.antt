use Rattle.std.proofs.Common.{◌≡◌, ◌&&◌, ◌==◌, true, false, ℕ, Some, sym, ap, ◌∙◌, Ok}
use Rattle.std.specs.Prelude.{is_some}
use Rattle.std.proofs.lemmas.Bool.{ne_eqb}
use Rattle.std.proofs.lemmas.Result.{err_from_is_err_and}
use Rattle.mt_skel.specs.declared.fault.Fault.TheVariants.{IntoItself, UnbindableInside}
use Rattle.mt_skel.proofs.OutcomeLaws.{passed, stopped}
use Rattle.mt_mounts.specs.declared.mount.Mount.{Mount}
use Rattle.mt_mounts.specs.Forest.{id_of, root_mount}
use Rattle.mt_mounts.proofs.SlotLaws.{mapped}
use Rattle.mt_propagate.specs.World.{world_view, root_dir, group_of}
use Rattle.mt_propagate.specs.Copied.{copied}
use Rattle.mt_propagate.specs.Plans.{copied_source}
use Rattle.mt_propagate.specs.Sound.{IsSource, IsDestination}
use Rattle.mt_propagate.proofs.WalkLaws.{walked}
use Rattle.mt_bind.specs.Attaching.{whole_tree, has_unbindable, with_attached, attached}
use Rattle.mt_bind.proofs.MountLaws.{destination}
use Rattle.mt_bind.proofs.AcceptedLaws.{IsLate, planned_done, planned_refused}
use Rattle.mt_bind.proofs.AttachingLaws.{whole_source, whole_by_ids, unbindable_in, past_place, attached_judged, attached_late}
use Rattle.mt_bind.proofs.attaching.move_tree.Goals.{After-is_unbindable_inside}
use Rattle.mt_bind.proofs.attaching.move_tree.Goals as goal

-- the root mount of the tree
root : (c : After-is_unbindable_inside) → (m : Mount) × (root_mount c.args.world.now.forest.mounts c.args.tree ≡ Some m) × (m.id ≡ c.in-Some.top)
root c = mapped id_of (root_mount c.args.world.now.forest.mounts c.args.tree) c.in-Some.top (sym c.root.ensures ∙ c.in-Some.is)

-- the tree and its place are judged: it is left to see whether the place is in it, and whether it may go there
judged : (c : After-is_unbindable_inside) → attached (world_view c.args.world.now) c.args.tree c.args.space c.args.path.now ≡ past_place (world_view c.args.world.now) c.args.tree c.args.space c.in_ok-place.place
judged c =
    attached_judged (world_view c.args.world.now) c.args.tree c.args.space c.args.path.now c.in_ok-place.place (ap is_some (root c).1) (sym c.is_tree.ensures ∙ c.if-not-is_tree.false)
    (sym c.walk.ensures ∙ c.in_ok-place.was) (sym c.is_root_place.ensures ∙ c.if-is_root_place.false)

-- it was found whether an unbindable mount would come below a shared one
inside : (c : After-is_unbindable_inside) → (let w = world_view c.args.world.now in is_some (group_of w c.in_ok-place.place.mount) && has_unbindable w c.args.tree ≡ c.is_unbindable_inside.result)
inside c =
    let w = world_view c.args.world.now in
    ap (λ b. is_some (group_of w c.in_ok-place.place.mount) && b) (sym (unbindable_in w c.args.tree c.deref.result.now (c.deref.ensures.value ∙ c.in_ok-ids.ensures.ids)))
    ∙ sym c.is_unbindable_inside.ensures

late : (c : After-is_unbindable_inside) → c.is_unbindable_inside.result ≡ false
    → (let w = world_view c.args.world.now in IsLate (attached w c.args.tree c.args.space c.args.path.now) w (whole_tree w c.args.tree) c.in_ok-place.place (with_attached w c.args.tree c.in_ok-place.place))
late c may = attached_late (world_view c.args.world.now) c.args.tree c.args.space c.args.path.now c.in_ok-place.place (judged c) (ne_eqb c.args.space c.args.tree c.if-space-tree.false) (inside c ∙ may)

-- what is planned is the whole tree
tree : (c : After-is_unbindable_inside) → (let w = world_view c.args.world.now in copied_source w c.in-Some.top (root_dir w c.in-Some.top) c.in_ok-ids.ids.items true ≡ whole_tree w c.args.tree)
tree c =
    let w = world_view c.args.world.now in
    let r = root c in
    ap (λ (t : ℕ). copied_source w t (root_dir w t) c.in_ok-ids.ids.items true) (sym r.2)
    ∙ whole_by_ids w c.requires.well_formed c.args.tree r.0 r.1 c.in_ok-ids.ids.items c.in_ok-ids.ensures.ids

goes : (c : After-is_unbindable_inside) → IsDestination (world_view c.args.world.now) c.in_ok-place.place
goes c = destination _ _ _ _ c.requires.well_formed (sym c.walk.ensures ∙ c.in_ok-place.was) (sym c.is_root_place.ensures ∙ c.if-is_root_place.false)

source : (c : After-is_unbindable_inside) → IsSource (world_view c.args.world.now) (whole_tree (world_view c.args.world.now) c.args.tree) c.in_ok-place.place
source c =
    let w = world_view c.args.world.now in
    let r = root c in
    let q = (walked w c.args.space c.requires.well_formed c.args.path.now c.in_ok-place.place (sym c.walk.ensures ∙ c.in_ok-place.was)).0 in
    whole_source w c.requires.well_formed c.args.tree r.0 r.1 c.in_ok-place.place q.0 (sym c.is_tree.ensures ∙ c.if-not-is_tree.false) q.1
    (λ same. c.if-space-tree.false (sym q.2 ∙ same))

pub returns-then-is_unbindable_inside-clause-refused : goal.returns-then-is_unbindable_inside-clause-refused
returns-then-is_unbindable_inside-clause-refused c _ =
    let a = (goal.at.returns-then-is_unbindable_inside-clause-refused c).After-is_unbindable_inside in
    judged a ∙ passed (c.args.space == c.args.tree) IntoItself _ _ (ne_eqb c.args.space c.args.tree c.if-space-tree.false) ∙ stopped _ UnbindableInside _ _ (inside a ∙ c.if-is_unbindable_inside.true)

pub returns-in_err-plan-clause-refused : goal.returns-in_err-plan-clause-refused
returns-in_err-plan-clause-refused c =
    let a = (goal.at.returns-in_err-plan-clause-refused c).After-is_unbindable_inside in
    let f = err_from_is_err_and c.from_residual-in_err-plan.result c.from_residual-in_err-plan.ensures.1 in
    rw (f.1, f.2) (λ ne. planned_refused (late a c.if-is_unbindable_inside.false) _ (c.whole_tree-sources.ensures ∙ tree a) _ (c.in_err-plan.ensures.refused ne))

pub carry_out-requires-clause-source : goal.carry_out-requires-clause-source
carry_out-requires-clause-source c =
    let a = (goal.at.carry_out-requires-clause-source c).After-is_unbindable_inside in
    rw (c.ready.ensures.world, c.in_ok-plan.ensures.given.0 ∙ c.whole_tree-sources.ensures ∙ tree a, c.in_ok-plan.ensures.given.1) (source a)

pub carry_out-requires-clause-destination : goal.carry_out-requires-clause-destination
carry_out-requires-clause-destination c = rw (c.ready.ensures.world, c.in_ok-plan.ensures.given.1) (goes (goal.at.carry_out-requires-clause-destination c).After-is_unbindable_inside)

pub returns-clause-done : goal.returns-clause-done
returns-clause-done c =
    let a = (goal.at.returns-clause-done c).After-is_unbindable_inside in
    planned_done (late a c.if-is_unbindable_inside.false) _ (c.whole_tree-sources.ensures ∙ tree a) c.in_ok-plan.ensures.few
    ∙ (λ i. Ok (copied (sym c.ready.ensures.world i) (sym (c.in_ok-plan.ensures.given.0 ∙ c.whole_tree-sources.ensures ∙ tree a) i) (sym c.in_ok-plan.ensures.given.1 i)))
    ∙ ap (λ v. Ok v) (sym c.carry_out.ensures.world)
