use Rattle.std.proofs.Common.{◌≡◌, ◌≤◌, true, length, refl, sym, ◌∙◌, arith, Ok}
use Rattle.std.proofs.lemmas.Bool.Decides.{nat_tests}
use Rattle.std.proofs.lemmas.Result.{err_from_is_err_and}
use Rattle.mt_propagate.specs.World.{WorldView, world_view}
use Rattle.mt_propagate.specs.Limits.{mounts_at_most, too_many_mounts}
use Rattle.mt_propagate.specs.Sound.{IsSource}
use Rattle.mt_bind.specs.Sources.{source_at}
use Rattle.mt_bind.specs.Mounting.{copied_with_id, bound}
use Rattle.mt_bind.proofs.MountLaws.{bound_source, destination}
use Rattle.mt_bind.proofs.MemberLaws.{stays, full}
use Rattle.mt_bind.proofs.AcceptedLaws.{IsLate, bound_late, planned_done, planned_refused}
use Rattle.mt_bind.proofs.binding.bind.Goals.{After-too_many_mounts}
use Rattle.mt_bind.proofs.binding.bind.Goals as goal

-- where one more is too many, there are as many as there can be
most : (w : WorldView) → too_many_mounts w 1 ≡ true → mounts_at_most w ≤ length w.forest
most w e = grind (arith, nat_tests)

-- it is left to see whether the copies are too many
late : (c : After-too_many_mounts) → (let w = world_view c.args.world.now in let src = source_at w c.args.recursive c.in_ok-source.source in
    IsLate (bound w c.args.space c.args.recursive c.args.from.now c.args.to.now) w src c.in_ok-place.place (copied_with_id w src c.in_ok-place.place))
late c =
    bound_late _ _ _ _ _ _ _ (sym c.walk.ensures ∙ c.in_ok-source.was) (sym c.walk-2.ensures ∙ c.in_ok-place.was) (sym c.is_root_place.ensures ∙ c.if-is_root_place.false)
    (sym c.is_unbindable.ensures ∙ c.if-is_unbindable.false)

-- what is bound is a source tree
tree : (c : After-too_many_mounts) → IsSource (world_view c.args.world.now) (source_at (world_view c.args.world.now) c.args.recursive c.in_ok-source.source) c.in_ok-place.place
tree c = bound_source _ _ _ c.args.recursive c.in_ok-source.source _ c.requires.well_formed (sym c.walk.ensures ∙ c.in_ok-source.was)

pub returns-then-too_many_mounts-clause-refused : goal.returns-then-too_many_mounts-clause-refused
returns-then-too_many_mounts-clause-refused c _ =
    let w = world_view c.args.world.now in
    let a = (goal.at.returns-then-too_many_mounts-clause-refused c).After-too_many_mounts in
    planned_refused (late a) _ refl _ (refl, full w _ _ (stays w c.in_ok-source.source c.args.recursive) (tree a) (most w (sym c.too_many_mounts.ensures ∙ c.if-too_many_mounts.true)))

pub returns-in_err-plan-clause-refused : goal.returns-in_err-plan-clause-refused
returns-in_err-plan-clause-refused c =
    let f = err_from_is_err_and c.from_residual-in_err-plan.result c.from_residual-in_err-plan.ensures.1 in
    rw (f.1, f.2) (λ ne. planned_refused (late (goal.at.returns-in_err-plan-clause-refused c).After-too_many_mounts) _ c.in_ok-sources.ensures.sources _ (c.in_err-plan.ensures.refused ne))

pub carry_out-requires-clause-source : goal.carry_out-requires-clause-source
carry_out-requires-clause-source c =
    rw (c.ready.ensures.world, c.in_ok-plan.ensures.given.0 ∙ c.in_ok-sources.ensures.sources, c.in_ok-plan.ensures.given.1) (tree (goal.at.carry_out-requires-clause-source c).After-too_many_mounts)

pub carry_out-requires-clause-destination : goal.carry_out-requires-clause-destination
carry_out-requires-clause-destination c =
    rw (c.ready.ensures.world, c.in_ok-plan.ensures.given.1)
    (destination _ _ _ _ c.requires.well_formed (sym c.walk-2.ensures ∙ c.in_ok-place.was) (sym c.is_root_place.ensures ∙ c.if-is_root_place.false))

pub returns-clause-done : goal.returns-clause-done
returns-clause-done c =
    planned_done (late (goal.at.returns-clause-done c).After-too_many_mounts) _ c.in_ok-sources.ensures.sources c.in_ok-plan.ensures.few
    ∙ (λ i. Ok (copied_with_id (sym c.ready.ensures.world i) (sym (c.in_ok-plan.ensures.given.0 ∙ c.in_ok-sources.ensures.sources) i) (sym c.in_ok-plan.ensures.given.1 i)))
    ∙ (λ i. Ok (sym c.carry_out.ensures.world i, sym c.carry_out.ensures.top i))
