use Rattle.std.proofs.Common.{◌≡◌, Ok, sym, ◌∙◌, arith}
use Rattle.std.proofs.lemmas.Result.{err_from_is_err_and}
use Rattle.mt_skel.proofs.SkeletonLaws.{directory_within}
use Rattle.mt_propagate.specs.World.{world_view}
use Rattle.mt_propagate.specs.Plans.{fresh_source, source_of}
use Rattle.mt_propagate.specs.declared.copies.Sources.TheVariants.{Fresh}
use Rattle.mt_setattr.specs.Words.{new_with}
use Rattle.mt_bind.specs.Sources.{fresh_with}
use Rattle.mt_bind.specs.Mounting.{copied_with_id, mounted_with}
use Rattle.mt_bind.proofs.SourceLaws.{fresh_is_source}
use Rattle.mt_bind.proofs.MountLaws.{destination}
use Rattle.mt_bind.proofs.AcceptedLaws.{IsLate, mounted_late, planned_done, planned_refused}
use Rattle.mt_bind.proofs.mounting.mount_with_attrs.Goals.{After-attrs-attrs}
use Rattle.mt_bind.proofs.mounting.mount_with_attrs.Goals as goal

-- it is left to see whether the copies are too many
late : (c : After-attrs-attrs) → (let w = world_view c.args.world.now in let src = fresh_with w c.in-Some.fs (new_with c.args.set.now) in
    IsLate (mounted_with w c.args.space c.args.fs.now c.args.path.now c.args.set.now) w src c.in_ok-place.place (copied_with_id w src c.in_ok-place.place))
late c = mounted_late _ _ _ _ _ _ _ (sym c.fs.ensures.number ∙ c.in-Some.is) (sym c.walk.ensures ∙ c.in_ok-place.was) (sym c.is_root_place.ensures ∙ c.if-is_root_place.false) (sym c.sets_two_times.ensures ∙ c.if-sets_two_times.false)

-- what is planned is a fresh mount
given : (c : After-attrs-attrs) → source_of (world_view c.args.world.now) (Fresh c.root-root.result c.attrs-attrs.result) ≡ fresh_with (world_view c.args.world.now) c.in-Some.fs (new_with c.args.set.now)
given c = λ i. fresh_source (c.root-root.ensures.root i) (c.attrs-attrs.ensures i)

pub returns-in_err-plan-clause-refused : goal.returns-in_err-plan-clause-refused
returns-in_err-plan-clause-refused c =
    let a = (goal.at.returns-in_err-plan-clause-refused c).After-attrs-attrs in
    let f = err_from_is_err_and c.from_residual-in_err-plan.result c.from_residual-in_err-plan.ensures.1 in
    rw (f.1, f.2) (λ ne. planned_refused (late a) _ (given a) _ (c.in_err-plan.ensures.refused ne))

pub carry_out-requires-clause-source : goal.carry_out-requires-clause-source
carry_out-requires-clause-source c =
    let w = world_view c.args.world.now in
    let low = directory_within w.skel c.root-root.result c.root-root.ensures.there in
    rw (c.ready.ensures.world, c.in_ok-plan.ensures.given.0, c.in_ok-plan.ensures.given.1, c.root-root.ensures.root, c.attrs-attrs.ensures)
    (fresh_is_source w c.requires.well_formed c.in-Some.fs (new_with c.args.set.now) c.in_ok-place.place (omega (arith, low)))

pub carry_out-requires-clause-destination : goal.carry_out-requires-clause-destination
carry_out-requires-clause-destination c =
    rw (c.ready.ensures.world, c.in_ok-plan.ensures.given.1)
    (destination _ _ _ _ c.requires.well_formed (sym c.walk.ensures ∙ c.in_ok-place.was) (sym c.is_root_place.ensures ∙ c.if-is_root_place.false))

pub returns-clause-done : goal.returns-clause-done
returns-clause-done c =
    let a = (goal.at.returns-clause-done c).After-attrs-attrs in
    planned_done (late a) _ (given a) c.in_ok-plan.ensures.few
    ∙ (λ i. Ok (copied_with_id (sym c.ready.ensures.world i) (sym (c.in_ok-plan.ensures.given.0 ∙ given a) i) (sym c.in_ok-plan.ensures.given.1 i)))
    ∙ (λ i. Ok (sym c.carry_out.ensures.world i, sym c.carry_out.ensures.top i))
