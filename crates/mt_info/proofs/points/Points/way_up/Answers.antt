use Rattle.std.proofs.Common.{◌≡◌, ◌++◌, ◌-◌, ◌<◌, Some, sym, ap, subst, refl, ◌∙◌, arith, reverse, length, append-nil}
use Rattle.std.specs.List.{flat_map, list_all}
use Rattle.std.specs.Option.{IsSome}
use Rattle.mt_skel.specs.Chain.{ends}
use Rattle.mt_mounts.specs.Forest.{mount_at, parent}
use Rattle.mt_propagate.specs.declared.world.World.{World}
use Rattle.mt_propagate.specs.World.{world_view}
use Rattle.mt_info.specs.Table.{mount_point}
use Rattle.mt_info.specs.Steps.{is_step, step_names}
use Rattle.mt_info.proofs.PointLaws.{LeadsDown, step_up, point_of_root, point_of_last, ends_nearer}
use Rattle.mt_info.proofs.points.Points.way_up.Goals.{In_ok-push}
use Rattle.mt_info.proofs.points.Points.way_up.Goals as goal

pub up-init : goal.up-init
up-init c =
    let w = world_view c.args.self.now in
    let none : length w.forest - 0 ≡ length w.forest = omega arith in
    record {
      led = record {
        point =
            sym (append-nil (mount_point w c.args.mount.now.id))
            ∙ ap (λ t. mount_point w c.args.mount.now.id ++ flat_map (step_names w.skel) (reverse t)) (sym c.clear.ensures.items);
        steps = ap (list_all (is_step w.skel)) c.clear.ensures.items;
        there = c.requires.there;
      };
      ends = ap (λ f. ends (parent w.forest) f c.args.mount.now.id) none ∙ c.requires.well_formed.forest.no_cycle c.args.mount.now.id;
      within = omega arith;
    }

pub returns-in_default-clause-point : goal.returns-in_default-clause-point
returns-in_default-clause-point c =
    let w = world_view c.args.self.now in
    c.up.invariant.led.point ∙ ap (λ t. t ++ flat_map (step_names w.skel) (reverse c.up.way.items)) (point_of_root w c.up.here.id c.up.here c.up.invariant.led.there c.in_default.is)

-- a parent is there, and with the step from it the way leads down from it
pub unwrap-parent-requires : goal.unwrap-parent-requires
unwrap-parent-requires c =
    let q = c.requires.well_formed.forest.placed c.up.here.id c.up.here c.in-Some.place c.up.invariant.led.there c.in-Some.is in
    let here = ap (λ (w : World). mount_at w.forest.mounts c.in-Some.place.mount) c.self.view_is in
    subst IsSome (sym (c.get.ensures ∙ here ∙ q.1)) refl

found : (c : In_ok-push) → mount_at c.args.self.now.forest.mounts c.in-Some.place.mount ≡ Some c.unwrap-parent.result
found c = sym (ap (λ (w : World). mount_at w.forest.mounts c.in-Some.place.mount) c.self.view_is) ∙ sym c.get.ensures ∙ c.unwrap-parent.ensures

led : (c : In_ok-push) → LeadsDown (world_view c.args.self.now) c.args.mount.now.id c.unwrap-parent.result c.push.new.self.items
led c =
    step_up (world_view c.args.self.now) c.args.mount.now.id c.up.here c.unwrap-parent.result c.in-Some.place c.up.way.items c.push.new.self.items c.requires.well_formed
    c.up.invariant.led c.in-Some.is (found c) c.in_ok-push.ensures.items

pub returns-in-Some-known-clause-point : goal.returns-in-Some-known-clause-point
returns-in-Some-known-clause-point c =
    let w = world_view c.args.self.now in
    (led (goal.at.returns-in-Some-known-clause-point c).In_ok-push).point
    ∙ ap (λ t. t ++ flat_map (step_names w.skel) (reverse c.push.new.self.items)) (sym c.in-Some-known.ensures)

pub returns-in-Some-known-clause-steps : goal.returns-in-Some-known-clause-steps
returns-in-Some-known-clause-steps c = (led (goal.at.returns-in-Some-known-clause-steps c).In_ok-push).steps

pub up-preserved : goal.up-preserved
up-preserved c =
    let w = world_view c.args.self.now in
    let a = (goal.at.up-preserved c).In_ok-push in
    let all = c.len-step-end.ensures ∙ ap (λ (w : World). length w.forest.mounts) c.self.view_is in
    let within : c.up._step < length w.forest = omega (arith, c.up-test.true, all) in
    record {
      led = led a;
      ends = ends_nearer w (length w.forest) c.up._step c.up.here c.unwrap-parent.result c.in-Some.place within c.up.invariant.led.there c.in-Some.is (found a) c.up.invariant.ends;
      within = omega (arith, within);
    }

-- there are no more steps than mounts
pub returns-clause-point : goal.returns-clause-point
returns-clause-point c =
    let w = world_view c.args.self.now in
    let all = c.len-step-end.ensures ∙ ap (λ (w : World). length w.forest.mounts) c.self.view_is in
    let none : length w.forest - c.up._step ≡ 0 = omega (arith, c.up-test.false, all, c.up.invariant.within) in
    c.up.invariant.led.point
    ∙ ap (λ t. t ++ flat_map (step_names w.skel) (reverse c.up.way.items))
    (point_of_last w c.up.here.id c.up.here c.up.invariant.led.there (sym (ap (λ f. ends (parent w.forest) f c.up.here.id) none) ∙ c.up.invariant.ends))
