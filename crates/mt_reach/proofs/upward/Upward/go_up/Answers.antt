use Rattle.std.proofs.Common.{◌≤◌, false, sym, ap, ◌∙◌, arith, length}
use Rattle.mt_reach.specs.Tree.{step_up}
use Rattle.mt_reach.specs.Upward.{UpwardView}
use Rattle.mt_reach.proofs.WayLaws.{way_ended, way_passed, way_step, way_answers}
use Rattle.mt_reach.proofs.upward.Upward.go_up.Goals as goal

pub returns-in_default-step_up-clause-met : goal.returns-in_default-step_up-clause-met
returns-in_default-step_up-clause-met c =
    let s = c.args.self.now in
    let none = ap (λ (u : UpwardView). step_up u.rows u.step c.up.here) (sym c.self.view_is) ∙ sym c.step_up.ensures ∙ c.in_default-step_up.is in
    sym (way_ended s.rows s.step s.goal c.args.number c.up._step c.up.here c.up.way.items c.push.new.self.items c.up.invariant (c.known.ensures.other c.in_default.is) c.in_ok-push.ensures.items none)

pub returns-in_default-step_up-clause-way : goal.returns-in_default-step_up-clause-way
returns-in_default-step_up-clause-way c =
    let s = c.args.self.now in
    let off = c.known.ensures.other c.in_default.is in
    let none = ap (λ (u : UpwardView). step_up u.rows u.step c.up.here) (sym c.self.view_is) ∙ sym c.step_up.ensures ∙ c.in_default-step_up.is in
    let longer = c.in_ok-push.ensures.items in
    way_answers s.rows s.step s.goal false c.args.number c.push.new.self.items
    (sym (way_ended s.rows s.step s.goal c.args.number c.up._step c.up.here c.up.way.items c.push.new.self.items c.up.invariant off longer none))
    (way_passed s.rows s.step s.goal c.args.number c.up._step c.up.here c.up.way.items c.push.new.self.items c.up.invariant off longer)

pub up-preserved : goal.up-preserved
up-preserved c =
    let s = c.args.self.now in
    let is = ap (λ (u : UpwardView). step_up u.rows u.step c.up.here) (sym c.self.view_is) ∙ sym c.step_up.ensures ∙ c.in-Some-step_up.is in
    let all = c.len-step-end.ensures ∙ ap (λ (u : UpwardView). length u.rows) c.self.view_is in
    let within : c.up._step ≤ length s.rows = omega (arith, c.up-test.true, all) in
    way_step s.rows s.step s.goal c.args.number c.up._step c.up.here c.up.way.items c.push.new.self.items c.up.invariant (c.known.ensures.other c.in_default.is) c.in_ok-push.ensures.items c.in-Some-step_up.above is within
