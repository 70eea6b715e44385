use Rattle.std.proofs.Common.{◌≤◌, refl, sym, ◌∙◌, length, arith}
use Rattle.mt_reach.proofs.GroupsLaws.{begun_pushing, pushed_last, pushed_step}
use Rattle.mt_reach.proofs.reason.push_groups.Goals as goal

pub up-init : goal.up-init
up-init c = begun_pushing c.args.rows.now c.args.step c.args.group c.args.groups.now.items c.args.groups.now.items refl

pub returns-in_default-clause-groups : goal.returns-in_default-clause-groups
returns-in_default-clause-groups c =
    let l : c.up._step ≤ length c.args.rows.now = omega (arith, c.up-test.true, c.len-step-end.ensures) in
    pushed_last c.args.rows.now c.args.step c.args.group c.up._step c.up.here c.args.groups.now.items c.up.groups.items c.push.new.self.items c.up.invariant l c.in_ok-push.ensures.items (sym c.step_up.ensures ∙ c.in_default.is)

pub up-preserved : goal.up-preserved
up-preserved c =
    let l : c.up._step ≤ length c.args.rows.now = omega (arith, c.up-test.true, c.len-step-end.ensures) in
    pushed_step c.args.rows.now c.args.step c.args.group c.up._step c.up.here c.args.groups.now.items c.up.groups.items c.push.new.self.items c.up.invariant l c.in_ok-push.ensures.items c.in-Some.master (sym c.step_up.ensures ∙ c.in-Some.is)
