use Rattle.std.proofs.Common.{◌≤◌, ◌==◌, ◌≡◌, false, sym, ◌∙◌, arith, length, eq-eqb}
use Rattle.std.proofs.lemmas.Bool.Decides.{nat_tests}
use Rattle.mt_reach.proofs.DownLaws.{begun_up, up_met, up_left, up_ended, up_step}
use Rattle.mt_reach.proofs.refusals.go_up.Goals as goal

pub up-init : goal.up-init
up-init c = begun_up c.args.rows.now c.args.id c.args.from _ c.clear.ensures.items

pub returns-then-here-id-clause-met : goal.returns-then-here-id-clause-met
returns-then-here-id-clause-met c =
    let rows = c.args.rows.now in
    let l : c.up._step ≤ length rows = omega (arith, c.up-test.true, c.len-step-end.ensures) in
    sym (up_met rows c.args.id c.args.from c.up._step c.up.here c.up.way.items c.up.way.items c.up.invariant l (eq-eqb _ _ c.if-here-id.true))

pub returns-then-here-id-clause-way : goal.returns-then-here-id-clause-way
returns-then-here-id-clause-way c =
    let rows = c.args.rows.now in
    let l : c.up._step ≤ length rows = omega (arith, c.up-test.true, c.len-step-end.ensures) in
    λ _. up_left rows c.args.id c.args.from c.up._step c.up.here c.up.way.items c.up.way.items c.up.invariant l (eq-eqb _ _ c.if-here-id.true)

pub returns-in_default-clause-met : goal.returns-in_default-clause-met
returns-in_default-clause-met c =
    let rows = c.args.rows.now in
    let l : c.up._step ≤ length rows = omega (arith, c.up-test.true, c.len-step-end.ensures) in
    let off : (c.up.here == c.args.id) ≡ false = grind (arith, nat_tests) in
    sym (up_ended rows c.args.id c.args.from c.up._step c.up.here c.up.way.items c.up.way.items c.up.invariant l off (sym c.parent_of.ensures ∙ c.in_default.is))

pub up-preserved : goal.up-preserved
up-preserved c =
    let rows = c.args.rows.now in
    let l : c.up._step ≤ length rows = omega (arith, c.up-test.true, c.len-step-end.ensures) in
    let off : (c.up.here == c.args.id) ≡ false = grind (arith, nat_tests) in
    up_step rows c.args.id c.args.from c.up._step c.up.here c.up.way.items c.push.new.self.items c.up.invariant l off c.in-Some.parent (sym c.parent_of.ensures ∙ c.in-Some.is) c.in_ok-push.ensures.items
