use Rattle.std.proofs.Common.{refl, length, arith}
use Rattle.mt_reach.specs.Walking.{stacked_at}
use Rattle.mt_reach.proofs.WalkedLaws.{begun_climbing, climbed, climbed_all, climb_step}
use Rattle.mt_reach.proofs.walking.stack_top.Goals as goal

pub stack-init : goal.stack-init
stack-init c = begun_climbing (stacked_at c.args.rows.now c.args.point.now) (length c.args.rows.now) c.args.start.now c.args.start.now refl

pub returns-in_default : goal.returns-in_default
returns-in_default c = climbed (stacked_at c.args.rows.now c.args.point.now) (length c.args.rows.now) c.args.start.now c.stack._step c.stack.here.now c.stack.invariant c.in_default.ensures

pub stack-preserved : goal.stack-preserved
stack-preserved c = climb_step (stacked_at c.args.rows.now c.args.point.now) (length c.args.rows.now) c.args.start.now c.stack._step c.stack.here.now c.stack.invariant c.in-Some.row.now c.in-Some.ensures (omega (arith, c.stack-test.true, c.len-step-end.ensures))

pub returns : goal.returns
returns c = climbed_all (stacked_at c.args.rows.now c.args.point.now) (length c.args.rows.now) c.args.start.now c.stack._step c.stack.here.now c.stack.invariant (omega (arith, c.stack-test.false, c.len-step-end.ensures))
