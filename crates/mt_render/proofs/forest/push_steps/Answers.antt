use Rattle.std.proofs.Common.{◌==◌, refl}
use Rattle.mt_render.proofs.ForestLaws.{step_pushed}
use Rattle.mt_render.proofs.forest.push_steps.Goals as goal

pub children-preserved : goal.children-preserved
children-preserved c =
    step_pushed (λ row. row.now) c.args.depth c.children.step c.args.children.now c.index-children-children.result (c.children.step == 0) c.args.stack.now.items c.children.stack.items c.push.new.self.items
    c.children-test.true c.index-children-children.is refl c.children.invariant c.in_ok-push.ensures.items
