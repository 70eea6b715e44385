use Rattle.std.proofs.Common.{◌∙◌}
use Rattle.mt_render.proofs.ForestLaws.{drawn_one, fewer}
use Rattle.mt_render.proofs.forest.push_grown.Goals as goal

pub steps-preserved : goal.steps-preserved
steps-preserved c =
    drawn_one c.args.children.now c.in-Some.step c.steps.stack.items c.pop.new.self.items c.push_below.new.stack.items c.steps.drawn.items c.push-in-Some.new.self.items
    c.in-Some.ensures.items c.in_ok-push_below.ensures c.in_ok-push-2.ensures.items
    ∙ c.steps.invariant

pub steps-smaller : goal.steps-smaller
steps-smaller c =
    fewer c.args.children.now c.in-Some.step c.steps.stack.items c.pop.new.self.items c.push_below.new.stack.items c.steps.drawn.items c.push-in-Some.new.self.items
    c.in-Some.ensures.items c.in_ok-push_below.ensures c.in_ok-push-2.ensures.items
