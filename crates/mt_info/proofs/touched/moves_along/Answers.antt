use Rattle.std.proofs.Common.{◌≡◌, ◌∙◌, ◌-◌, ◌+◌, ◌||◌, length, sym, arith}
use Rattle.mt_mounts.specs.Forest.{parent}
use Rattle.mt_propagate.specs.World.{world_view}
use Rattle.mt_info.specs.MayDiffer.{has_moved, moves_along}
use Rattle.mt_info.proofs.AboveLaws.{above, above-met}
use Rattle.mt_info.proofs.touched.moves_along.Goals.{After-has_moved}
use Rattle.mt_info.proofs.touched.moves_along.Goals as goal

-- the mount that is met moved, or one above it
met : (c : After-has_moved) → (let w = world_view c.args.before.now in let v = world_view c.args.after.now in
    (c.has_moved.result || above (parent v.forest) (has_moved w v) (length v.forest - (c.steps._step + 1)) c.in-Some.up) ≡ moves_along w v c.args.id)
met c =
    let w = world_view c.args.before.now in
    let v = world_view c.args.after.now in
    above-met (parent v.forest) (has_moved w v) (length v.forest) c.steps._step c.steps.here c.in-Some.up (moves_along w v c.args.id) c.has_moved.result
    (omega (arith, c.steps-test.true, c.len-step-end.ensures)) (sym c.parent.ensures ∙ c.in-Some.is) c.steps.invariant (sym c.has_moved.ensures)

pub returns-then-has_moved : goal.returns-then-has_moved
returns-then-has_moved c = rw c.if-has_moved.true at (met (goal.at.returns-then-has_moved c).After-has_moved)

pub steps-preserved : goal.steps-preserved
steps-preserved c = rw c.if-has_moved.false at (met (goal.at.steps-preserved c).After-has_moved)
