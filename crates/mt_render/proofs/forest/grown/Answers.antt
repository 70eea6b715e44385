use Rattle.std.proofs.Common.{List, ◌++◌, length, sym, ap, ◌∙◌}
use Rattle.mt_render.specs.Forest.{without_lines}
use Rattle.mt_render.specs.Steps.{StepView, top_step, steps_from}
use Rattle.mt_render.proofs.StepLaws.{from_steps}
use Rattle.mt_render.proofs.forest.grown.Goals as goal

pub returns : goal.returns
returns c =
    let rows = c.args.children.now in
    let top = c.args.top.now in
    c.in_ok-push_grown.ensures ∙ ap (λ (ss : List StepView). ss ++ steps_from rows (length rows) (top_step top)) c.new-drawn.ensures.items ∙ sym (from_steps rows (length rows) (without_lines top))
