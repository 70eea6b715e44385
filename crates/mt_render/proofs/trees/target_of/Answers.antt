use Rattle.std.proofs.Common.{ℕ, ◌+◌, List, ◌++◌, sym, ap, ◌∙◌}
use Rattle.mt_terminal.specs.Terminal.{cells_of_text}
use Rattle.mt_render.specs.Trees.{lead}
use Rattle.mt_render.specs.Steps.{led}
use Rattle.mt_render.proofs.trees.target_of.Goals as goal

pub behind-requires : goal.behind-requires
behind-requires c =
    let lines = lead c.args.path.now.strokes (led c.args.path.now.lasts.items c.args.step.now) in
    let begun = c.in_ok-width.ensures.text ∙ ap (λ (t : List ℕ). t ++ lines) c.in_ok-text.ensures.items in
    ap cells_of_text (c.in_ok-extend_from_slice.ensures.items ∙ (λ i. begun i ++ c.deref.ensures.value i)) ∙ c.in_ok-width.ensures.width.cells c.in_ok-point.point.items
    ∙ ap (λ t. c.in_ok-width.width + cells_of_text t) (sym c.deref-2.ensures.value)
