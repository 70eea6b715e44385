use Rattle.std.proofs.Common.{◌∙◌}
use Rattle.mt_render.proofs.NodeLaws.{nodes_joined}
use Rattle.mt_render.proofs.objects.tree_nodes.Goals as goal

pub returns : goal.returns
returns c =
    nodes_joined c.in_ok-children.children c.args.table.now c.deref-2.result.now c.deref-3.result.now _ _ _ c.in_ok-values.ensures c.in_ok-push_deep.ensures c.in_ok-push_strays.ensures c.in_ok-children.ensures
    (c.deref-2.ensures.value ∙ c.in_ok-drawn.ensures) (c.deref-3.ensures.value ∙ c.in_ok-others.ensures)
