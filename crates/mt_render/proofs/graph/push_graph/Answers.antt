use Rattle.std.proofs.Common.{◌++◌, ◌∙◌, ap}
use Rattle.std.proofs.lemmas.Result.{on_ok_weaker}
use Rattle.mt_render.specs.Groups.{named_groups}
use Rattle.mt_render.specs.Graphs.{graph_of}
use Rattle.mt_render.proofs.graph.push_graph.Goals as goal

pub returns : goal.returns
returns c =
    let groups = c.in_ok-palette.ensures ∙ ap named_groups c.in_ok-nodes.ensures in
    on_ok_weaker c.push_graph_of.result (λ e. e ∙ (λ i. c.args.text.now.items ++ graph_of (groups i) (c.in_ok-nodes.ensures i) c.args.names.now c.args.parts.now)) c.push_graph_of.ensures
