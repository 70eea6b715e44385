use Rattle.std.proofs.Common.{codes}
use Rattle.std.specs.List.{flat_map}
use Rattle.mt_render.specs.Groups.{group_edges}
use Rattle.mt_render.specs.Legends.{legend}
use Rattle.mt_render.specs.Graphs.{cluster, parent_edges}
use Rattle.mt_render.proofs.AppendLaws.{six}
use Rattle.mt_render.proofs.graph.push_graph_of.Goals as goal

pub returns : goal.returns
returns c =
    let gs = c.args.palette.now in
    let all = c.args.nodes.now in
    let parts = c.args.parts.now in
    six c.args.text.now.items c.extend_from_slice.new.self.items c.push_clusters.new.text.items c.push_all_parents.new.text.items c.push_groups.new.text.items c.push_legend.new.text.items c.extend_from_slice-2.new.self.items
    (codes "digraph mounts {\nnode [shape=box, fontsize=10, height=0];\nedge [fontsize=10];\n") (flat_map (cluster gs c.args.names.now) parts) (flat_map parent_edges parts) (group_edges gs all) (legend gs all) (codes "}\n")
    c.in_ok-extend_from_slice.ensures.items c.in_ok-push_clusters.ensures c.in_ok-push_all_parents.ensures c.in_ok-push_groups.ensures c.in_ok-push_legend.ensures c.in_ok-extend_from_slice-2.ensures.items
