use Rattle.std.proofs.Common.{codes, decimal}
use Rattle.std.specs.List.{flat_map}
use Rattle.mt_render.specs.Graphs.{node_line, box_label}
use Rattle.mt_render.proofs.AppendLaws.{five}
use Rattle.mt_render.proofs.graph.push_box.Goals as goal

pub returns : goal.returns
returns c =
    five c.args.text.now.items c.extend_from_slice.new.self.items c.push_number.new.text.items c.push_box_label.new.text.items c.push_nodes.new.text.items c.extend_from_slice-2.new.self.items
    (codes "subgraph \"cluster_") (decimal c.args.space) (box_label c.args.space c.args.name.now) (flat_map (node_line c.args.palette.now c.args.space) c.args.rows.now) (codes "}\n")
    c.in_ok-extend_from_slice.ensures.items c.in_ok-push_number.ensures.text c.in_ok-push_box_label.ensures c.in_ok-push_nodes.ensures c.in_ok-extend_from_slice-2.ensures.items
