use Rattle.std.proofs.Common.{codes}
use Rattle.mt_render.specs.Edges.{name, arrow}
use Rattle.mt_render.proofs.AppendLaws.{two}
use Rattle.mt_render.proofs.graph.push_child.Goals as goal

pub returns : goal.returns
returns c =
    two c.args.text.now.items c.push_name.new.text.items c.push_arrow.new.text.items (name c.args.space c.args.parent) (arrow c.args.space c.args.child (codes "arrowhead=none") (codes "black"))
    c.in_ok-push_name.ensures c.in_ok-push_arrow.ensures
