use Rattle.std.proofs.Common.{sym, ap, ◌∙◌}
use Rattle.std.specs.Option.{option_and_then}
use Rattle.mt_render.specs.Groups.{NodeView}
use Rattle.mt_render.proofs.groups.push_ring_edge.Goals as goal

pub next_in_ring-requires : goal.next_in_ring-requires
next_in_ring-requires c = ap (option_and_then (λ (n : NodeView). n.row.shared)) c.requires ∙ ap (λ (n : NodeView). n.row.shared) (sym c.node.view_is) ∙ c.in-Some.is
