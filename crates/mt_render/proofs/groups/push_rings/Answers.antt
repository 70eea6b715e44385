use Rattle.std.proofs.Common.{◌≡◌, ◌<◌, List, length, get_or, refl, sym, ap, subst, ◌∙◌}
use Rattle.std.specs.Prelude.{slice_get}
use Rattle.std.proofs.lemmas.Option.{slice_get_read}
use Rattle.mt_render.specs.Groups.{NodeView}
use Rattle.mt_render.proofs.GroupLaws.{one_ring}
use Rattle.mt_render.proofs.groups.push_rings.Goals as goal

pub push_ring_edge-requires : goal.push_ring_edge-requires
push_ring_edge-requires c =
    let nodes = c.deref-node-items.result.now in
    ap (λ (ns : List NodeView). slice_get ns c.nodes.at) (sym (c.deref-node-items.ensures.value ∙ c.nodes-2.view_is)) ∙ slice_get_read nodes (length nodes) c.nodes.at c.node-item.result refl c.nodes-test.true c.node-item.is

pub nodes-preserved : goal.nodes-preserved
nodes-preserved c =
    let same = c.deref-node-items.ensures.value ∙ c.nodes-2.view_is in
    one_ring c.args.palette.now c.args.nodes.now c.nodes.at c.node-item.result c.nodes.text.items c.push_ring_edge.new.text.items (subst (λ (ns : List NodeView). c.nodes.at < length ns) same c.nodes-test.true)
    (subst (λ (ns : List NodeView). c.node-item.result ≡ get_or ns c.nodes.at c.node-item.result) same c.node-item.is) c.in_ok-push_ring_edge.ensures
    ∙ c.nodes.invariant
