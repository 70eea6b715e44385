use Rattle.std.proofs.Common.{Bor, ◌-◌, List, ◌++◌, map, ap, ◌∙◌}
use Rattle.std.proofs.lemmas.Result.{IfOk-weaker}
use Rattle.serde_json.specs.View.{view}
use Rattle.serde_json.specs.declared.value.Value.{Value}
use Rattle.mt_info.specs.declared.row.Row.{Row}
use Rattle.mt_render.specs.Objects.{node}
use Rattle.mt_render.proofs.NodeLaws.{one_node, node_is}
use Rattle.mt_render.proofs.objects.+node.Goals as goal

pub below-init : goal.below-init
below-init t c =
    let made = node c.args.children.now (c.args.generations - 1) in
    ap (λ (vs : List Value). map view vs ++ map made (map (λ row. row.now) c.deref-child-items.result.now)) c.new-values.ensures.items
    ∙ ap (map made) (ap (λ (rs : List (Bor Row)). map (λ (row : Bor Row). row.now) rs) c.deref-child-items.ensures.value ∙ c.in_ok-below.ensures)

pub below-preserved : goal.below-preserved
below-preserved t c =
    one_node (λ row. row.now) (node c.args.children.now (c.args.generations - 1)) c.deref-child-items.result.now c.below.child-index c.child-item.result c.in_ok-node.field-0 c.below.values.items c.push.new.list.items
    c.below-test.true c.child-item.is c.in_ok-push.ensures.ok c.in_ok-node.ensures
    ∙ c.below.invariant

pub returns : goal.returns
returns t c =
    IfOk-weaker c.node_with-2.result _ _
    (λ v e.
    node_is (λ row. row.now) c.args.children.now c.args.generations c.args.row.now c.deref-child-items.result.now c.below.child-index (map view c.below.values.items) (view v) c.if-generations-eq0.false c.below-test.false c.below.invariant e)
    c.node_with-2.ensures
