use Rattle.std.proofs.Common.{◌≡◌, ◌<◌, length, get_or, sym, ap, ◌∙◌, arith}
use Rattle.std.proofs.lemmas.List.{take_all}
use Rattle.mt_lists.specs.Lists.{with_number}
use Rattle.mt_lists.specs.Numbered.{rows_by}
use Rattle.mt_render.specs.Groups.{NodeView}
use Rattle.mt_render.specs.Placed.{PlacedView, at_places, own_place, own_group}
use Rattle.mt_render.proofs.EnteredLaws.{not_entered, entered}
use Rattle.mt_render.proofs.GroupLaws.{places_rise, placed_long, placed_here}
use Rattle.mt_render.proofs.groups.enter_groups.Goals as goal

pub enter-requires-clause-absent : goal.enter-requires-clause-absent
enter-requires-clause-absent c =
    let all = at_places 0 c.args.nodes.now in
    let p : PlacedView = record { at = c.nodes.at; node = c.index-nodes-at.result } in
    let within : c.nodes.at < length all = let long = placed_long 0 c.args.nodes.now in omega (arith, long, c.nodes-test.true) in
    not_entered own_place own_group all c.nodes.at p c.nodes.members.rows within (placed_here c.args.nodes.now c.nodes.at c.index-nodes-at.result c.nodes-test.true c.index-nodes-at.is) (places_rise 0 c.args.nodes.now) c.nodes.invariant.told

pub nodes-preserved : goal.nodes-preserved
nodes-preserved c =
    let all = at_places 0 c.args.nodes.now in
    let p : PlacedView = record { at = c.nodes.at; node = c.index-nodes-at.result } in
    let within : c.nodes.at < length all = let long = placed_long 0 c.args.nodes.now in omega (arith, long, c.nodes-test.true) in
    record {
      told =
          entered own_place own_group all c.nodes.at p c.nodes.members.rows c.enter.new.self.rows within (placed_here c.args.nodes.now c.nodes.at c.index-nodes-at.result c.nodes-test.true c.index-nodes-at.is)
          (places_rise 0 c.args.nodes.now) c.nodes.invariant.told (c.enter.ensures.rows ∙ ap (λ (n : NodeView). with_number c.nodes.at n.row.shared c.nodes.members.rows) c.node.view_is);
      room = omega (arith, c.enter.ensures.room, c.nodes.invariant.room);
    }

pub returns : goal.returns
returns c =
    let long = placed_long 0 c.args.nodes.now in
    c.nodes.invariant.told ∙ ap (rows_by own_place own_group) (take_all c.nodes.at (at_places 0 c.args.nodes.now) (omega (arith, long, c.nodes-test.false)))
