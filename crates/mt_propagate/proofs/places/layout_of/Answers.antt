use Rattle.std.proofs.Common.{◌∷◌, cond, map, ap, ◌∙◌}
use Rattle.mt_mounts.specs.Forest.{id_of}
use Rattle.mt_propagate.specs.World.{world_view}
use Rattle.mt_propagate.specs.Planned.{copies_by, layout_of}
use Rattle.mt_propagate.proofs.PlansLaws.{copies-by}
use Rattle.mt_propagate.proofs.places.layout_of.Goals as goal

pub returns-clause-layout : goal.returns-clause-layout
returns-clause-layout c =
    let moved = c.args.tree.now.moved in
    let first = c.args.place.mount in
    let sources = c.new-2.ensures ∙ c.in_ok-sources.ensures.ids ∙ ap (map id_of) c.deref.ensures.value in
    let others = c.new.ensures ∙ c.in_ok-others.ensures.items in
    ap (layout_of (world_view c.args.world.now) c.args.tree.now.top c.args.place moved)
    ((λ i. copies_by (sources i) (cond moved (others i) (first ∷ others i))) ∙ copies-by c.args.tree.now.mounts.items (cond moved c.args.targets.now (first ∷ c.args.targets.now)))
