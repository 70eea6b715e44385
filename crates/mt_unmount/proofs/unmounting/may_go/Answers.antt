use Rattle.std.proofs.Common.{ap, ◌∙◌, arith}
use Rattle.std.specs.Prelude.{is_some}
use Rattle.mt_mounts.specs.Forest.{on}
use Rattle.mt_propagate.specs.World.{world_view}
use Rattle.mt_unmount.proofs.MayGoLaws.{goes-under-one, stays-under-more}
use Rattle.mt_unmount.proofs.unmounting.may_go.Goals as goal

pub returns-then-children-gt1 : goal.returns-then-children-gt1
returns-then-children-gt1 c =
    stays-under-more (world_view c.args.world.now) c.requires.well_formed c.args.mount.now c.child_count-children.result c.child_count-children.ensures c.if-children-gt1.true

pub returns-else-children-eq0 : goal.returns-else-children-eq0
returns-else-children-eq0 c =
    let w = world_view c.args.world.now in
    c.is_some.ensures ∙ ap is_some (c.standing_at.ensures ∙ ap (on w.forest) c.root_place.ensures)
    ∙ goes-under-one w c.requires.well_formed c.args.mount.now c.child_count-children.result c.child_count-children.ensures (omega (arith, c.if-children-gt1.false, c.if-children-eq0.false))
