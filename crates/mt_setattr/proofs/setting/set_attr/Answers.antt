use Rattle.std.proofs.Common.{◌∙◌, sym}
use Rattle.mt_propagate.specs.World.{world_view}
use Rattle.mt_setattr.proofs.ChangeLaws.{change-kept-by}
use Rattle.mt_setattr.proofs.WalkedLaws.{walked-there}
use Rattle.mt_setattr.proofs.setting.set_attr.Goals as goal

pub change_from-requires-clause-there : goal.change_from-requires-clause-there
change_from-requires-clause-there c =
    let w = world_view c.args.world.now in
    walked-there w.skel w.forest c.args.space c.args.path.now c.in_ok-place.place (sym c.walk.ensures ∙ c.in_ok-place.was)

pub returns-clause-kept : goal.returns-clause-kept
returns-clause-kept c =
    let w = world_view c.args.world.now in
    change-kept-by c.change_from.result w (world_view c.change_from.new.world) c.args.change.now c.in_ok-place.place.mount c.change_from.ensures.done c.change_from.ensures.unchanged
