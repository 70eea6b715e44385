use Rattle.std.proofs.Common.{◌∙◌}
use Rattle.mt_propagate.specs.World.{world_view}
use Rattle.mt_world.specs.Hidden.{IsHidden}
use Rattle.mt_world.proofs.HiddenLaws.{hidden_end, spaces_end}
use Rattle.mt_world.proofs.hidden.hide.Goals as goal

pub returns-clause-beside : goal.returns-clause-beside
returns-clause-beside c =
    let w = world_view c.args.world.now in
    let v = world_view c.add_mount.new.world in
    let there : IsHidden w v c.in-Some-2.mount = rw c.in-Some-2.is at c.in_ok-mount.ensures.mount in
    hidden_end c.args.space w v (world_view c.join.new.world) c.in-Some-2.mount _ c.in_ok-_why._why c.in_ok-mount.ensures.beside there c.in_ok-_why.ensures.joined c.in_ok-_why.ensures.refused

pub returns-clause-spaces : goal.returns-clause-spaces
returns-clause-spaces c =
    spaces_end (world_view c.add_mount.new.world) (world_view c.join.new.world) c.in-Some-2.mount.id _ c.in_ok-_why._why c.in_ok-_why.ensures.joined c.in_ok-_why.ensures.refused ∙ c.in_ok-mount.ensures.spaces
