use Rattle.std.proofs.Common.{ap, ◌∙◌}
use Rattle.std.specs.Prelude.{map}
use Rattle.mt_skel.specs.Keyed.{among}
use Rattle.mt_propagate.specs.World.{world_view, space_of}
use Rattle.mt_propagate.proofs.SeenLaws.{spaces-seen}
use Rattle.mt_propagate.proofs.turned_groups.spaces_seen.Goals as goal

pub returns-clause-seen : goal.returns-clause-seen
returns-clause-seen c n =
    let w = world_view c.args.world.now in
    c.in_order.ensures.same n
    ∙ ap (λ xs. among xs n) (c.in_ok-spaces_of.ensures.spaces ∙ ap (map (space_of w)) (c.deref.ensures.value ∙ c.in_ok-members.ensures.members))
    ∙ spaces-seen w n c.args.group
