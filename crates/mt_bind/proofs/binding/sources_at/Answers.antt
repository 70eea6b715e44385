use Rattle.mt_propagate.specs.World.{world_view}
use Rattle.mt_bind.proofs.MemberLaws.{either_is}
use Rattle.mt_bind.proofs.binding.sources_at.Goals as goal

pub returns-clause-sources : goal.returns-clause-sources
returns-clause-sources c =
    either_is (world_view c.args.world.now) c.args.from c.requires.well_formed.forest.rising c.args.recursive c.in_ok-members.members.items c.in_ok-members.ensures.members
