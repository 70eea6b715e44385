use Rattle.std.proofs.Common.{sym, ◌∙◌}
use Rattle.mt_propagate.specs.World.{world_view}
use Rattle.mt_world.proofs.MemberLaws.{member_shows}
use Rattle.mt_world.proofs.joined.why_masterless.Goals as goal

pub returns : goal.returns
returns c none = (member_shows (world_view c.args.world.now) c.args.master c.in-Some.member c.args.fs c.requires (sym c.first_member.ensures.first ∙ c.in-Some.is) (c.why_elsewhere.ensures none)).0
