use Rattle.std.proofs.Common.{rules}
use Rattle.mt_import.proofs.FrontLaws.{group_staged}
use Rattle.mt_import.proofs.front.stage_group.Goals as goal

pub returns : goal.returns
returns c =
    group_staged c.args.groups.now.all c.args.number c.in-Some.group c.args.script.now c.stage_member.new.script (search rules) c.in_ok-stage_member.ensures
