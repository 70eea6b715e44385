use Rattle.std.proofs.Common.{rules}
use Rattle.mt_import.proofs.FrontLaws.{member_pushed}
use Rattle.mt_import.proofs.front.stage_member.Goals as goal

pub returns : goal.returns
returns c =
    member_pushed c.args.number c.args.group.now c.as_slice-path.result.now c.args.script.now c.group_comment.new.script c.stage_below.new.script c.command.new.script
    (search rules) (search rules) c.in_ok-stage_below.ensures c.in_ok-command.ensures
