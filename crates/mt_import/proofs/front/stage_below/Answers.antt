use Rattle.std.proofs.Common.{rules}
use Rattle.mt_import.proofs.FrontLaws.{below_pushed}
use Rattle.mt_import.proofs.front.stage_below.Goals as goal

pub returns : goal.returns
returns c =
    below_pushed c.args.group.now c.in-Some.master c.args.path.now c.as_slice.result.now c.args.script.now c.command-2.new.script c.command-3.new.script (search rules)
    (search rules) c.in_ok-command.ensures c.in_ok-command-2.ensures
