use Rattle.mt_import.proofs.FrontLaws.{fronted}
use Rattle.mt_import.proofs.plan.Plan.make_front.Goals as goal

pub returns : goal.returns
returns c =
    fronted c.args.self.now.groups.all _ _ _ _ c.args.script.now c.append.new.self c.command.new.script c.append-2.new.self c.command-2.new.script c.stage_devices.new.script
    c.stage_members.new.script c.in_ok-append.ensures c.in_ok-command.ensures c.in_ok-append-2.ensures c.in_ok-command-2.ensures c.in_ok-stage_devices.ensures
    c.in_ok-stage_members.ensures
