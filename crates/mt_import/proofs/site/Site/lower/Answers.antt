use Rattle.std.proofs.Common.{rules}
use Rattle.mt_import.proofs.CoverLaws.{plain_lowered, member_lowered}
use Rattle.mt_import.proofs.site.Site.lower.Goals as goal

pub returns : goal.returns
returns c =
    plain_lowered c.args.self.groups.now.all c.args.self.space.now c.args.self.stage.now c.args.mount.now c.args.script.now c.run-2.new.script (search rules) (search rules)
    c.in_ok-run-2.ensures

pub returns-in-Some : goal.returns-in-Some
returns-in-Some c =
    member_lowered c.args.self.groups.now.all c.args.self.space.now c.args.self.stage.now c.args.mount.now c.in-Some.group c.in_ok-place.place.items c.as_slice-in-Some.result.now
    c.args.script.now c.run.new.script c.unmount.new.script (search rules) (search rules) (search rules) (search rules) c.in_ok-unmount.ensures
