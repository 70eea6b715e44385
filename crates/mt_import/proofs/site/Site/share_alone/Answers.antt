use Rattle.std.proofs.Common.{rules}
use Rattle.mt_import.proofs.CommandLaws.{shared_pushed}
use Rattle.mt_import.proofs.site.Site.share_alone.Goals as goal

pub returns : goal.returns
returns c =
    shared_pushed c.args.self.groups.now.all c.args.self.space.now c.args.mount.now.row.now c.args.path.now c.late_options-options.result.now c.args.script.now
    c.group_comment.new.script c.set_attributes.new.script c.in-Some.group c.here.result (search rules) (search rules) (search rules) (search rules)
    c.in_ok-set_attributes.ensures
