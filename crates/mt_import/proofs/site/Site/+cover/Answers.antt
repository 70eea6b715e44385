use Rattle.std.proofs.Common.{rules}
use Rattle.mt_import.proofs.CoverLaws.{covered_more}
use Rattle.mt_import.proofs.TreeLaws.{got_of}
use Rattle.mt_import.proofs.site.Site.+cover.Goals as goal

pub returns : goal.returns
returns t c =
    covered_more c.args.self.groups.now.all c.args.self.space.now c.args.self.stage.now c.args.mounts.now c.in-Some-get.mount.now c.in-Some.number.now c.in-Some.others.now
    c.args.covers.now c.args.script.now c.rise.new.script c.cover.new.script c.lower.new.script (search rules)
    (got_of c.args.mounts.now c.in-Some.number.now c.in-Some-get.mount.now (search rules) (search rules)) (search rules) (search rules) c.in_ok-lower.ensures
