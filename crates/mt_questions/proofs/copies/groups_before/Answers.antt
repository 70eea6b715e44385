use Rattle.std.proofs.Common.{◌∙◌}
use Rattle.mt_questions.specs.Copies.{is_on_way}
use Rattle.mt_questions.proofs.WayLaws.{one_further}
use Rattle.mt_questions.proofs.copies.groups_before.Goals as goal

pub groups-preserved : goal.groups-preserved
groups-preserved c =
    one_further (is_on_way c.args.end) c.groups.before.items c.push.new.self.items c.args.groups.now c.groups.group-index 0 c.is_on_way.result c.groups-test.true c.in_ok-push.ensures.items
    c.is_on_way.ensures c.if-not-is_on_way.false
    ∙ c.groups.invariant
