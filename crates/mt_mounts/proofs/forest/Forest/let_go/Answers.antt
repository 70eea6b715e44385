use Rattle.std.proofs.Common.{sym, ◌∙◌}
use Rattle.mt_mounts.proofs.FollowLaws.{same_under, others_under}
use Rattle.mt_mounts.proofs.forest.Forest.let_go.Goals as goal

pub returns-then-renew-clause-part : goal.returns-then-renew-clause-part
returns-then-renew-clause-part c m is =
    sym (same_under c.args.other.now.mounts c.renew.new.self.mounts c.args.id c.in-Some.mount (sym c.in-Some.ensures) (c.renew.ensures.here c.if-renew.true)) ∙ is

pub returns-then-renew-clause-whole : goal.returns-then-renew-clause-whole
returns-then-renew-clause-whole c e =
    same_under c.args.other.now.mounts c.renew.new.self.mounts c.args.id c.in-Some.mount (sym c.in-Some.ensures) (c.renew.ensures.here c.if-renew.true)

pub returns-then-renew-clause-others : goal.returns-then-renew-clause-others
returns-then-renew-clause-others c =
    others_under c.args.other.now.mounts c.args.self.now.mounts c.renew.new.self.mounts c.args.id c.in-Some.mount (sym c.in-Some.ensures) c.renew.ensures.others

pub returns-clause-others : goal.returns-clause-others
returns-clause-others c i e =
    others_under c.args.other.now.mounts c.args.self.now.mounts c.renew.new.self.mounts c.args.id c.in-Some.mount (sym c.in-Some.ensures) c.renew.ensures.others i e
    ∙ c.take_out-2.ensures.others i e
