use Rattle.std.proofs.Common.{arith}
use Rattle.mt_session.proofs.WatcherLaws.{portion_met, portion_none}
use Rattle.mt_session.proofs.shared_answer.Shared.take_met.Goals as goal

pub returns-then-meeting-clause-portion : goal.returns-then-meeting-clause-portion
returns-then-meeting-clause-portion g c =
    portion_met c.args.session.now.own c.meet.new.session.own c.pops.new.self.own c.in-Some.meeting c.args.most c.in_ok-posts.posts c.meet.new.session.sight.seen _ c.requires.some c.in-Some.ensures.met c.if-meeting.true c.in_ok-posts.ensures.popped

pub returns-clause-portion : goal.returns-clause-portion
returns-clause-portion g c =
    portion_none c.args.session.now.own c.meet.new.session.own c.in-Some.meeting c.args.most c.meet.new.session.sight.seen c.in-Some.ensures.met (omega (arith, c.if-meeting.false)) c.requires.running
