use Rattle.std.proofs.Common.{ap}
use Rattle.mt_desk.specs.Entries.{WitnessView}
use Rattle.mt_session.proofs.SightLaws.{sees_at}
use Rattle.mt_session.proofs.WatcherLaws.{has_met}
use Rattle.mt_session.proofs.shared_answer.Shared.meet.Goals as goal

pub returns-clause-met : goal.returns-clause-met
returns-clause-met g c =
    let m = c.meet-met in
    has_met c.deref_mut.result.now m.new.desk c.args.session.now.own m.result m.new.self.own m.new.self.sight m.ensures.none m.ensures.met m.ensures.kept.0 m.ensures.kept.1 (ap (λ (v : WitnessView). v.seen) m.ensures.sight)

pub returns-clause-sight : goal.returns-clause-sight
returns-clause-sight g c = sees_at c.args.session.now.sight _ _ _ c.meet-met.ensures.kept c.meet-met.ensures.sight
