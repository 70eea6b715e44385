use Rattle.std.proofs.Common.{Option, arith, subst}
use Rattle.mt_desk.specs.Calls.{WatcherView}
use Rattle.mt_session.specs.SharedServing.{IsPortion}
use Rattle.mt_session.proofs.WatcherLaws.{popped_runs, popped_same, portion_at_once}
use Rattle.mt_session.proofs.shared_answer.Shared.take_posts.Goals as goal

pub take_met-requires-clause-running : goal.take_met-requires-clause-running
take_met-requires-clause-running g c = popped_runs c.args.session.now.own c.pops.new.self.own c.args.most c.in_ok-printed.printed c.in_ok-printed.ensures.popped c.in_ok-printed.ensures.watched

pub returns-then-printed-eq0-clause-portion : goal.returns-then-printed-eq0-clause-portion
returns-then-printed-eq0-clause-portion g c =
    let same = popped_same c.args.session.now.own c.pops.new.self.own c.args.most c.in_ok-printed.printed c.in_ok-printed.ensures.popped c.in_ok-printed.ensures.watched (omega (arith, c.if-printed-eq0.true)) in
    subst (λ (w : Option WatcherView). IsPortion w c.args.most c.take_met.result c.take_met.new.session.own c.take_met.new.session.sight.seen) same c.take_met.ensures.portion

pub returns-clause-portion : goal.returns-clause-portion
returns-clause-portion g c =
    portion_at_once c.args.session.now.own c.pops.new.self.own c.args.most c.in_ok-printed.printed _ c.in_ok-printed.ensures.popped c.in_ok-printed.ensures.watched (λ none. absurd (omega (arith, none, c.if-printed-eq0.false)))
