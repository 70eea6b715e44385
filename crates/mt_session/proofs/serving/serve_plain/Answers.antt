use Rattle.mt_session.proofs.SessionLaws.{all_ran, session_served, line_remembers}
use Rattle.mt_session.proofs.FollowLaws.{session_followed}
use Rattle.mt_session.proofs.serving.serve_plain.Goals as goal

pub returns-clause-served : goal.returns-clause-served
returns-clause-served g c =
    let e = c.serve_lines-end in
    session_served _ _ c.args.floor.now c.settle.new.self e.new.place c.leave.new.floor c.new-session.result e.new.session c.leave.new.self _ _ _ c.settle.ensures.settled c.new-session.ensures
    (all_ran _ _ (c.settle.new.self, c.new-session.result) (e.new.place, e.new.session) _ _ e.result e.ensures.served) e.ensures.ready c.leave.ensures.state c.leave.ensures.none

pub returns-clause-headline : goal.returns-clause-headline
returns-clause-headline g c capacity before from = session_followed capacity before _ _ c.args.floor.now c.leave.new.floor _ _ _ from (returns-clause-served g c)

pub returns-clause-memory : goal.returns-clause-memory
returns-clause-memory g c =
    let e = c.serve_lines-end in
    let r = all_ran _ _ (c.settle.new.self, c.new-session.result) (e.new.place, e.new.session) _ _ e.result e.ensures.served in line_remembers e.result r.turns r.last _ r.rest _ r.cause
