use Rattle.mt_session.proofs.HistoryLaws.{shared_sessions_act, shared_stops_hold}
use Rattle.mt_session.proofs.laws.shared_sessions_act.Goals as goal

pub returns-clause-acts : goal.returns-clause-acts
returns-clause-acts c = shared_sessions_act

pub returns-clause-stops : goal.returns-clause-stops
returns-clause-stops c = shared_stops_hold
