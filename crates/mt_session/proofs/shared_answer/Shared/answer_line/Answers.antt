use Rattle.mt_requests.specs.Requests.{request_of}
use Rattle.mt_session.proofs.SharedLineLaws.{read_is, unread_served, serves_read}
use Rattle.mt_session.proofs.shared_answer.Shared.answer_line.Goals as goal

pub returns-in-Ok-clause-answered : goal.returns-in-Ok-clause-answered
returns-in-Ok-clause-answered g c = read_is c.args.session.now _ (request_of c.args.line.now) c.in-Ok.request _ _ _ c.in-Ok.ensures.read c.serve_request.ensures.served

pub returns-in-Ok-clause-end : goal.returns-in-Ok-clause-end
returns-in-Ok-clause-end g c = serves_read c.args.session.now _ _ _ _ c.serve_request.result c.serve_request.ensures.served

pub returns-in-Err-clause-answered : goal.returns-in-Err-clause-answered
returns-in-Err-clause-answered g c =
    unread_served c.args.session.now (request_of c.args.line.now) c.in-Err.fault _ _ _ c.in-Err.ensures.read (rw c.refusal.ensures at c.answer_with.ensures.sent)
