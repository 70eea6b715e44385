use Rattle.mt_requests.proofs.CountLaws.{read_right}
use Rattle.mt_requests.proofs.request.read_request.Goals as goal

pub returns-clause-counted : goal.returns-clause-counted
returns-clause-counted c = read_right c.args.line.now c.read_line.result c.read_line.ensures
