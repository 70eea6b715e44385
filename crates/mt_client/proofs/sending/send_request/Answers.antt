use Rattle.mt_client.proofs.EndingLaws.{part_sent}
use Rattle.mt_client.proofs.sending.send_request.Goals as goal

pub returns-then-is_ok-clause-part : goal.returns-then-is_ok-clause-part
returns-then-is_ok-clause-part g c = part_sent g.W.Output c.args.request.now c.args.writer.now c.send_whole.new.writer c.send_whole.result c.send_whole.ensures.out c.send_whole.ensures.part

pub returns-clause-part : goal.returns-clause-part
returns-clause-part g c = part_sent g.W.Output c.args.request.now c.args.writer.now c.send_whole.new.writer c.send_whole.result c.send_whole.ensures.out c.send_whole.ensures.part
