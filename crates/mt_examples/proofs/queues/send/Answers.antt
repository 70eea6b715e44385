use Rattle.std.specs.Arc.{arc_value}
use Rattle.std.proofs.lemmas.Result.{on_ok_weaker}
use Rattle.mt_examples.proofs.SendLaws.{may_send, next_sent}
use Rattle.mt_examples.proofs.queues.send.Goals as goal

pub push-requires : goal.push-requires
push-requires g c = may_send c.args.number c.args.sender.now (arc_value c.args.post) c.requires.next c.requires.post.0 c.requires.post.1

pub returns-clause-ok : goal.returns-clause-ok
returns-clause-ok g c =
    on_ok_weaker _ (next_sent c.args.number c.args.sender.now c.push.new.self (arc_value c.args.post) c.requires.next c.requires.post.0 c.requires.post.1) c.push.ensures.ok
