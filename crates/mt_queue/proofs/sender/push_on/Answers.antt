use Rattle.mt_queue.proofs.StepLaws.{pushes, fills}
use Rattle.mt_queue.proofs.KeptLaws.{sent_more, sent_same}
use Rattle.mt_queue.proofs.sender.push_on.Goals as goal

pub push_as-requires-clause-rule : goal.push_as-requires-clause-rule
push_as-requires-clause-rule g c =
    let i = c.requires.pass in
    (pushes _ _ _ _ i.may_push i.capacity c.requires.run, fills _ _ i.may_push)

pub returns-in-Ok-clause-pass : goal.returns-in-Ok-clause-pass
returns-in-Ok-clause-pass g c = (sent_more _ _ _ c.args.post c.requires.pass c.push_as.ensures.queue c.requires.run c.in-Ok.ensures.rule, c.push_as.ensures.queue)

pub returns-in-Err-clause-pass : goal.returns-in-Err-clause-pass
returns-in-Err-clause-pass g c = (sent_same _ _ _ c.requires.pass c.push_as.ensures.queue c.in-Err.ensures.rule.1, c.push_as.ensures.queue)
