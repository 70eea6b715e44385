use Rattle.mt_peers.proofs.ChosenLaws.{halved_found, halved_absent}
use Rattle.mt_peers.proofs.chosen.is_halved.Goals as goal

pub returns-in-Ok : goal.returns-in-Ok
returns-in-Ok c = halved_found c.args.ids.now c.args.id c.in-Ok.field-0 c.in-Ok.ensures.bound c.in-Ok.ensures.ok

pub returns-in-Err : goal.returns-in-Err
returns-in-Err c = halved_absent c.args.ids.now c.args.id c.in-Err.field-0 c.requires c.in-Err.ensures.position
