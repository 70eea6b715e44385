use Rattle.std.proofs.Common.{◌∙◌}
use Rattle.mt_peers.proofs.ListedLaws.{seen, group-listed, slave-after-listed}
use Rattle.mt_peers.proofs.peers.Peers.slave_after.Goals as goal

pub returns-clause-own : goal.returns-clause-own
returns-clause-own c = c.number.ensures.number ∙ group-listed _ _ _ (seen c.self.view_is c.self.invariant).listed c.args.id

pub returns-clause-next : goal.returns-clause-next
returns-clause-next c = c.after.ensures ∙ slave-after-listed _ _ _ (seen c.self.view_is c.self.invariant).listed c.args.id
