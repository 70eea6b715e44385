use Rattle.std.proofs.Common.{◌∙◌}
use Rattle.mt_peers.proofs.ListedLaws.{seen, member-after-listed}
use Rattle.mt_peers.proofs.peers.Peers.member_after.Goals as goal

pub returns-clause-next : goal.returns-clause-next
returns-clause-next c = c.after.ensures ∙ member-after-listed _ _ _ (seen c.self.view_is c.self.invariant).listed c.args.id
