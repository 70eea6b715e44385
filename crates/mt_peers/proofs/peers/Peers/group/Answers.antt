use Rattle.std.proofs.Common.{◌∙◌}
use Rattle.mt_peers.proofs.ListedLaws.{seen, group-listed}
use Rattle.mt_peers.proofs.peers.Peers.group.Goals as goal

pub returns : goal.returns
returns c = c.number.ensures.number ∙ group-listed _ _ _ (seen c.self.view_is c.self.invariant).listed c.args.id
